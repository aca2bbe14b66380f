-- What a request comes to, by the kinds of outcome that there are: an error, a reply alone, a change of what the sender has active, a setting of a
-- parameter, an order of a command. What holds of each kind holds of every request; so, too, of what one request comes to at two nodes that hold the
-- same values and, of the client that asks, the same counts and as many active modules. Assumes nothing.
use Rattle.std.specs.Prelude.{Option, Some, None, slice_get}
use Prim.Native.Nat.{ℕ}
use mathlib.Core.Bool.{Bool, true, false, cond}
use mathlib.Core.List.{List, [], ◌∷◌, ◌++◌}
use mathlib.Core.Path.{◌≡◌, refl, sym, ap, ap₂, subst}
use lib.Dec.{eqb}
use Rattle.ascii.specs.Text.{bytes}
use Rattle.ascii.specs.Bytes.{is_some}
use Rattle.fit.specs.Fit.{Verdict, fits, rangeError, wrongType, badJSON}
use Rattle.table.specs.Table.{Parameter, Command, Module, Table}
use Rattle.table.specs.Search.{Placed, parameters, commands, find_module, find_parameter, find_command}
use Rattle.table.proofs.Search.{parameter_there, parameter_named, command_there, command_named}
use Rattle.report.specs.Report.{report}
use Rattle.message.specs.Line.{Parts}
use Rattle.message.specs.Request.{Request, identify, describe, ping, activate, deactivate, read, change, execute, count, malformed, check}
use Rattle.message.specs.Error.{Fault, class, fault, Class, ProtocolError, NoSuchModule, NoSuchParameter, NoSuchCommand, ReadOnly, BadJSON, WrongType, RangeError}
use Rattle.message.specs.Reply.{Held, valued, failed, DataReport, Reply, identification, describing, pong, reply, done, counted, error, checked}
use Rattle.outbox.specs.Outbox.{Record, final, order_command}
use Rattle.plain.specs.Node.{Value, holding, showing, Node, active_count, report_of}
use Rattle.plain.specs.Answer.{Outcome, denied, carried, found, let_in, argument_verdict, argument_form, judged_at, stored_at, activates, deactivates, in_scope, tells, reads, sets, changes, does, outcome, conclude, shows, judging, checks}

-- ## What an outcome leaves and sends

abbrev pub node_after : Node → Outcome → Node
node_after n (denied x) = n
node_after n (carried m ss rs r) = m

-- the records before the reply
abbrev pub before : Outcome → List Record
before (denied x) = []
before (carried m ss rs r) = rs

abbrev pub reply_to : Parts → Outcome → Reply
reply_to p (denied x) = error p.action p.specifier x
reply_to p (carried m ss rs r) = r

pub concluded : (w : Table) (n : Node) (c now : ℕ) (p : Parts) (o : Outcome)
    → conclude w n c now p o ≡ (node_after n o, before o ++ (final c (reply_to p o) ∷ []))
unfolding conclude
concluded w n c now p (denied x) = refl
concluded w n c now p (carried m ss rs r) = refl

-- ## Kinds of outcome

-- a change that is let in, or a check: of parameter k, to the text v, where these values are held
pub record LetIn (w : Table) (values : ℕ → Value) (k : ℕ × Placed Parameter) (v : List ℕ) : Type 0 where
  pub there : slice_get (parameters w) k.0 ≡ Some k.1
  pub writable : k.1.it.readonly ≡ false
  pub fitting : judged_at values k v ≡ fits

-- requests of client c that are answered by a reply alone, with the reply, at a node
pub data Tells (w : Table) (n : Node) (c now : ℕ) : Request → Reply → Type 0 where
  by_identify : Tells w n c now identify (identification w.edition)
  by_describe : Tells w n c now describe (describing (report w))
  by_ping : {token : List ℕ} → Tells w n c now (ping token) (pong token now)
  by_read : (k : ℕ × Placed Parameter) → slice_get (parameters w) k.0 ≡ Some k.1 → (v : List ℕ) (t : ℕ) → n.values k.0 ≡ showing v t
      → Tells w n c now (read k.1.module_name k.1.it.name) (reply (report_of k.1 (showing v t)))
  by_check : (k : ℕ × Placed Parameter) (v : List ℕ) → LetIn w n.values k v → is_some w.edition ≡ true
      → Tells w n c now (check k.1.module_name k.1.it.name v) (checked (report_of k.1 (showing (stored_at n.values k v) now)))
  by_count : Tells w n c now count (counted (n.counts c) (active_count w (n.clients c)) now)

-- two nodes tell client c the same of itself
pub record SameCounts (w : Table) (m n : Node) (c : ℕ) : Type 0 where
  pub counts : m.counts c ≡ n.counts c
  pub active : active_count w (m.clients c) ≡ active_count w (n.clients c)

-- the modules that an activation is about: all, or the one that is named
pub data Scope (w : Table) : Option (List ℕ) → (ℕ → Bool) → Type 0 where
  of_all : Scope w None (λ i. true)
  of_one : {m : List ℕ} (x : ℕ × Module) → find_module w m ≡ Some x → Scope w (Some m) (λ i. eqb i x.0)

-- a command that is let in, with the argument v
pub record Allowed (w : Table) (k : ℕ × Placed Command) (v : List ℕ) : Type 0 where
  pub there : slice_get (commands w) k.0 ≡ Some k.1
  pub fitting : argument_verdict k.1.it.argument v ≡ fits

abbrev pub done_of : Placed Command → ℕ → DataReport
done_of p now = record { module_name = p.module_name; accessible = p.it.name; held = valued (bytes "null"); time = now }

abbrev pub ordering : Node → ℕ → ℕ → ℕ × Placed Command → List ℕ → Outcome
ordering n c now k v = carried n [] (order_command c k.0 (argument_form k.1.it.argument v) ∷ []) (done (done_of k.1 now))

-- What is claimed of a request of client c and what it comes to at the nodes m and n, for each kind of outcome.
pub record Kinds (w : Table) (m n : Node) (c now : ℕ) (Q : Request → Outcome → Outcome → Type 0) : Type 0 where
  pub bad : (q : Request) (x : Class) → Q q (denied (class x)) (denied (class x))
  -- a read of parameter k, which can't be read
  pub failing : (k : ℕ × Placed Parameter) (f : Fault) (t : ℕ) → slice_get (parameters w) k.0 ≡ Some k.1 → n.values k.0 ≡ holding (failed f) t
      → Q (read k.1.module_name k.1.it.name) (denied (fault f t)) (denied (fault f t))
  pub telling : (q : Request) (r : Reply) → Tells w n c now q r → Q q (carried m [] [] r) (carried n [] [] r)
  pub activating : (s : Option (List ℕ)) (wanted : ℕ → Bool) → Scope w s wanted
      → Q (activate s) (activates w m c now wanted s) (activates w n c now wanted s)
  pub deactivating : (s : Option (List ℕ)) (wanted : ℕ → Bool) → Scope w s wanted
      → Q (deactivate s) (deactivates w m c now wanted s) (deactivates w n c now wanted s)
  pub setting : (k : ℕ × Placed Parameter) (v : List ℕ) → LetIn w n.values k v
      → Q (change k.1.module_name k.1.it.name v) (sets w m c now k (stored_at n.values k v)) (sets w n c now k (stored_at n.values k v))
  pub doing : (k : ℕ × Placed Command) (v : List ℕ) → Allowed w k v
      → Q (execute k.1.module_name k.1.it.name v) (ordering m c now k v) (ordering n c now k v)

-- ## Every request

-- what client c is told by a `_count`
abbrev pub counting : Table → Node → ℕ → ℕ → Outcome
counting w n c now = carried n [] [] (counted (n.counts c) (active_count w (n.clients c)) now)

module _ (w : Table) (m n : Node) (same : m.values ≡ n.values) (c now : ℕ) (Q : Request → Outcome → Outcome → Type 0) (h : Kinds w m n c now Q)
    (told : Q count (counting w m c now) (counting w n c now)) where
  found_hold : {A : Type 0} (q : Request) (x : Class) (o : Option A) (f g : A → Outcome) → ((a : A) → o ≡ Some a → Q q (f a) (g a))
      → Q q (found x o f) (found x o g)
  unfolding found
  found_hold q x None f g i = h.bad q x
  found_hold q x (Some a) f g i = i a refl

  let_in_hold : (q : Request) (v : Verdict) (o p : Outcome) → (v ≡ fits → Q q o p) → Q q (let_in v o) (let_in v p)
  unfolding let_in
  let_in_hold q fits o p i = i refl
  let_in_hold q rangeError o p i = h.bad q RangeError
  let_in_hold q wrongType o p i = h.bad q WrongType
  let_in_hold q badJSON o p i = h.bad q BadJSON

  writable_hold : (q : Request) (b : Bool) (o p : Outcome) → (b ≡ false → Q q o p) → Q q (cond b (denied (class ReadOnly)) o) (cond b (denied (class ReadOnly)) p)
  writable_hold q true o p i = h.bad q ReadOnly
  writable_hold q false o p i = i refl

  scope_hold : (r : Option (List ℕ) → Request) (f g : (ℕ → Bool) → Option (List ℕ) → Outcome)
      → ((s : Option (List ℕ)) (wanted : ℕ → Bool) → Scope w s wanted → Q (r s) (f wanted s) (g wanted s))
      → (s : Option (List ℕ)) → Q (r s) (in_scope w m c now f s) (in_scope w n c now g s)
  unfolding in_scope
  scope_hold r f g i None = i None _ of_all
  scope_hold r f g i (Some s) = found_hold (r (Some s)) NoSuchModule (find_module w s) _ _ (λ x e. i (Some s) _ (of_one x e))

  -- what is found by the names of its module and its own
  named_hold : {A : Type 0} (name : A → List ℕ) (r : List ℕ → List ℕ → Request) (s a : List ℕ) (x : Class) (o : Option (ℕ × Placed A))
      (f g : ℕ × Placed A → Outcome)
      → ((k : ℕ × Placed A) → o ≡ Some k → (k.1.module_name ≡ s) × (name k.1.it ≡ a))
      → ((k : ℕ × Placed A) → o ≡ Some k → Q (r k.1.module_name (name k.1.it)) (f k) (g k))
      → Q (r s a) (found NoSuchModule (find_module w s) λ y. found x o f) (found NoSuchModule (find_module w s) λ y. found x o g)
  named_hold name r s a x o f g is i =
      found_hold (r s a) NoSuchModule (find_module w s) _ _ (λ y e.
      found_hold (r s a) x o f g (λ k e. subst (λ q. Q q (f k) (g k)) (ap₂ r (is k e).0 (is k e).1) (i k e)))

  -- what is read is a value, or the error in its place
  read_hold : (k : ℕ × Placed Parameter) → slice_get (parameters w) k.0 ≡ Some k.1
      → Q (read k.1.module_name k.1.it.name) (reads w m c now k) (reads w n c now k)
  unfolding reads tells
  read_hold k e =
      subst (λ x. Q q (tells w m c now k.1 (x k.0).held (x k.0).time) (reads w n c now k)) (sym same)
      (go (n.values k.0).held refl)
    where
      q : Request
      q = read k.1.module_name k.1.it.name

      t : ℕ
      t = (n.values k.0).time

      go : (x : Held) → (n.values k.0).held ≡ x → Q q (tells w m c now k.1 x t) (tells w n c now k.1 x t)
      go (valued v) i = h.telling q _ (by_read k e v t (ap (λ x. holding x t) i))
      go (failed f) i = h.failing k f t e (ap (λ x. holding x t) i)

  -- what is let in, by what f and g make of its stored form
  judged_hold : (f g : ℕ × Placed Parameter → List ℕ → Outcome) (q : Request) (v : List ℕ) (k : ℕ × Placed Parameter)
      → slice_get (parameters w) k.0 ≡ Some k.1
      → (LetIn w n.values k v → Q q (f k (stored_at n.values k v)) (g k (stored_at n.values k v)))
      → Q q (judging w m c now f v k) (judging w n c now g v k)
  unfolding judging
  judged_hold f g q v k t i =
      subst (λ x. Q q (cond k.1.it.readonly (denied (class ReadOnly)) (let_in (judged_at x k v) (f k (stored_at x k v)))) (judging w n c now g v k))
      (sym same)
      (writable_hold q k.1.it.readonly _ _ (λ o.
      let_in_hold q (judged_at n.values k v) _ _ (λ e. i (record { there = t; writable = o; fitting = e }))))

  change_hold : (v : List ℕ) (k : ℕ × Placed Parameter) → slice_get (parameters w) k.0 ≡ Some k.1
      → Q (change k.1.module_name k.1.it.name v) (changes w m c now v k) (changes w n c now v k)
  unfolding changes
  change_hold v k t = judged_hold (sets w m c now) (sets w n c now) _ v k t (λ l. h.setting k v l)

  check_hold : is_some w.edition ≡ true → (v : List ℕ) (k : ℕ × Placed Parameter) → slice_get (parameters w) k.0 ≡ Some k.1
      → Q (check k.1.module_name k.1.it.name v) (checks w m c now v k) (checks w n c now v k)
  unfolding checks shows
  check_hold e v k t = judged_hold (shows w m c now) (shows w n c now) _ v k t (λ l. h.telling _ _ (by_check k v l e))

  -- a request of the next edition
  edition_hold : (q : Request) (o p : Outcome) → (is_some w.edition ≡ true → Q q o p)
      → Q q (cond (is_some w.edition) o (denied (class ProtocolError))) (cond (is_some w.edition) p (denied (class ProtocolError)))
  edition_hold q o p i = go (is_some w.edition) i
    where
      go : (b : Bool) → (b ≡ true → Q q o p) → Q q (cond b o (denied (class ProtocolError))) (cond b p (denied (class ProtocolError)))
      go true i = i refl
      go false i = h.bad q ProtocolError

  do_hold : (v : List ℕ) (k : ℕ × Placed Command) → slice_get (commands w) k.0 ≡ Some k.1
      → Q (execute k.1.module_name k.1.it.name v) (does w m c now v k) (does w n c now v k)
  unfolding does
  do_hold v k t =
      let_in_hold (execute k.1.module_name k.1.it.name v) (argument_verdict k.1.it.argument v) _ _
      (λ f. h.doing k v (record { there = t; fitting = f }))

  -- What holds of each kind, and of a `_count`, holds of what a request comes to at both nodes.
  pub all_hold : (q : Request) → Q q (outcome w m c now q) (outcome w n c now q)
  unfolding outcome
  all_hold identify = h.telling identify _ by_identify
  all_hold describe = h.telling describe _ by_describe
  all_hold (ping token) = h.telling (ping token) _ by_ping
  all_hold (activate s) = scope_hold activate (activates w m c now) (activates w n c now) h.activating s
  all_hold (deactivate s) = scope_hold deactivate (deactivates w m c now) (deactivates w n c now) h.deactivating s
  all_hold (read s a) =
      named_hold (λ (x : Parameter). x.name) read s a NoSuchParameter (find_parameter w s a) _ _ (parameter_named w s a)
      (λ k e. read_hold k (parameter_there w s a k e))
  all_hold (change s a v) =
      named_hold (λ (x : Parameter). x.name) (λ x y. change x y v) s a NoSuchParameter (find_parameter w s a) _ _ (parameter_named w s a)
      (λ k e. change_hold v k (parameter_there w s a k e))
  all_hold (execute s a v) =
      named_hold (λ (x : Command). x.name) (λ x y. execute x y v) s a NoSuchCommand (find_command w s a) _ _ (command_named w s a)
      (λ k e. do_hold v k (command_there w s a k e))
  all_hold (check s a v) =
      edition_hold (check s a v) _ _ (λ t.
      named_hold (λ (x : Parameter). x.name) (λ x y. check x y v) s a NoSuchParameter (find_parameter w s a) _ _ (parameter_named w s a)
      (λ k e. check_hold t v k (parameter_there w s a k e)))
  all_hold count = told
  all_hold malformed = h.bad malformed ProtocolError

-- The same where both tell the client that asks the same of itself.
pub outcomes_hold : (w : Table) (m n : Node) → m.values ≡ n.values → (c now : ℕ) → SameCounts w m n c → (Q : Request → Outcome → Outcome → Type 0)
    → Kinds w m n c now Q → (q : Request) → Q q (outcome w m c now q) (outcome w n c now q)
outcomes_hold w m n same c now own Q h = all_hold w m n same c now Q h (rw (own.counts, own.active) (h.telling count _ by_count))

-- The same at one node.
pub outcome_holds : (P : Request → Outcome → Type 0) (w : Table) (n : Node) (c now : ℕ) → Kinds w n n c now (λ q o p. P q o)
    → (q : Request) → P q (outcome w n c now q)
outcome_holds P w n c now h q = outcomes_hold w n n refl c now (record { counts = refl; active = refl }) (λ q o p. P q o) h q
