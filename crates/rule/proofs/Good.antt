-- Every good request is carried out, and every bad change refused. Assumes nothing.
use Rattle.std.specs.Prelude.{Option, Some, None, slice_get}
use Prim.Native.Nat.{ℕ, zero, suc}
use mathlib.Core.Bool.{Bool, true, false, cond, not, ◌&&◌, true≢false, or-true}
use mathlib.Core.List.{List, [], ◌∷◌, ◌++◌, map}
use mathlib.Core.Logic.{◌⊎◌, inl, inr}
use mathlib.Core.Path.{◌≡◌, refl, sym, ◌∙◌, ap}
use lib.Dec.{eqb}
use lib.ListN.{length}
use native.Mathlib.Omega.{arith}
use borrow.Author.Tests.{lt-ltb}
use Rattle.ascii.specs.Bytes.{is_some, same}
use Rattle.ascii.proofs.Lists.{same_self}
use Rattle.fit.specs.Fit.{Verdict, fits, rangeError, wrongType, badJSON}
use Rattle.table.specs.Table.{Parameter, Command, Accessible, Module, Table}
use Rattle.table.specs.Search.{Placed, parameters_of, commands_of, placed_from, parameters, commands, first_from, first, find_module, find_parameter, find_command}
use Rattle.table.proofs.Search.{parameter_there, parameter_named, command_there, command_named}
use Rattle.message.specs.Line.{Parts}
use Rattle.message.specs.Request.{Request, activate, deactivate, read, change, execute}
use Rattle.message.specs.Error.{Class, NoSuchModule, ReadOnly, class}
use Rattle.message.specs.Reply.{Held, valued, failed}
use Rattle.outbox.specs.Outbox.{Record, final}
use Rattle.plain.specs.Node.{counting, Client, Node, with_client, is_open, is_active, emptied, activated}
use Rattle.plain.specs.Answer.{Outcome, denied, outcome, found, let_in, argument_verdict, judged_at, stored_at, in_scope, activates, deactivates, tells, reads, changes, sets, does, judging}
use Rattle.plain.specs.Calls.{Piece, has_feed}
use Rattle.plain.proofs.Put.{put_at}
use Rattle.plain.proofs.Clients.{emptied_open, activated_active}
use Rattle.plain.proofs.Outcomes.{node_after, before, reply_to, of_all, of_one, ordering}
use Rattle.rule.specs.Records.{in_scope_of, is_there}
use Rattle.rule.specs.Theorems.{parts_at, request_of, AltersNothing, read_reply, GoodChangesAreMade, Activated, Deactivated, GoodActivationsAreMade, GoodReadsAreAnswered, GoodCommandsAreOrdered, refusal, BadChangesAreRefused}
use Rattle.rule.proofs.Told.{scope_is}
use Rattle.rule.proofs.Calls.{idle, Answered, Did, received, line, accepted_call}
use Rattle.rule.proofs.Rule.{answered_change}
use Rattle.std.proofs.lemmas.Option.{same_Some}

-- ## The module of what is found is found too

module _ {A : Type 0} (of : List Accessible → List A) where
  -- one among those of a module, or after them
  of_module : (n : ℕ) (name : List ℕ) (l : List A) (rest : List (Placed A)) (i : ℕ) (x : Placed A)
      → slice_get (map (λ (a : A). record { home = n; module_name = name; it = a }) l ++ rest) i ≡ Some x
      → (x.module_name ≡ name) ⊎ ((j : ℕ) × (slice_get rest j ≡ Some x))
  of_module n name [] rest i x e = inr (i, e)
  of_module n name (a ∷ l) rest zero x e =
      inl (ap (λ (y : Placed A). y.module_name) (sym (same_Some (record { home = n; module_name = name; it = a }) x e)))
  of_module n name (a ∷ l) rest (suc i) x e = of_module n name l rest i x e

  placed_module_lem : (y : List ℕ) (ms : List Module) (n k i : ℕ) (x : Placed A) → slice_get (placed_from of n ms) i ≡ Some x
      → same y x.module_name ≡ true → is_some (first_from (λ (m : Module). same y m.name) k ms) ≡ true
  unfolding placed_from first_from
  placed_module_lem y [] n k i x e h = let z : ◌≡◌ {A = ℕ} 0 1 = cc in absurd (omega arith)
  placed_module_lem y (m ∷ ms) n k i x e h =
      go (same y m.name) refl
      (of_module n m.name (of m.accessibles) (placed_from of (suc n) ms) i x e)
      (λ j f. placed_module_lem y ms (suc n) (suc k) j x f h)
    where
      go : (b : Bool) → same y m.name ≡ b → (x.module_name ≡ m.name) ⊎ ((j : ℕ) × (slice_get (placed_from of (suc n) ms) j ≡ Some x))
          → ((j : ℕ) → slice_get (placed_from of (suc n) ms) j ≡ Some x
          → is_some (first_from (λ (z : Module). same y z.name) (suc k) ms) ≡ true)
          → is_some (cond b (Some (k, m)) (first_from (λ (z : Module). same y z.name) (suc k) ms)) ≡ true
      go true q o r = refl
      go false q (inl f) r = absurd (true≢false (sym h ∙ ap (same y) f ∙ q))
      go false q (inr f) r = r f.0 f.1

parameter_module : (w : Table) (m a : List ℕ) (k : ℕ × Placed Parameter) → find_parameter w m a ≡ Some k → is_some (find_module w m) ≡ true
unfolding find_module first parameters
parameter_module w m a k e =
    placed_module_lem parameters_of m w.modules 0 0 k.0 k.1 (parameter_there w m a k e)
    (ap (same m) (parameter_named w m a k e).0 ∙ same_self m)

command_module : (w : Table) (m a : List ℕ) (k : ℕ × Placed Command) → find_command w m a ≡ Some k → is_some (find_module w m) ≡ true
unfolding find_module first commands
command_module w m a k e =
    placed_module_lem commands_of m w.modules 0 0 k.0 k.1 (command_there w m a k e) (ap (same m) (command_named w m a k e).0 ∙ same_self m)

-- ## What a good request comes to

found_some : {A : Type 0} (e : Class) (x : Option A) (o : Outcome) → is_some x ≡ true → found e x (λ y. o) ≡ o
unfolding found
found_some e None o h = absurd (true≢false (sym h))
found_some e (Some a) o h = refl

module _ (w : Table) (n : Node) (c t : ℕ) where
  good_set : (m a v : List ℕ) (k : ℕ × Placed Parameter) → find_parameter w m a ≡ Some k → k.1.it.readonly ≡ false
      → judged_at n.values k v ≡ fits → outcome w n c t (change m a v) ≡ sets w n c t k (stored_at n.values k v)
  unfolding outcome changes judging found let_in
  good_set m a v k e o f = found_some NoSuchModule (find_module w m) _ (parameter_module w m a k e) ∙ rw (e, o, f) refl

  -- what a bad change comes to, whatever a good one would
  denied_by : (b : Bool) (v : Verdict) (o : Outcome) (x : Class) → refusal b v ≡ Some x → cond b (denied (class ReadOnly)) (let_in v o) ≡ denied (class x)
  unfolding refusal let_in
  denied_by true v o x e = ap (λ z. denied (class z)) (same_Some ReadOnly x e)
  denied_by false fits o x e = let z : ◌≡◌ {A = ℕ} 0 1 = cc in absurd (omega arith)
  denied_by false rangeError o x e = ap (λ z. denied (class z)) (same_Some _ x e)
  denied_by false wrongType o x e = ap (λ z. denied (class z)) (same_Some _ x e)
  denied_by false badJSON o x e = ap (λ z. denied (class z)) (same_Some _ x e)

  bad_set : (m a v : List ℕ) (k : ℕ × Placed Parameter) → find_parameter w m a ≡ Some k → (x : Class)
      → refusal k.1.it.readonly (judged_at n.values k v) ≡ Some x → outcome w n c t (change m a v) ≡ denied (class x)
  unfolding outcome changes judging found
  bad_set m a v k e x r =
      found_some NoSuchModule (find_module w m) _ (parameter_module w m a k e)
      ∙ rw e (denied_by k.1.it.readonly (judged_at n.values k v) (sets w n c t k (stored_at n.values k v)) x r)

  good_read : (m a : List ℕ) (k : ℕ × Placed Parameter) → find_parameter w m a ≡ Some k → outcome w n c t (read m a) ≡ reads w n c t k
  unfolding outcome found
  good_read m a k e = found_some NoSuchModule (find_module w m) _ (parameter_module w m a k e) ∙ rw e refl

  good_order : (m a v : List ℕ) (k : ℕ × Placed Command) → find_command w m a ≡ Some k → argument_verdict k.1.it.argument v ≡ fits
      → outcome w n c t (execute m a v) ≡ ordering n c t k v
  unfolding outcome found does let_in
  good_order m a v k e f = found_some NoSuchModule (find_module w m) _ (command_module w m a k e) ∙ rw (e, f) refl

  good_scope : (f : (ℕ → Bool) → Option (List ℕ) → Outcome) (s : Option (List ℕ)) → is_there w s ≡ true
      → in_scope w n c t f s ≡ f (in_scope_of w s) s
  unfolding in_scope is_there found
  good_scope f None h = ap (λ g. f g None) (scope_is of_all)
  good_scope f (Some m) h = go (find_module w m) refl h
    where
      go : (x : Option (ℕ × Module)) → find_module w m ≡ x → is_some x ≡ true
          → found NoSuchModule x (λ y. f (λ i. eqb i y.0) (Some m)) ≡ f (in_scope_of w (Some m)) (Some m)
      go None e q = absurd (true≢false (sym q))
      go (Some x) e q = ap (λ g. f g (Some m)) (scope_is (of_one x e))

-- ## Lines

-- the line that an accepted piece ends is carried out
pub ended_line : {w : Table} {n : Node} {c : ℕ} {bs : List ℕ} {t : ℕ} {m : Node} {rs : List Record} → Did w n (Piece c bs t) m rs → has_feed bs ≡ true
    → Answered w n c bs t m rs
ended_line (received g) f = absurd (true≢false (sym f ∙ g))
ended_line (line _ h) f = h

-- what it leaves and sends where it asks for q, which comes to x
pub comes_to : {w : Table} {n m : Node} {rs : List Record} {c : ℕ} {bs : List ℕ} {t : ℕ} → Answered w n c bs t m rs → (q : Request) (x : Outcome)
    → request_of n c bs ≡ q → outcome w (idle n c) c t q ≡ x
    → (m ≡ counting (node_after (idle n c) x) rs) × (rs ≡ before x ++ (final c (reply_to (parts_at n c bs) x) ∷ []))
comes_to {w} {n} {m} {rs} {c} {bs} {t} h q x e f =
    let g = ap (outcome w (idle n c) c t) e ∙ f in
    (h.node ∙ ap (λ y. counting (node_after (idle n c) y) rs) g, h.records ∙ ap (λ y. before y ++ (final c (reply_to (parts_at n c bs) y) ∷ [])) g)

pub good_changes_are_made : GoodChangesAreMade
good_changes_are_made table n c m x v k p e r g bs t l z f q =
    answered_change _ n _ c t (k, p) (stored_at n.values (k, p) v) _ (parameter_there _ m x (k, p) e) bs
    (ended_line (accepted_call table n (record { event = Piece c bs t; lent = l }) z) f)
    (ap (outcome _ (idle n c) c t) q ∙ good_set _ (idle n c) c t m x v (k, p) e r g)

pub bad_changes_are_refused : BadChangesAreRefused
bad_changes_are_refused table n c m x v k p e d r bs t l z f q =
    let g = comes_to (ended_line (accepted_call table n (record { event = Piece c bs t; lent = l }) z) f) (change m x v) _ q (bad_set _ (idle n c) c t m x v (k, p) e d r) in
    record {
      alone = g.1;
      values = ap (λ (y : Node). y.values) g.0;
      clients = ap (λ (y : Node). y.clients) g.0;
      counts = ap (λ (y : Node). y.counts) g.0;
    }

-- what is read, a value or an error, alters nothing
told_alone : (w : Table) (n m : Node) (c t : ℕ) (q : Parts) (p : Placed Parameter) (x : Held) (u : ℕ) (rs : List Record)
    → m ≡ counting (node_after (idle n c) (tells w (idle n c) c t p x u)) rs
    → rs ≡ before (tells w (idle n c) c t p x u) ++ (final c (reply_to q (tells w (idle n c) c t p x u)) ∷ [])
    → AltersNothing n m rs c (read_reply q p x u)
unfolding tells read_reply
told_alone w n m c t q p (valued v) u rs e f =
    record {
      alone = f;
      values = ap (λ (y : Node). y.values) e;
      clients = ap (λ (y : Node). y.clients) e;
      counts = ap (λ (y : Node). y.counts) e;
    }
told_alone w n m c t q p (failed v) u rs e f =
    record {
      alone = f;
      values = ap (λ (y : Node). y.values) e;
      clients = ap (λ (y : Node). y.clients) e;
      counts = ap (λ (y : Node). y.counts) e;
    }

pub good_reads_are_answered : GoodReadsAreAnswered
unfolding reads
good_reads_are_answered table n c m x k p e bs t l z f q =
    let g = comes_to (ended_line (accepted_call table n (record { event = Piece c bs t; lent = l }) z) f) (read m x) _ q (good_read _ (idle n c) c t m x (k, p) e) in
    told_alone _ n _ c t (parts_at n c bs) p (n.values k).held (n.values k).time _ g.0 g.1

pub good_commands_are_ordered : GoodCommandsAreOrdered
good_commands_are_ordered table n c m x v k p e r bs t l z f q =
    let g = comes_to (ended_line (accepted_call table n (record { event = Piece c bs t; lent = l }) z) f) (execute m x v) _ q (good_order _ (idle n c) c t m x v (k, p) e r) in
    record { records = g.1; node = g.0 }

-- what a client that sent a line has active, where it was given other active modules
given : {w : Table} {n m : Node} {rs : List Record} {c : ℕ} {bs : List ℕ} {t : ℕ} → Answered w n c bs t m rs → (f : ℕ → Bool)
    → m ≡ counting (with_client (idle n c) c (activated f ((idle n c).clients c))) rs → (i : ℕ) → is_active (m.clients c) i ≡ f i
given {n = n} {c = c} h f e i =
    let x : Client = (idle n c).clients c in
    ap (λ (y : Node). is_active (y.clients c) i) e
    ∙ ap (λ y. is_active y i) (put_at (idle n c).clients c (activated f x))
    ∙ activated_active f x i (ap is_open (put_at n.clients c (emptied (n.clients c))) ∙ emptied_open (n.clients c) ∙ h.is_open)

and_not : (b q : Bool) → q ≡ true → (b && not q) ≡ false
and_not true q h = ap not h
and_not false q h = refl

activation_made : {w : Table} {n m : Node} {rs : List Record} {c : ℕ} {bs : List ℕ} {t : ℕ} (s : Option (List ℕ)) → is_there w s ≡ true
    → Answered w n c bs t m rs → request_of n c bs ≡ activate s → Activated w n m c s rs
unfolding outcome activates
activation_made {w} {n} {c = c} {t = t} s e h q =
    let g = comes_to h (activate s) (activates w (idle n c) c t (in_scope_of w s) s) q (good_scope w (idle n c) c t (activates w (idle n c) c t) s e) in
    record {
      records = g.1;
      active =
          λ i l k. given h _ g.0 i ∙ rw (lt-ltb i (length w.modules) l, k) (or-true (is_active ((idle n c).clients c) i));
      values = ap (λ (y : Node). y.values) g.0;
    }

deactivation_made : {w : Table} {n m : Node} {rs : List Record} {c : ℕ} {bs : List ℕ} {t : ℕ} (s : Option (List ℕ)) → is_there w s ≡ true
    → Answered w n c bs t m rs → request_of n c bs ≡ deactivate s → Deactivated w n m c s rs
unfolding outcome deactivates
deactivation_made {w} {n} {c = c} {t = t} s e h q =
    let g = comes_to h (deactivate s) (deactivates w (idle n c) c t (in_scope_of w s) s) q (good_scope w (idle n c) c t (deactivates w (idle n c) c t) s e) in
    record {
      records = g.1;
      inactive = λ i k. given h _ g.0 i ∙ and_not (is_active ((idle n c).clients c) i) (in_scope_of w s i) k;
      values = ap (λ (y : Node). y.values) g.0;
    }

pub good_activations_are_made : GoodActivationsAreMade
good_activations_are_made table n c s e = (
  λ bs t l z f q. activation_made s e (ended_line (accepted_call table n (record { event = Piece c bs t; lent = l }) z) f) q,
  λ bs t l z f q. deactivation_made s e (ended_line (accepted_call table n (record { event = Piece c bs t; lent = l }) z) f) q,
)
