-- What reads and commands are replied to with, what a piece leaves of lines, and where a parameter belongs. Assumes nothing.
use Rattle.std.specs.Prelude.{Some, slice_get}
use Prim.Native.Nat.{ℕ, zero, suc, ◌+◌}
use mathlib.Core.Bool.{Bool, false, false≢true}
use mathlib.Core.List.{List, [], ◌∷◌, ◌++◌, map, Memᴰ}
use mathlib.Core.Path.{◌≡◌, refl, sym, ◌∙◌, ap, subst}
use native.Mathlib.Omega.{arith}
use Rattle.fit.specs.Fit.{fits}
use Rattle.table.specs.Table.{Parameter, Command, Accessible, parameter, command, Module, Table}
use Rattle.table.specs.Search.{Placed, parameters_of, placed_from, parameters, commands}
use Rattle.message.specs.Line.{Parts}
use Rattle.message.specs.Request.{Request, read, execute}
use Rattle.message.specs.Reply.{DataReport, Reply, reply, done}
use Rattle.outbox.specs.Outbox.{Record, final, order_command}
use Rattle.plain.specs.Node.{Node, with_client, line_of, emptied, activated, report_of}
use Rattle.plain.specs.Answer.{Outcome, carried, outcome, argument_verdict, argument_form, activates, deactivates, sets}
use Rattle.plain.specs.Calls.{Event, Piece, Lent, Call, Answer, call_number, used_of, piece_effect, effect, settle, settling, step_if}
use Rattle.plain.specs.History.{step}
use Rattle.plain.proofs.Put.{put_at, put_other}
use Rattle.plain.proofs.Clients.{emptied_line, activated_line}
use Rattle.plain.proofs.Outcomes.{node_after, before, reply_to, Tells, by_identify, by_describe, by_ping, by_read, by_count, done_of, outcome_holds, by_check}
use Rattle.rule.specs.Theorems.{parts_at, request_of, OfPiece, of_piece, ParametersBelong, PieceUsed, PiecesAreUsed, ReadTold, ReadsAreTrue, CommandOrdered, CommandsAreOrdered}
use Rattle.rule.proofs.Told.{apart, told_kind}
use Rattle.rule.proofs.Calls.{idle, outcome_at, Did, received, line, accepted_call, Line-of, line_of_lem, line_of_final}
use Rattle.std.proofs.lemmas.Option.{same_Some}

reply_is : (x y : DataReport) → reply x ≡ reply y → x ≡ y
reply_is x y e = cc

done_is : (x y : DataReport) → done x ≡ done y → x ≡ y
done_is x y e = cc

-- ## Reads

record Reads (w : Table) (n : Node) (q : Request) (o : Outcome) (r : DataReport) : Type 0 where
  k : ℕ × Placed Parameter
  there : slice_get (parameters w) k.0 ≡ Some k.1
  asked : q ≡ read k.1.module_name k.1.it.name
  tells : r ≡ report_of k.1 (n.values k.0)
  alone : before o ≡ []

abbrev ReadIn : Table → Node → Parts → Request → Outcome → Type 0
ReadIn w n p q o = (r : DataReport) → reply r ≡ reply_to p o → Reads w n q o r

told_read : {w : Table} {n : Node} {c now : ℕ} {q : Request} {x : Reply} → Tells w n c now q x → (r : DataReport)
    → reply r ≡ x → Reads w n q (carried n [] [] x) r
told_read by_identify r e = apart (reply r) _ (λ z. omega arith) e
told_read by_describe r e = apart (reply r) _ (λ z. omega arith) e
told_read by_ping r e = apart (reply r) _ (λ z. omega arith) e
told_read (by_read k h v t i) r e =
    record { k = k; there = h; asked = refl; tells = reply_is r _ e ∙ ap (report_of k.1) (sym i); alone = refl }
told_read (by_check k v l i) r e = apart (reply r) _ (λ z. omega arith) e
told_read by_count r e = apart (reply r) _ (λ z. omega arith) e

read_in : (w : Table) (n : Node) (c now : ℕ) (p : Parts) (q : Request) → ReadIn w n p q (outcome w n c now q)
unfolding activates deactivates sets
read_in w n c now p =
    outcome_holds (ReadIn w n p) w n c now
    (record {
      bad = λ q x r e. apart (reply r) _ (λ z. omega arith) e;
      failing = λ k f t h i r e. apart (reply r) _ (λ z. omega arith) e;
      telling = λ q x h r e. told_read h r e;
      activating = λ m f h r e. apart (reply r) _ (λ z. omega arith) e;
      deactivating = λ m f h r e. apart (reply r) _ (λ z. omega arith) e;
      setting = λ k v h r e. apart (reply r) _ (λ z. omega arith) e;
      doing = λ k v h r e. apart (reply r) _ (λ z. omega arith) e;
    })

read_line : {w : Table} {n m : Node} {rs : List Record} {c : ℕ} (r : DataReport) {e : Event} → Line-of w n m rs c (reply r) e
    → OfPiece c (λ bs t. ReadTold w n c bs r rs) e
read_line {w} {n} {m} {rs} {c} r (line_of_lem {bs = bs} {t = t} h q) =
    let o : Outcome = outcome_at w n c bs t in
    let g = read_in w (idle n c) c t (parts_at n c bs) (request_of n c bs) r q in
    of_piece
    (record {
      k = g.k.0;
      p = g.k.1;
      there = g.there;
      asked = g.asked;
      tells = g.tells;
      alone =
          h.records
          ∙ ap (◌++ (final c (reply_to (parts_at n c bs) o) ∷ [])) g.alone
          ∙ ap (λ x. final c x ∷ []) (sym q);
    })

pub reads_are_true : ReadsAreTrue
reads_are_true table n e c r l = read_line r (line_of_final table n e c (reply r) l)

-- ## Commands

record Orders (w : Table) (n : Node) (c now : ℕ) (q : Request) (o : Outcome) (r : DataReport) : Type 0 where
  k : ℕ × Placed Command
  v : List ℕ
  there : slice_get (commands w) k.0 ≡ Some k.1
  asked : q ≡ execute k.1.module_name k.1.it.name v
  fitting : argument_verdict k.1.it.argument v ≡ fits
  tells : r ≡ done_of k.1 now
  ordered : before o ≡ order_command c k.0 (argument_form k.1.it.argument v) ∷ []

abbrev OrderIn : Table → Node → ℕ → ℕ → Parts → Request → Outcome → Type 0
OrderIn w n c now p q o = (r : DataReport) → done r ≡ reply_to p o → Orders w n c now q o r

order_in : (w : Table) (n : Node) (c now : ℕ) (p : Parts) (q : Request) → OrderIn w n c now p q (outcome w n c now q)
unfolding activates deactivates sets
order_in w n c now p =
    outcome_holds (OrderIn w n c now p) w n c now
    (record {
      bad = λ q x r e. apart (done r) _ (λ z. omega arith) e;
      failing = λ k f t h i r e. apart (done r) _ (λ z. omega arith) e;
      telling = λ q x h r e. apart (done r) x (λ z. omega (arith, told_kind h)) e;
      activating = λ m f h r e. apart (done r) _ (λ z. omega arith) e;
      deactivating = λ m f h r e. apart (done r) _ (λ z. omega arith) e;
      setting = λ k v h r e. apart (done r) _ (λ z. omega arith) e;
      doing = λ k v h r e.
          record { k = k; v = v; there = h.there; asked = refl; fitting = h.fitting; tells = done_is r _ e; ordered = refl };
    })

command_line : {w : Table} {n m : Node} {rs : List Record} {c : ℕ} (r : DataReport) {e : Event} → Line-of w n m rs c (done r) e
    → OfPiece c (λ bs t. CommandOrdered w n c bs t r rs) e
command_line {w} {n} {m} {rs} {c} r (line_of_lem {bs = bs} {t = t} h q) =
    let o : Outcome = outcome_at w n c bs t in
    let g = order_in w (idle n c) c t (parts_at n c bs) (request_of n c bs) r q in
    of_piece
    (record {
      k = g.k.0;
      p = g.k.1;
      offered = g.v;
      there = g.there;
      asked = g.asked;
      fitting = g.fitting;
      tells = g.tells;
      records =
          h.records
          ∙ ap (◌++ (final c (reply_to (parts_at n c bs) o) ∷ [])) g.ordered
          ∙ ap (λ x. order_command c g.k.0 (argument_form g.k.1.it.argument g.v) ∷ final c x ∷ []) (sym q);
    })

pub commands_are_ordered : CommandsAreOrdered
commands_are_ordered table n e c r l = command_line r (line_of_final table n e c (done r) l)

-- ## Lines

-- an outcome changes no client but c, and not c's line
record Leaves (n : Node) (c : ℕ) (o : Outcome) : Type 0 where
  line : line_of ((node_after n o).clients c) ≡ line_of (n.clients c)
  others : (d : ℕ) → (d ≡ c → ⊥) → (node_after n o).clients d ≡ n.clients d

untouched : (n : Node) (c : ℕ) (o : Outcome) → (node_after n o).clients ≡ n.clients → Leaves n c o
untouched n c o e = record { line = ap (λ f. line_of (f c)) e; others = λ d h. ap (λ f. f d) e }

touched : (n : Node) (c : ℕ) (f : ℕ → Bool) (rs : List Record) (r : Reply)
    → Leaves n c (carried (with_client n c (activated f (n.clients c))) [] rs r)
touched n c f rs r =
    record {
      line = ap line_of (put_at n.clients c _) ∙ activated_line f (n.clients c);
      others = λ d h. put_other n.clients c _ d h;
    }

leaves : (w : Table) (n : Node) (c now : ℕ) (q : Request) → Leaves n c (outcome w n c now q)
unfolding activates deactivates sets
leaves w n c now =
    outcome_holds (λ q o. Leaves n c o) w n c now
    (record {
      bad = λ q x. untouched n c _ refl;
      failing = λ k f t h e. untouched n c _ refl;
      telling = λ q f h. untouched n c _ refl;
      activating = λ m f h. touched n c _ _ _;
      deactivating = λ m f h. touched n c _ _ _;
      setting = λ k v h. untouched n c _ refl;
      doing = λ k v h. untouched n c _ refl;
    })

piece_used : {w : Table} {n : Node} {c : ℕ} {bs : List ℕ} {t : ℕ} {m : Node} {rs : List Record} (x : Answer) → x.used ≡ used_of bs
    → x.records ≡ rs → Did w n (Piece c bs t) m rs → PieceUsed n m c bs x
piece_used {n = n} {c = c} {bs = bs} x u q (received f) =
    record {
      used = u;
      joined = λ h. (refl, q);
      emptied = λ h. absurd (false≢true (sym f ∙ h));
      others = λ d h. put_other n.clients c _ d h;
    }
piece_used {w} {n} {c} {bs} {t} {m} x u q (line f h) =
    let o : Outcome = outcome_at w n c bs t in
    let g = leaves w (idle n c) c t (request_of n c bs) in
    record {
      used = u;
      joined = λ i. absurd (false≢true (sym i ∙ f));
      emptied =
          λ i.
          ap (λ (y : Node). line_of (y.clients c)) h.node
          ∙ g.line
          ∙ ap line_of (put_at n.clients c (emptied (n.clients c)))
          ∙ emptied_line (n.clients c);
      others =
          λ d i.
          ap (λ (y : Node). y.clients d) h.node ∙ g.others d i ∙ put_other n.clients c (emptied (n.clients c)) d i;
    }

used_is : (table : List ℕ) (n : Node) (c : ℕ) (bs : List ℕ) (t : ℕ) (lent : Lent)
    → let r = step table n (record { event = Piece c bs t; lent = lent }) in r.1.number ≡ 0 → r.1.used ≡ used_of bs
unfolding step step_if settle effect piece_effect
used_is table n c bs t lent h = go (call_number table false n (record { event = Piece c bs t; lent = lent })) h
  where
    go : (j : ℕ) → let s = settling table n (record { event = Piece c bs t; lent = lent }) j in s.1.number ≡ 0 → s.1.used ≡ used_of bs
    go zero z = refl
    go (suc j) z = absurd (omega arith)

pub pieces_are_used : PiecesAreUsed
pieces_are_used table n c bs t lent h =
    let e : Call = record { event = Piece c bs t; lent = lent } in
    piece_used (step table n e).1 (used_is table n c bs t lent h) refl (accepted_call table n e h)

-- ## Where a parameter belongs

-- p is one of the parameters of one of these modules, of which the first has the number n
record In (n : ℕ) (ms : List Module) (p : Placed Parameter) : Type 0 where
  i : ℕ
  m : Module
  home : p.home ≡ n + i
  there : slice_get ms i ≡ Some m
  named : p.module_name ≡ m.name
  holds : Memᴰ (parameter p.it) m.accessibles

parameter_member : (l : List Accessible) (j : ℕ) (x : Parameter) → slice_get (parameters_of l) j ≡ Some x → Memᴰ (parameter x) l
unfolding parameters_of
parameter_member [] j x e = let z : ◌≡◌ {A = ℕ} 0 1 = cc in absurd (omega arith)
parameter_member (parameter y ∷ l) zero x e = Memᴰ.head (ap parameter (sym (same_Some y x e)))
parameter_member (parameter y ∷ l) (suc j) x e = Memᴰ.tail (parameter_member l j x e)
parameter_member (command y ∷ l) j x e = Memᴰ.tail (parameter_member l j x e)

in_later : (n : ℕ) (m : Module) (ms : List Module) (p : Placed Parameter) → In (suc n) ms p → In n (m ∷ ms) p
in_later n m ms p h =
    record {
      i = suc h.i;
      m = h.m;
      home = omega (arith, h.home);
      there = h.there;
      named = h.named;
      holds = h.holds;
    }

in_first : (n : ℕ) (m : Module) (ms : List Module) (l : List Parameter) (rest : List (Placed Parameter)) (p : Placed Parameter)
    → ((j : ℕ) (x : Parameter) → slice_get l j ≡ Some x → Memᴰ (parameter x) m.accessibles)
    → ((j : ℕ) → slice_get rest j ≡ Some p → In n (m ∷ ms) p) → (j : ℕ)
    → slice_get (map (λ (a : Parameter). record { home = n; module_name = m.name; it = a }) l ++ rest) j ≡ Some p → In n (m ∷ ms) p
in_first n m ms [] rest p h g j e = g j e
in_first n m ms (x ∷ l) rest p h g zero e =
    let d : ◌≡◌ {A = Placed Parameter} (record { home = n; module_name = m.name; it = x }) p = same_Some _ p e in
    subst
    (In n (m ∷ ms))
    d
    (record { i = 0; m = m; home = omega arith; there = refl; named = refl; holds = h 0 x refl })
in_first n m ms (x ∷ l) rest p h g (suc j) e = in_first n m ms l rest p (λ i y f. h (suc i) y f) g j e

placed_in : (ms : List Module) (n k : ℕ) (p : Placed Parameter) → slice_get (placed_from parameters_of n ms) k ≡ Some p → In n ms p
unfolding placed_from
placed_in [] n k p e = let z : ◌≡◌ {A = ℕ} 0 1 = cc in absurd (omega arith)
placed_in (m ∷ ms) n k p e =
    in_first
    n
    m
    ms
    (parameters_of m.accessibles)
    (placed_from parameters_of (suc n) ms)
    p
    (parameter_member m.accessibles)
    (λ j f. in_later n m ms p (placed_in ms (suc n) j p f))
    k
    e

pub parameters_belong : ParametersBelong
unfolding parameters
parameters_belong w k p e =
    let h = placed_in w.modules 0 k p e in
    let z : p.home ≡ h.i = omega (arith, h.home) in
    record {
      m = h.m;
      there = ap (slice_get w.modules) z ∙ h.there;
      named = h.named;
      holds = h.holds;
    }
