-- A check comes to what the change of the same would come to. Assumes nothing.
use Rattle.std.specs.Prelude.{Option, Some, None}
use Prim.Native.Nat.{ℕ}
use mathlib.Core.Bool.{Bool, true, false, cond, ◌&&◌}
use mathlib.Core.List.Memᴰ
use mathlib.Core.List.{List, [], ◌∷◌, ◌++◌, Memᴰ}
use mathlib.Core.Path.{◌≡◌, refl, sym, ap, subst}
use Rattle.ascii.specs.Text.{bytes}
use Rattle.ascii.specs.Bytes.{is_some, same}
use Rattle.ascii.specs.Names.{is_name}
use Rattle.fit.specs.Fit.{Verdict, fits, rangeError, wrongType, badJSON}
use Rattle.table.specs.Table.{Parameter, Table}
use Rattle.table.specs.Layout.{table_of}
use Rattle.table.specs.Search.{Placed, find_module, find_parameter}
use Rattle.message.specs.Line.{Parts}
use Rattle.message.specs.Request.{change, check, malformed, module_part, accessible_part, named, or_null, request}
use Rattle.message.specs.Error.{Denial, class, Class, ProtocolError, NoSuchModule, NoSuchParameter, ReadOnly, BadJSON, WrongType, RangeError}
use Rattle.message.specs.Reply.{DataReport, Reply, changed, checked}
use Rattle.outbox.specs.Outbox.{Record, final}
use Rattle.plain.specs.Node.{Node, Setting, counting}
use Rattle.plain.specs.Answer.{Outcome, denied, carried, found, let_in, judged_at, sets, shows, judging, changes, checks, outcome}
use Rattle.plain.specs.Calls.{Piece}
use Rattle.plain.proofs.Outcomes.{node_after, before, reply_to}
use Rattle.rule.specs.Theorems.{parts_at, request_of, AltersNothing, AsChange, both_refused, both_let_in, ChecksAreAsChanges}
use Rattle.rule.specs.Theorems.{saying, CheckLinesAreAsChangeLines}
use Rattle.rule.proofs.Calls.{idle, accepted_call}
use Rattle.rule.proofs.Good.{ended_line, comes_to}

-- what a change and a check come to at the node n
data Alike (n : Node) : Outcome → Outcome → Type 0 where
  denying : (e : Denial) → Alike n (denied e) (denied e)
  letting : {m : Node} {ss : List Setting} {rs : List Record} (r : DataReport) → Alike n (carried m ss rs (changed r)) (carried n [] [] (checked r))

module _ (w : Table) (n : Node) (c t : ℕ) where
  found_alike : {A : Type 0} (x : Class) (o : Option A) (f g : A → Outcome) → ((a : A) → Alike n (f a) (g a)) → Alike n (found x o f) (found x o g)
  unfolding found
  found_alike x None f g h = denying (class x)
  found_alike x (Some a) f g h = h a

  let_in_alike : (v : Verdict) (o p : Outcome) → Alike n o p → Alike n (let_in v o) (let_in v p)
  unfolding let_in
  let_in_alike fits o p h = h
  let_in_alike rangeError o p h = denying (class RangeError)
  let_in_alike wrongType o p h = denying (class WrongType)
  let_in_alike badJSON o p h = denying (class BadJSON)

  writable_alike : (b : Bool) (o p : Outcome) → Alike n o p → Alike n (cond b (denied (class ReadOnly)) o) (cond b (denied (class ReadOnly)) p)
  writable_alike true o p h = denying (class ReadOnly)
  writable_alike false o p h = h

  judged_alike : (v : List ℕ) (k : ℕ × Placed Parameter) → Alike n (changes w n c t v k) (checks w n c t v k)
  unfolding changes checks judging sets shows
  judged_alike v k = writable_alike k.1.it.readonly _ _ (let_in_alike (judged_at n.values k v) _ _ (letting _))

  alike : is_some w.edition ≡ true → (a x v : List ℕ) → Alike n (outcome w n c t (change a x v)) (outcome w n c t (check a x v))
  unfolding outcome
  alike e a x v =
      rw e
      (found_alike NoSuchModule (find_module w a) _ _ (λ y. found_alike NoSuchParameter (find_parameter w a x) _ _ (judged_alike v)))

  -- of lines that say `change` and `check`: where the names are no names, both ask for nothing that is known
  names_alike : is_some w.edition ≡ true → (b : Bool) (a x v : List ℕ)
      → Alike n (outcome w n c t (cond b (change a x v) malformed)) (outcome w n c t (cond b (check a x v) malformed))
  unfolding outcome
  names_alike e true a x v = alike e a x v
  names_alike e false a x v = denying (class ProtocolError)

  words_alike : is_some w.edition ≡ true → (s v : List ℕ)
      → Alike n (outcome w n c t (request (saying (bytes "change") s v))) (outcome w n c t (request (saying (bytes "check") s v)))
  unfolding request same bytes named
  words_alike e s v =
      names_alike e (is_name (module_part s) && is_name (accessible_part s)) (module_part s) (accessible_part s) (or_null v)

-- a line whose outcome leaves the node alters nothing
nothing : (n m : Node) (c : ℕ) (rs : List Record) (r : Reply) → m ≡ counting (idle n c) rs → rs ≡ final c r ∷ [] → AltersNothing n m rs c r
nothing n m c rs r e f =
    record {
      alone = f;
      values = ap (λ (y : Node). y.values) e;
      clients = ap (λ (y : Node). y.clients) e;
      counts = ap (λ (y : Node). y.counts) e;
    }

-- by what the change comes to, y, and the check, z
as_change : (n : Node) (c : ℕ) (p q : Parts) (m m' : Node) (rs rs' : List Record) (y z : Outcome) → Alike (idle n c) y z
    → (m ≡ counting (node_after (idle n c) z) rs) × (rs ≡ before z ++ (final c (reply_to p z) ∷ []))
    → (m' ≡ counting (node_after (idle n c) y) rs') × (rs' ≡ before y ++ (final c (reply_to q y) ∷ []))
    → AsChange n c p m rs q m' rs'
as_change n c p q m m' rs rs' _ _ (denying e) g h = both_refused e (nothing n m c rs _ g.0 g.1) (nothing n m' c rs' _ h.0 h.1)
as_change n c p q m m' rs rs' (carried _ _ before-it _) _ (letting r) g h =
    both_let_in r (nothing n m c rs _ g.0 g.1)
    (subst (Memᴰ (final c (changed r))) (sym h.1) (Memᴰ.append_right before-it (Memᴰ.head refl)))

pub checks_are_as_changes : ChecksAreAsChanges
checks_are_as_changes table e n c t a x v bs bs' l l' z f q z' f' q' =
    let w : Table = table_of table in
    as_change n c (parts_at n c bs) (parts_at n c bs') _ _ _ _ _ _ (alike w (idle n c) c t e a x v)
    (comes_to (ended_line (accepted_call table n (record { event = Piece c bs t; lent = l }) z) f) (check a x v) _ q refl)
    (comes_to (ended_line (accepted_call table n (record { event = Piece c bs' t; lent = l' }) z') f') (change a x v) _ q' refl)

same_words : {n : Node} {c : ℕ} {p p' q q' : Parts} {m m' : Node} {rs rs' : List Record} → p ≡ q → p' ≡ q' → AsChange n c p m rs p' m' rs'
    → AsChange n c q m rs q' m' rs'
same_words e f h = rw (← e, ← f) h

pub check_lines_are_as_change_lines : CheckLinesAreAsChangeLines
unfolding request_of
check_lines_are_as_change_lines table e n c t s v bs bs' l l' z f q z' f' q' =
    let w : Table = table_of table in
    same_words q q'
    (as_change n c (parts_at n c bs) (parts_at n c bs') _ _ _ _ _ _ (words_alike w (idle n c) c t e s v)
    (comes_to (ended_line (accepted_call table n (record { event = Piece c bs t; lent = l }) z) f) (request (saying (bytes "check") s v)) _ (ap request q) refl)
    (comes_to (ended_line (accepted_call table n (record { event = Piece c bs' t; lent = l' }) z') f') (request (saying (bytes "change") s v)) _ (ap request q')
    refl))
