-- What an index alters over the calls. Assumes nothing.
use Rattle.std.specs.Prelude.{Option, Some, None}
use Prim.Native.Nat.{ℕ, zero, suc, ◌≤◌}
use native.Mathlib.Omega.{arith}
use mathlib.Core.Bool.{Bool, true, false, cond, not}
use mathlib.Core.List.{List, ◌++◌}
use mathlib.Core.Path.{◌≡◌, refl, ap, ◌∙◌}
use borrow.Author.Tests.{not-false}
use Rattle.ascii.specs.Bytes.{is_some}
use Rattle.table.specs.Table.{Accessible, Table}
use Rattle.table.specs.Layout.{read_table, or_empty, table_of}
use Rattle.table.specs.Rules.{counts_good, names_good}
use Rattle.table.specs.Search.{Placed, find_module}
use Rattle.index.specs.Search as Index
use Rattle.index.specs.Search.{looked}
use Rattle.index.specs.Accessibles.{index_of, sought, seek_steps}
use Rattle.index.proofs.Accepted.{steps_are_few, present_names_are_quick}
use Rattle.report.specs.Judge.{number_of, tree_number, table_number}
use Rattle.report.proofs.Faults.{no_fault, first_fault_none}
use Rattle.message.specs.Line.{content, parts_of}
use Rattle.message.specs.Request.{Request, identify, describe, ping, activate, deactivate, read, change, execute, count, malformed, check, request}
use Rattle.plain.specs.Node.{Client, Node, with_client, line_of, receive}
use Rattle.plain.specs.Answer.{request_steps, line_steps}
use Rattle.plain.specs.Calls.{Event, Open, Close, Piece, Reading, Unreadable, Call, Effect, beside, is_short, lent_faults, call_number}
use Rattle.plain.specs.Calls.{before_feed, has_feed, effect, ended_steps, event_steps, call_steps, settle, settling, step_if, settings_if}
use Rattle.plain.proofs.Numbers.{accepted_call}
use Rattle.plain.proofs.Put.{put_at}
use Rattle.rule.specs.Theorems.{request_of}
use Rattle.steps.specs.Theorems as T
use Rattle.steps.specs.Theorems.{AlikeButSteps, names_sought, event_sought, Quick}
use Rattle.steps.proofs.Homes.{home_found}

-- ## Answers

same_number : (table : List ℕ) (unfit : Bool) (n : Node) (e : Call) (index : List ℕ) → is_short e.lent.index ≡ false → is_short index ≡ false
    → call_number table unfit n (beside index e) ≡ call_number table unfit n e
unfolding call_number lent_faults
same_number table unfit n e index h i = rw (h, i)

-- whatever the steps are
settle_alike : (k : ℕ) (n : Node) (f : Effect) (i j : ℕ) → let x = settle k n f i in let y = settle k n f j in
    (x.0 ≡ y.0) × ((x.1.number ≡ y.1.number) × ((x.1.used ≡ y.1.used) × (x.1.records ≡ y.1.records)))
unfolding settle
settle_alike zero n f i j = (refl, (refl, (refl, refl)))
settle_alike (suc k) n f i j = (refl, (refl, (refl, refl)))

pub indexes_alter_no_answer : T.IndexesAlterNoAnswer
unfolding step_if settings_if
indexes_alter_no_answer table unfit n e index h i =
    let f = effect (table_of table) n e.event in
    let k = call_number table unfit n e in
    let a = settle_alike k n f (call_steps (table_of table) n (beside index e)) (call_steps (table_of table) n e) in
    let same = same_number table unfit n e index h i in
    record { node = rw same a.0; number = rw same a.1.0; used = rw same a.1.1.0; records = rw same a.1.1.1; settings = rw same refl }

-- ## Numbers of accepted calls

tree_good : (t : Table) → tree_number t ≡ 0 → (counts_good t ≡ true) × (names_good t ≡ true)
unfolding tree_number
tree_good t e =
    let none_of = first_fault_none _ e in
    (not-false (counts_good t) (no_fault 1 (not (counts_good t)) (none_of 0)), not-false (names_good t) (no_fault 2 (not (names_good t)) (none_of 1)))

table_good : (s : List ℕ) → table_number s ≡ 0 → (counts_good (table_of s) ≡ true) × (names_good (table_of s) ≡ true)
unfolding table_number table_of number_of or_empty
table_good s e = go (read_table s) e
  where
    go : (o : Option Table) → number_of o ≡ 0 → (counts_good (or_empty o) ≡ true) × (names_good (or_empty o) ≡ true)
    go None e = absurd (omega arith)
    go (Some t) e = tree_good t e

-- what holds of 0 steps, and of those of a call on a table that is accepted
module _ (table : List ℕ) (unfit : Bool) (n : Node) (e : Call) (P : ℕ → Type 0) where
  by_number : P 0 → (table_number table ≡ 0 → P (call_steps (table_of table) n e)) → P (step_if table unfit n e).1.steps
  unfolding step_if settle
  by_number z f = go (call_number table unfit n e) refl
    where
      go : (k : ℕ) → call_number table unfit n e ≡ k → P (settling table n e k).1.steps
      go zero q = f ((accepted_call table unfit e n).0 q).0.accepted
      go (suc k) q = z

  -- the same of an accepted call
  by_accepted : (step_if table unfit n e).1.number ≡ 0 → (table_number table ≡ 0 → P (call_steps (table_of table) n e))
      → P (step_if table unfit n e).1.steps
  unfolding step_if settle
  by_accepted h f = go (call_number table unfit n e) refl h
    where
      go : (k : ℕ) → call_number table unfit n e ≡ k → (settling table n e k).1.number ≡ 0 → P (settling table n e k).1.steps
      go zero q h = f ((accepted_call table unfit e n).0 q).0.accepted
      go (suc k) q h = absurd (omega arith)

-- ## Steps of a line

module _ (w : Table) (index : List ℕ) where
  -- by the names that are sought
  abbrev steps_of : Option (List ℕ × List ℕ) → ℕ
  steps_of None = 0
  steps_of (Some x) = seek_steps w index x.0 x.1

  request_steps_lem : (r : Request) → request_steps w index r ≡ steps_of (names_sought w r)
  unfolding request_steps names_sought
  request_steps_lem identify = refl
  request_steps_lem describe = refl
  request_steps_lem (ping token) = refl
  request_steps_lem (activate m) = refl
  request_steps_lem (deactivate m) = refl
  request_steps_lem (read m a) = refl
  request_steps_lem (change m a v) = refl
  request_steps_lem (execute m a v) = refl
  request_steps_lem (check m a v) = go (is_some w.edition)
    where
      go : (b : Bool) → cond b (seek_steps w index m a) 0 ≡ steps_of (cond b (Some (m, a)) None)
      go true = refl
      go false = refl
  request_steps_lem count = refl
  request_steps_lem malformed = refl

  line_steps_lem : (n : Node) (c : ℕ) (bs : List ℕ)
      → line_steps w index (with_client n c (receive (n.clients c) (before_feed bs))) c ≡ steps_of (names_sought w (request_of n c bs))
  unfolding line_steps request_of
  line_steps_lem n c bs =
      ap (λ (x : Client). request_steps w index (request (parts_of (content (line_of x))))) (put_at n.clients c (receive (n.clients c) (before_feed bs)))
      ∙ request_steps_lem (request_of n c bs)

  event_steps_lem : (n : Node) (e : Event) → event_steps w index n e ≡ steps_of (event_sought w n e)
  unfolding event_steps ended_steps event_sought
  event_steps_lem n (Open c t) = refl
  event_steps_lem n (Close c t) = refl
  event_steps_lem n (Piece c bs t) = go (has_feed bs)
    where
      go : (b : Bool) → ended_steps w index (with_client n c (receive (n.clients c) (before_feed bs))) c b
          ≡ steps_of (cond b (names_sought w (request_of n c bs)) None)
      go true = line_steps_lem n c bs
      go false = refl
  event_steps_lem n (Reading p bs t) = refl
  event_steps_lem n (Unreadable p k t) = refl

  steps_low : counts_good w ≡ true → (o : Option (List ℕ × List ℕ)) → steps_of o ≤ 192
  steps_low h None = omega arith
  steps_low h (Some x) = steps_are_few w index x.0 x.1 h

-- ## Steps of a call

pub few_steps : T.StepsAreFew
few_steps table unfit n e =
    by_number table unfit n e (λ i. i ≤ 192) (omega arith)
    (λ z. rw (event_steps_lem (table_of table) e.lent.index n e.event) (steps_low (table_of table) e.lent.index (table_good table z).0 (event_sought (table_of table) n e.event)))

pub nothing_else_is_sought : T.NothingElseIsSought
nothing_else_is_sought table unfit n e h =
    by_number table unfit n e (λ i. i ≡ 0) refl
    (λ z. event_steps_lem (table_of table) e.lent.index n e.event ∙ ap (steps_of (table_of table) e.lent.index) h)

seek_steps_lem : (w : Table) (index m a : List ℕ) → is_some (find_module w m) ≡ true → seek_steps w index m a ≡ (sought w index m a).steps
unfolding seek_steps
seek_steps_lem w index m a h = rw h

no_steps : (w : Table) (index m a : List ℕ) → find_module w m ≡ None → seek_steps w index m a ≡ 0
unfolding seek_steps
no_steps w index m a h = rw h

pub modules_are_found_first : T.ModulesAreFoundFirst
modules_are_found_first table unfit n e m a seeks missing =
    let w = table_of table in
    by_number table unfit n e (λ i. i ≡ 0) refl
    (λ z. event_steps_lem w e.lent.index n e.event ∙ ap (steps_of w e.lent.index) seeks ∙ no_steps w e.lent.index m a missing)

pub quick_steps : T.PresentNamesAreQuick
quick_steps table unfit n e m a more k lent seeks found h =
    by_accepted table unfit n e (Quick (table_of table) m a) h λ z.
    let w = table_of table in
    let good = table_good table z in
    let q = present_names_are_quick w m a more k good.0 good.1 found in
    let is : call_steps w n e ≡ seek_steps w (index_of w ++ more) m a =
    event_steps_lem w e.lent.index n e.event ∙ ap (steps_of w e.lent.index) seeks ∙ ap (λ (x : List ℕ). seek_steps w x m a) lent in
    record {
      few = rw is q.few;
      unwalked = is ∙ seek_steps_lem w (index_of w ++ more) m a (home_found w m a k found)
          ∙ ap (λ (x : Index.Sought (Placed Accessible)). x.steps) q.unwalked;
    }
