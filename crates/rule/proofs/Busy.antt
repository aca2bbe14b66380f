-- Busy before changed: what follows from what a change sets and sends. Assumes nothing.
use Rattle.std.specs.Prelude.{Some, None}
use Prim.Native.Nat.{ℕ}
use mathlib.Core.Bool.{true, false}
use mathlib.Core.List.Memᴰ
use mathlib.Core.List.{List, [], ◌∷◌, ◌++◌, Memᴰ}
use mathlib.Core.Logic.{⊎_elim}
use mathlib.Core.Path.{◌≡◌, refl, sym, ◌∙◌, ap, subst}
use Rattle.ascii.specs.Text.{bytes}
use Rattle.fit.specs.Fit.{verdict, is_fit}
use Rattle.table.specs.Table.{Parameter, Table}
use Rattle.table.specs.Layout.{table_of}
use Rattle.table.specs.Search.{Placed, find_parameter}
use Rattle.message.specs.Reply.{DataReport, changed}
use Rattle.outbox.specs.Outbox.{Record, final, update, order_change}
use Rattle.plain.specs.Node.{Node, Value, report_of, client_numbers, updates_to, showing}
use Rattle.plain.specs.History.{step}
use Rattle.plain.specs.Answer.{stored_at, busy, status_of, busy_settings, busy_updates}
use Rattle.plain.specs.Calls.{Event}
use Rattle.plain.proofs.Put.{put_at, put_other}
use Rattle.plain.proofs.Busy.{is_status, no_status, named_other}
use Rattle.rule.specs.Theorems.{Changed, ChangeSets, OfPiece, of_piece, BusyFirst, StatusLeft, BusyBeforeChanged, OtherStatusStays}
use Rattle.rule.proofs.Laws.{sent_to_lem, updates_to_member}
use Rattle.rule.proofs.Rule.{not_update, changes_are_sent_to_all}

-- client c changed parameter k, which is p, to the text v at the time t; p is named `target`, and s is the status of its module
module _ (w : Table) (n m : Node) (c k : ℕ) (p : Placed Parameter) (v : List ℕ) (t : ℕ) (rs : List Record) (h : Changed w n m c k p v t rs)
    (s : ℕ × Placed Parameter) (target : p.it.name ≡ bytes "target") (found : find_parameter w p.module_name (bytes "status") ≡ Some s) where
  abbrev value : Value
  value = showing v t

  abbrev told : List Record
  told = updates_to m.clients p.home (report_of p value) client_numbers

  abbrev status : Value
  status = showing busy t

  other : s.0 ≡ k → ⊥
  other = named_other w p s target found k h.there

  module _ (e : is_fit (verdict s.1.it.datainfo busy) ≡ true) where
    is : status_of w p ≡ Some s
    is = is_status w p s target found e

    abbrev first : List Record
    first = updates_to m.clients s.1.home (report_of s.1 status) client_numbers

    first_is : busy_updates m.clients (status_of w p) t ≡ first
    unfolding busy_updates
    first_is = ap (λ o. busy_updates m.clients o t) is

    busy_first : BusyFirst m c s (report_of p value) rs
    unfolding busy_settings
    busy_first =
        record {
          earlier = order_change c k v ∷ (first ++ told);
          records =
              h.records ∙ ap (λ b. order_change c k v ∷ (b ++ told ++ (final c (changed (report_of p value)) ∷ []))) first_is;
          sent = λ d l a. Memᴰ.tail (Memᴰ.append_left told (sent_to_lem m.clients s.1.home (report_of s.1 status) d l a));
          held =
              ap (λ f. f s.0) h.values
              ∙ put_other _ k value s.0 other
              ∙ rw is (put_at n.values s.0 status);
        }

  module _ (e : is_fit (verdict s.1.it.datainfo busy) ≡ false) where
    is_none : status_of w p ≡ None
    is_none = no_status w p s found e

    records_are : rs ≡ order_change c k v ∷ (told ++ (final c (changed (report_of p value)) ∷ []))
    unfolding busy_updates
    records_are = h.records ∙ ap (λ o. order_change c k v ∷ (busy_updates m.clients o t ++ told ++ (final c (changed (report_of p value)) ∷ []))) is_none

    status_left : StatusLeft n m s (report_of p value) rs
    unfolding busy_settings
    status_left =
        record {
          held = ap (λ f. f s.0) h.values ∙ put_other _ k value s.0 other ∙ rw is_none;
          alone = λ d x l.
              ⊎_elim
              (λ i. absurd (not_update d x (order_change c k v) refl i))
              (λ i.
              ⊎_elim
              (λ j. (updates_to_member m.clients p.home (report_of p value) client_numbers d x j).0)
              (λ j. absurd (not_update d x (final c (changed (report_of p value))) refl (Memᴰ.eq_of_singleton j)))
              (Memᴰ.append_cases told i))
              (Memᴰ.cases_cons (subst (Memᴰ (update d x)) records_are l));
        }

-- what holds of the change that a line was replied to with, where it was one of a target and its module has a status, holds by what is told
told_change : {w : Table} {n m : Node} {c : ℕ} {rs : List Record} (s : ℕ × Placed Parameter) (r : DataReport) → r.accessible ≡ bytes "target"
    → find_parameter w r.module_name (bytes "status") ≡ Some s → (P : DataReport → Type 0)
    → ((k : ℕ) (p : Placed Parameter) (v : List ℕ) (t : ℕ) → Changed w n m c k p v t rs → p.it.name ≡ bytes "target"
    → find_parameter w p.module_name (bytes "status") ≡ Some s → P (report_of p (showing v t)))
    → {e : Event} → OfPiece c (λ bs t. ChangeSets w n m c bs t r rs) e → P r
told_change {w} {n} s r target found P f (of_piece {t = t} g) =
    let z = g.tells in
    subst P (sym z)
    (f g.k g.p (stored_at n.values (g.k, g.p) g.offered) t g.changed (ap (λ (x : DataReport). x.accessible) (sym z) ∙ target)
    (ap (λ (x : DataReport). find_parameter w x.module_name (bytes "status")) (sym z) ∙ found))

pub busy_before_changed : BusyBeforeChanged
busy_before_changed table n e c s r l target found a =
    let y = step table n e in
    told_change s r target found (λ x. BusyFirst y.0 c s x y.1.records)
    (λ k p v t h i j. busy_first (table_of table) n y.0 c k p v t y.1.records h s i j a)
    (changes_are_sent_to_all table n e c r l)

pub other_status_stays : OtherStatusStays
other_status_stays table n e c s r l target found a =
    let y = step table n e in
    told_change s r target found (λ x. StatusLeft n y.0 s x y.1.records)
    (λ k p v t h i j. status_left (table_of table) n y.0 c k p v t y.1.records h s i j a)
    (changes_are_sent_to_all table n e c r l)
