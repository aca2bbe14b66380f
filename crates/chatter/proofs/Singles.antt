-- A call for each item: such calls are accepted, and take these items. Assumes nothing.
use Prim.Native.Nat.{ℕ, zero, suc, ◌≤◌}
use mathlib.Core.Bool.{Bool, true, false, cond, not, ◌&&◌, false≢true}
use mathlib.Core.List.{List, [], ◌∷◌, ◌++◌, map}
use mathlib.Core.Path.{◌≡◌, refl, sym, ◌∙◌, ap, ap₂}
use lib.Dec.{eqb}
use native.Mathlib.Omega.{arith}
use Rattle.ascii.specs.Bytes.{all}
use Rattle.ascii.specs.Numbers.{latest}
use Rattle.table.specs.Layout.{table_of}
use Rattle.report.specs.Judge.{table_number}
use Rattle.plain.specs.Node.{Node, begin, is_open}
use Rattle.plain.specs.Calls.{Event, Open, Close, Piece, Reading, Unreadable, Lent, Call, sends, is_short}
use Rattle.plain.specs.History.{step, answers, AllAccepted, Item, byte, mark, feeds, opens, closes, reads, fails, cons_if, own, marks, piece_items, items_of, items, if_accepted, taken, InTime, Roomy, AllRoomy, EmptiesOpen, IsSecond}
use Rattle.second.proofs.Items.{in_order}
use Rattle.second.proofs.Calls.{readable, accepts, step_number}
use Rattle.second.proofs.Second.{all_used, wholly, good_table}
use Rattle.chatter.specs.Without.{Choice, one_more, is_ended, without, single, less_lines}
use Rattle.chatter.specs.Theorems.{LeftOut, LinesCanBeLeftOut}
use Rattle.chatter.proofs.Items as laws
use Rattle.chatter.proofs.Items.{without_holds, orderly}

-- ## Items that one call can have

-- no line feed among the bytes, no time above the limit
abbrev Proper : Item → Type 0
Proper (byte c b) = eqb b 10 ≡ false
Proper (mark (feeds c t)) = t ≤ latest
Proper (mark (opens c t)) = t ≤ latest
Proper (mark (closes c t)) = t ≤ latest
Proper (mark (reads p bs t)) = t ≤ latest
Proper (mark (fails p k t)) = t ≤ latest

abbrev AllProper : List Item → Type 0
AllProper [] = Unit {0}
AllProper (i ∷ x) = Proper i × AllProper x

proper_append : (x y : List Item) → AllProper x → AllProper y → AllProper (x ++ y)
proper_append [] y h g = g
proper_append (i ∷ x) y h g = (h.0, proper_append x y h.1 g)

proper_piece : (c t : ℕ) → t ≤ latest → (bs : List ℕ) → AllProper (piece_items c t bs)
unfolding piece_items
proper_piece c t h [] = tt
proper_piece c t h (b ∷ bs) = go (eqb b 10) refl (proper_piece c t h bs)
  where
    go : (q : Bool) → eqb b 10 ≡ q → AllProper (piece_items c t bs)
        → AllProper (cond q (mark (feeds c t) ∷ []) (byte c b ∷ piece_items c t bs))
    go true e g = (h, tt)
    go false e g = (e, g)

proper_event : (e : Event) → InTime e → AllProper (items_of e)
unfolding items_of
proper_event (Open c t) h = (h, tt)
proper_event (Close c t) h = (h, tt)
proper_event (Piece c bs t) h = proper_piece c t h bs
proper_event (Reading p bs t) h = (h, tt)
proper_event (Unreadable p k t) h = (h, tt)

proper_without : (f : Choice) (k : ℕ → ℕ) (x : List Item) → AllProper x → AllProper (without f k x)
proper_without f =
    without_holds f (λ x y. AllProper x → AllProper y) (λ h. h) (λ i x y g h. (h.0, g h.1))
    (λ d b x y g h. g h.1)
    (λ d t x y g h. g h.1)

-- ## A call for an item

single_items : (i : Item) → Proper i → items_of (single i).event ≡ i ∷ []
unfolding single items_of piece_items
single_items (byte c b) h = ap (λ q. cond q (mark (feeds c 0) ∷ []) (byte c b ∷ [])) h
single_items (mark (feeds c t)) h = refl
single_items (mark (opens c t)) h = refl
single_items (mark (closes c t)) h = refl
single_items (mark (reads p bs t)) h = refl
single_items (mark (fails p k t)) h = refl

single_roomy : (i : Item) → Proper i → Roomy (single i)
unfolding single sends is_short
single_roomy (byte c b) h = record { outbox = λ e. omega arith; area = omega arith; index = refl; in_time = omega arith }
single_roomy (mark (feeds c t)) h = record { outbox = λ e. omega arith; area = omega arith; index = refl; in_time = h }
single_roomy (mark (opens c t)) h = record { outbox = λ e. absurd (false≢true e); area = omega arith; index = refl; in_time = h }
single_roomy (mark (closes c t)) h = record { outbox = λ e. absurd (false≢true e); area = omega arith; index = refl; in_time = h }
single_roomy (mark (reads p bs t)) h = record { outbox = λ e. omega arith; area = omega arith; index = refl; in_time = h }
single_roomy (mark (fails p k t)) h = record { outbox = λ e. omega arith; area = omega arith; index = refl; in_time = h }

-- no piece is empty
single_full : (i : Item) (c t : ℕ) → (single i).event ≡ Piece c [] t → ⊥
unfolding single
single_full (byte d b) c t e = let z : ◌≡◌ {A = ℕ} 0 1 = cc in omega arith
single_full (mark (feeds d s)) c t e = let z : ◌≡◌ {A = ℕ} 0 1 = cc in omega arith
single_full (mark (opens d s)) c t e = let z : ◌≡◌ {A = ℕ} 0 1 = cc in omega arith
single_full (mark (closes d s)) c t e = let z : ◌≡◌ {A = ℕ} 0 1 = cc in omega arith
single_full (mark (reads p bs s)) c t e = let z : ◌≡◌ {A = ℕ} 0 1 = cc in omega arith
single_full (mark (fails p k s)) c t e = let z : ◌≡◌ {A = ℕ} 0 1 = cc in omega arith

singles_items : (x : List Item) → AllProper x → items (map single x) ≡ x
unfolding items
singles_items [] h = refl
singles_items (i ∷ x) h = ap₂ ◌++◌ (single_items i h.0) (singles_items x h.1)

singles_roomy : (x : List Item) → AllProper x → AllRoomy (map single x)
singles_roomy [] h = tt
singles_roomy (i ∷ x) h = (single_roomy i h.0, singles_roomy x h.1)

singles_full : (x : List Item) (l : List Call) (c t : ℕ) (lent : Lent) (r : List Call)
    → map single x ≡ l ++ (record { event = Piece c [] t; lent = lent } ∷ r) → ⊥
singles_full [] [] c t lent r e = let z : ◌≡◌ {A = ℕ} 0 1 = cc in omega arith
singles_full [] (d ∷ l) c t lent r e = let z : ◌≡◌ {A = ℕ} 0 1 = cc in omega arith
singles_full (i ∷ x) [] c t lent r e = let z : single i ≡ record { event = Piece c [] t; lent = lent } = cc in single_full i c t (ap (λ (q : Call). q.event) z)
singles_full (i ∷ x) (d ∷ l) c t lent r e = singles_full x l c t lent r (cc)

-- ## Nothing left out

without_none : (f : Choice) → ((d i : ℕ) → f d i ≡ false) → (k : ℕ → ℕ) (x : List Item) → without f k x ≡ x
unfolding without cons_if
without_none f h k [] = refl
without_none f h k (byte d b ∷ x) = ap₂ (λ q y. cons_if (not q) (byte d b) y) (go (is_ended (own d x))) (without_none f h k x)
  where
    go : (q : Bool) → (q && f d (k d)) ≡ false
    go true = h d (k d)
    go false = refl
without_none f h k (mark (feeds d t) ∷ x) =
    ap₂ (λ q y. cons_if (not q) (mark (feeds d t)) y) (h d (k d)) (without_none f h (one_more k d) x)
without_none f h k (mark (opens d t) ∷ x) = ap (mark (opens d t) ∷◌) (without_none f h k x)
without_none f h k (mark (closes d t) ∷ x) = ap (mark (closes d t) ∷◌) (without_none f h k x)
without_none f h k (mark (reads p bs t) ∷ x) = ap (mark (reads p bs t) ∷◌) (without_none f h k x)
without_none f h k (mark (fails p j t) ∷ x) = ap (mark (fails p j t) ∷◌) (without_none f h k x)

-- histories that took the same have the same second histories
second_by : (table : List ℕ) (n : Node) (h g k : List Call) → taken table n h ≡ taken table n g → IsSecond table n h k → IsSecond table n g k
second_by table n h g k e s =
    record {
      roomy = s.roomy;
      clients = λ c. ap (own c) (sym e) ∙ s.clients c;
      common = ap marks (sym e) ∙ s.common;
      empties = s.empties;
    }

-- ## From an accepted start

module _ (table : List ℕ) (z : table_number table ≡ 0) where
  proper_taken : (h : List Call) (n : Node) → AllProper (taken table n h)
  unfolding taken if_accepted
  proper_taken [] n = tt
  proper_taken (e ∷ h) n =
      proper_append
      (if_accepted (step table n e).1.number (items_of e.event))
      (taken table (step table n e).0 h)
      (go (step table n e).1.number refl)
      (proper_taken h (step table n e).0)
    where
      go : (j : ℕ) → (step table n e).1.number ≡ j → AllProper (if_accepted j (items_of e.event))
      go zero q = proper_event e.event ((accepts table z n e).0 (sym (step_number table n e) ∙ q)).0.in_time
      go (suc j) q = tt

  -- what stays of a history without the chosen lines
  module _ (time : ℕ) (f : Choice) (h : List Call) where
    abbrev n : Node
    n = begin (table_of table) time

    abbrev stay : List Item
    stay = without f (λ d. 0) (taken table n h)

    proper : AllProper stay
    proper = proper_without f (λ d. 0) (taken table n h) (proper_taken h n)

    full : EmptiesOpen n (map single stay)
    full l c t lent r q = absurd (singles_full stay l c t lent r q)

    stays : AllAccepted (answers table n (map single stay)) × (taken table n (map single stay) ≡ items (map single stay))
    unfolding begin is_open
    stays =
        let u = all_used table h n in
        let e = singles_items stay proper in
        wholly table z (map single stay) n (λ d q. absurd (false≢true q)) (singles_roomy stay proper)
        (λ d. ap (λ x. in_order d (is_open (n.clients d)) (own d x)) e ∙ orderly f (λ d. 0) (taken table n h) d (is_open (n.clients d)) (u.ordered d))
        (ap (λ x. all (readable table) (marks x)) e ∙ laws.readable f (readable table) (λ d. 0) (taken table n h) u.readings)
        full

    pub stays_taken : taken table n (less_lines table n f h) ≡ stay
    unfolding less_lines
    stays_taken = stays.1 ∙ singles_items stay proper

    left_out_lem : LeftOut table n f h
    unfolding less_lines
    left_out_lem =
        record {
          accepted = stays.0;
          items = stays_taken;
          second =
              record {
                roomy = singles_roomy stay proper;
                clients = λ c. ap (own c) stays.1;
                common = ap marks stays.1;
                empties = full;
              };
          whole =
              λ none k.
              let e = stays_taken ∙ without_none f none (λ d. 0) (taken table n h) in
              (second_by table n (less_lines table n f h) h k e, second_by table n h (less_lines table n f h) k (sym e));
        }

pub lines_can_be_left_out : LinesCanBeLeftOut
lines_can_be_left_out table area time e h f = left_out_lem table (good_table table area time e) time f h
