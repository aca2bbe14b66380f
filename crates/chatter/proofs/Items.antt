-- What the items that stay have of all the items: they are in order, their readings are as they were. Assumes nothing.
use Prim.Native.Nat.{ℕ}
use mathlib.Core.Bool.{Bool, true, false, not, ◌&&◌, So, and-eq-true_iff}
use mathlib.Core.List.{List, [], ◌∷◌}
use mathlib.Core.Path.{◌≡◌, refl, sym, ◌∙◌, ap, ap₂}
use Rattle.ascii.specs.Bytes.{all}
use Rattle.plain.specs.Node.{put}
use Rattle.plain.specs.History.{Mark, feeds, opens, closes, reads, fails, Item, byte, mark, mark_of, item_of, cons_if, own, marks, standing}
use Rattle.second.proofs.Items.{due, in_order}
use Rattle.chatter.specs.Without.{Choice, one_more, is_ended, without, orders_less}
use Rattle.chatter.specs.Theorems.{Worked}

-- What holds of no items, and with each item that is kept, and with each byte and line feed that is left out, holds of all the items and those
-- that stay.
module _ (f : Choice) (P : List Item → List Item → Type 0) (none : P [] [])
    (kept : (i : Item) (x y : List Item) → P x y → P (i ∷ x) (i ∷ y))
    (byteLeft : (d b : ℕ) (x y : List Item) → P x y → P (byte d b ∷ x) y)
    (feedLeft : (d t : ℕ) (x y : List Item) → P x y → P (mark (feeds d t) ∷ x) y) where
  pub without_holds : (k : ℕ → ℕ) (x : List Item) → P x (without f k x)
  unfolding without cons_if
  without_holds k [] = none
  without_holds k (byte d b ∷ x) = go (is_ended (own d x) && f d (k d)) (without_holds k x)
    where
      go : (q : Bool) → P x (without f k x) → P (byte d b ∷ x) (cons_if (not q) (byte d b) (without f k x))
      go true h = byteLeft d b x _ h
      go false h = kept (byte d b) x _ h
  without_holds k (mark (feeds d t) ∷ x) = go (f d (k d)) (without_holds (one_more k d) x)
    where
      go : (q : Bool) → P x (without f (one_more k d) x)
          → P (mark (feeds d t) ∷ x) (cons_if (not q) (mark (feeds d t)) (without f (one_more k d) x))
      go true h = feedLeft d t x _ h
      go false h = kept (mark (feeds d t)) x _ h
  without_holds k (mark (opens d t) ∷ x) = kept (mark (opens d t)) x _ (without_holds k x)
  without_holds k (mark (closes d t) ∷ x) = kept (mark (closes d t)) x _ (without_holds k x)
  without_holds k (mark (reads p bs t) ∷ x) = kept (mark (reads p bs t)) x _ (without_holds k x)
  without_holds k (mark (fails p j t) ∷ x) = kept (mark (fails p j t)) x _ (without_holds k x)

-- ## Order

-- the items y are in order wherever x are
abbrev Orderly : List Item → List Item → Type 0
Orderly x y = (d : ℕ) (b : Bool) → So (in_order d b (own d x)) → So (in_order d b (own d y))

orderly_kept : (i : Item) (x y : List Item) → Orderly x y → Orderly (i ∷ x) (i ∷ y)
unfolding own cons_if
orderly_kept i x y h d b = go (item_of d i)
  where
    go : (q : Bool) → So (in_order d b (cons_if q i (own d x))) → So (in_order d b (cons_if q i (own d y)))
    go true s =
        let r = (and-eq-true_iff (due d b i) (in_order d (standing b (i ∷ [])) (own d x))).0 s in
        ap₂ ◌&&◌ r.0 (h d (standing b (i ∷ [])) r.1)
    go false s = h d b s

-- an item that opens and closes nobody
orderly_left : (i : Item) (x y : List Item) → ((b : Bool) → standing b (i ∷ []) ≡ b) → Orderly x y → Orderly (i ∷ x) y
unfolding own cons_if
orderly_left i x y e h d b = go (item_of d i)
  where
    go : (q : Bool) → So (in_order d b (cons_if q i (own d x))) → So (in_order d b (own d y))
    go true s =
        h d b (ap (λ a. in_order d a (own d x)) (sym (e b)) ∙ ((and-eq-true_iff (due d b i) (in_order d (standing b (i ∷ [])) (own d x))).0 s).1)
    go false s = h d b s

pub orderly : (f : Choice) (k : ℕ → ℕ) (x : List Item) → Orderly x (without f k x)
unfolding standing
orderly f =
    without_holds f Orderly (λ d b s. s) orderly_kept
    (λ d b x y. orderly_left (byte d b) x y (λ q. refl))
    (λ d t x y. orderly_left (mark (feeds d t)) x y (λ q. refl))

-- ## Marks

abbrev Readable : (Mark → Bool) → List Item → List Item → Type 0
Readable p x y = So (all p (marks x)) → So (all p (marks y))

readable_mark : (p : Mark → Bool) (m : Mark) (x y : List Item) → Readable p x y → Readable p (mark m ∷ x) (mark m ∷ y)
unfolding marks all
readable_mark p m x y h s = let r = (and-eq-true_iff (p m) (all p (marks x))).0 s in ap₂ ◌&&◌ r.0 (h r.1)

readable_kept : (p : Mark → Bool) (i : Item) (x y : List Item) → Readable p x y → Readable p (i ∷ x) (i ∷ y)
unfolding marks
readable_kept p (byte d b) x y h = h
readable_kept p (mark m) x y h = readable_mark p m x y h

pub readable : (f : Choice) (p : Mark → Bool) (k : ℕ → ℕ) (x : List Item) → Readable p x (without f k x)
unfolding marks all
readable f p =
    without_holds f (Readable p) (λ s. s) (readable_kept p)
    (λ d b x y h. h)
    (λ d t x y h s. h ((and-eq-true_iff (p (feeds d t)) (all p (marks x))).0 s).1)

-- ## Worked out

pub worked : Worked
unfolding without is_ended own item_of mark_of cons_if put orders_less
worked = record { first = refl; second = refl; commands = refl }
