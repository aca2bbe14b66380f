-- Lists of items laid end to end, and when a client's own items, and the readings among the marks, are in order. Assumes nothing.
use Prim.Native.Nat.{ℕ}
use mathlib.Core.Bool.{Bool, true, false, not, ◌&&◌, and_assoc, So, and-eq-true_iff}
use mathlib.Core.List.{List, [], ◌∷◌, ◌++◌}
use mathlib.Core.Logic.{◌↔◌}
use mathlib.Core.Path.{◌≡◌, refl, sym, ◌∙◌, ap}
use lib.Dec.{ltb}
use Rattle.ascii.specs.Bytes.{all}
use Rattle.ascii.proofs.Lists.{all_joined}
use Rattle.plain.specs.History.{Mark, feeds, opens, closes, reads, fails, Item, byte, mark, item_of, cons_if, own, marks, standing}

pub own_append : (d : ℕ) (x y : List Item) → own d (x ++ y) ≡ own d x ++ own d y
unfolding own cons_if
own_append d [] y = refl
own_append d (i ∷ x) y = ap (cons_if (item_of d i) i) (own_append d x y) ∙ go (item_of d i)
  where
    go : (q : Bool) → cons_if q i (own d x ++ own d y) ≡ cons_if q i (own d x) ++ own d y
    go true = refl
    go false = refl

pub marks_append : (x y : List Item) → marks (x ++ y) ≡ marks x ++ marks y
unfolding marks
marks_append [] y = refl
marks_append (byte c b ∷ x) y = marks_append x y
marks_append (mark m ∷ x) y = ap (m ∷◌) (marks_append x y)

pub standing_append : (b : Bool) (x y : List Item) → standing b (x ++ y) ≡ standing (standing b x) y
unfolding standing
standing_append b [] y = refl
standing_append b (byte c v ∷ x) y = standing_append b x y
standing_append b (mark (feeds c t) ∷ x) y = standing_append b x y
standing_append b (mark (opens c t) ∷ x) y = standing_append true x y
standing_append b (mark (closes c t) ∷ x) y = standing_append false x y
standing_append b (mark (reads p bs t) ∷ x) y = standing_append b x y
standing_append b (mark (fails p k t) ∷ x) y = standing_append b x y

-- what is amiss with a client's own item where the client is open (or not), and an item at its time: by a client's number of at most 7,
-- with nothing amiss
abbrev amiss : Bool → Item → Bool
amiss b (byte c x) = not b
amiss b (mark (feeds c t)) = not b
amiss b (mark (opens c t)) = b
amiss b (mark (closes c t)) = not b
amiss b (mark (reads p bs t)) = false
amiss b (mark (fails p k t)) = false

abbrev pub due : ℕ → Bool → Item → Bool
due d b i = not (ltb 7 d) && not (amiss b i)

abbrev pub in_order : ℕ → Bool → List Item → Bool
in_order d b [] = true
in_order d b (i ∷ x) = due d b i && in_order d (standing b (i ∷ [])) x

order_append : (d : ℕ) (b : Bool) (x y : List Item) → in_order d b (x ++ y) ≡ (in_order d b x && in_order d (standing b x) y)
unfolding standing
order_append d b [] y = refl
order_append d b (i ∷ x) y =
    ap (due d b i &&◌) (order_append d (standing b (i ∷ [])) x y)
    ∙ sym (and_assoc (due d b i) (in_order d (standing b (i ∷ [])) x) (in_order d (standing (standing b (i ∷ [])) x) y))
    ∙ ap (λ q. in_order d b (i ∷ x) && in_order d q y) (sym (standing_append b (i ∷ []) x))

-- In order are two lists laid end to end if both are, the second from where the first ends.
pub own_both : (d : ℕ) (b : Bool) (x y : List Item)
    → So (in_order d b (own d (x ++ y))) ↔ (So (in_order d b (own d x)) × So (in_order d (standing b (own d x)) (own d y)))
own_both d b x y =
    rw (own_append, order_append) (and-eq-true_iff (in_order d b (own d x)) (in_order d (standing b (own d x)) (own d y)))

pub marks_both : (p : Mark → Bool) (x y : List Item) → So (all p (marks (x ++ y))) ↔ (So (all p (marks x)) × So (all p (marks y)))
marks_both p x y = rw (marks_append, all_joined) (and-eq-true_iff (all p (marks x)) (all p (marks y)))

-- a client that is open after such items has a small number
pub order_small : (d : ℕ) (b : Bool) (x : List Item) → So (in_order d b x) → (So b → So (not (ltb 7 d))) → So (standing b x) → So (not (ltb 7 d))
unfolding standing
order_small d b [] h k e = k e
order_small d b (i ∷ x) h k e =
    ((and-eq-true_iff (not (ltb 7 d)) (not (amiss b i))).0 ((and-eq-true_iff (due d b i) (in_order d (standing b (i ∷ [])) x)).0 h).0).0
