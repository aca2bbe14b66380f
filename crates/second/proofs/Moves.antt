-- Some calls of a second history replaced by others of the same items: calls that change places, pieces that are cut. Assumes nothing.
use Prim.Native.Nat.{ℕ}
use mathlib.Core.Bool.{Bool, true, false, cond, not, So, and-eq-true_iff, false≢true}
use mathlib.Core.List.{List, [], ◌∷◌, ◌++◌, append-nil, append_assoc}
use mathlib.Core.Logic.{◌↔◌}
use mathlib.Core.Path.{◌≡◌, refl, sym, ◌∙◌, ap, ap₂, subst, fun_ext}
use lib.Dec.{eqb, ltb}
use borrow.Author.Tests.{eqb-true, not-true, not-false}
use Rattle.plain.specs.Node.{Node, is_open}
use Rattle.plain.specs.Calls.{Event, Open, Close, Piece, Reading, Unreadable, Lent, Call, sends, has_feed}
use Rattle.plain.specs.History.{feeds, opens, closes, Item, byte, mark, item_of, mark_of, cons_if, own, marks, standing, piece_items, items_of, items, AllRoomy, IsSecond}
use Rattle.second.specs.Theorems.{EmptyPasses, CallsMayChangePlaces, event_of, PiecesMayBeMingled, PiecesMayBeCut, UnusedMayBeOffered}
use Rattle.second.proofs.Items.{own_append, marks_append, standing_append, in_order, own_both}
use Rattle.second.proofs.Calls.{order_piece}
use Rattle.second.proofs.Second.{all_used}

-- ## Who is open

-- who is open after these items
abbrev stands : (ℕ → Bool) → List Item → ℕ → Bool
stands f x c = standing (f c) (own c x)

stands_append : (f : ℕ → Bool) (x y : List Item) (c : ℕ) → stands f (x ++ y) c ≡ stands (stands f x) y c
stands_append f x y c = ap (standing (f c)) (own_append c x y) ∙ standing_append (f c) (own c x) (own c y)

-- Empty pieces come from open clients, call by call.
abbrev Asks : (ℕ → Bool) → List Call → Type 0
Asks f [] = Unit {0}
Asks f (e ∷ k) = ((c t : ℕ) → e.event ≡ Piece c [] t → f c ≡ true) × Asks (stands f (items_of e.event)) k

asks_append : (x y : List Call) (f : ℕ → Bool) → Asks f (x ++ y) ↔ (Asks f x × Asks (stands f (items x)) y)
unfolding items own standing
asks_append [] y f = (λ h. (tt, h), λ h. h.1)
asks_append (e ∷ x) y f =
    let r = asks_append x y (stands f (items_of e.event)) in
    let p : stands f (items_of e.event ++ items x) ≡ stands (stands f (items_of e.event)) (items x) = fun_ext (stands_append f (items_of e.event) (items x)) in (
      λ h. ((h.0, (r.0 h.1).0), subst (λ g. Asks g y) (sym p) (r.0 h.1).1),
      λ h. (h.0.0, r.1 (h.0.1, subst (λ g. Asks g y) p h.1)),
    )

asks_all : (k : List Call) (f : ℕ → Bool)
    → ((l : List Call) (c t : ℕ) (lent : Lent) (r : List Call) → k ≡ l ++ (record { event = Piece c [] t; lent = lent } ∷ r) → stands f (items l) c ≡ true) → Asks f k
unfolding items own standing
asks_all [] f h = tt
asks_all (e ∷ k) f h = (
  λ c t q. h [] c t e.lent k (ap (λ v. record { event = v; lent = e.lent } ∷ k) q),
  asks_all k (stands f (items_of e.event))
      (λ l c t lent r q. sym (stands_append f (items_of e.event) (items l) c) ∙ h (e ∷ l) c t lent r (ap (e ∷◌) q)),
)

-- ## Some calls replaced by others

items_append : (x y : List Call) → items (x ++ y) ≡ items x ++ items y
unfolding items
items_append [] y = refl
items_append (e ∷ x) y = rw (items_append x y, append_assoc)

roomy_append : (x y : List Call) → AllRoomy (x ++ y) ↔ (AllRoomy x × AllRoomy y)
roomy_append [] y = (λ h. (tt, h), λ h. h.1)
roomy_append (e ∷ x) y =
    let r = roomy_append x y in
    (λ h. ((h.0, (r.0 h.1).0), (r.0 h.1).1), λ h. (h.0.0, r.1 (h.0.1, h.1)))

-- who is open after these calls
abbrev opened : Node → List Call → ℕ → Bool
opened n l = stands (λ c. is_open (n.clients c)) (items l)

-- The calls x may be replaced by the calls y, of the same items.
replaced : (table : List ℕ) (n : Node) (h l x y r : List Call) → ((c : ℕ) → own c (items x) ≡ own c (items y))
    → marks (items x) ≡ marks (items y) → (AllRoomy x → AllRoomy y) → (Asks (opened n l) x → Asks (opened n l) y)
    → IsSecond table n h (l ++ (x ++ r)) → IsSecond table n h (l ++ (y ++ r))
replaced table n h l x y r p q f g s =
    let i : ℕ → Bool = λ c. is_open (n.clients c) in
    let a = (roomy_append l (x ++ r)).0 s.roomy in
    let b = (roomy_append x r).0 a.1 in
    let u = (asks_append l (x ++ r) i).0 (asks_all (l ++ (x ++ r)) i s.empties) in
    let v = (asks_append x r (opened n l)).0 u.1 in
    let w : Asks (stands (opened n l) (items y)) r = subst (λ j. Asks j r) (fun_ext (λ c. ap (standing (opened n l c)) (p c))) v.1 in
    let k : Asks i (l ++ (y ++ r)) = (asks_append l (y ++ r) i).1 (u.0, (asks_append y r (opened n l)).1 (g v.0, w)) in
    record {
      roomy = (roomy_append l (y ++ r)).1 (a.0, (roomy_append y r).1 (f b.0, b.1));
      clients = λ c. s.clients c ∙ simp (items_append, own_append, p c);
      common = s.common ∙ simp (items_append, marks_append, q);
      empties = λ m c t lent j e. ((asks_append m (record { event = Piece c [] t; lent = lent } ∷ j) i).0 (subst (Asks i) e k)).1.0 c t refl;
    }

-- ## Calls that change places

two_items : (e f : Call) → items (e ∷ f ∷ []) ≡ items_of e.event ++ items_of f.event
unfolding items
two_items e f = ap (items_of e.event ++◌) (append-nil (items_of f.event))

pub calls_may_change_places : CallsMayChangePlaces
calls_may_change_places table n h l r e f p q i j s =
    replaced table n h l (e ∷ f ∷ []) (f ∷ e ∷ []) r
    (λ c. rw (two_items e f, two_items f e) (p c))
    (rw (two_items e f, two_items f e) q)
    (λ u. (u.1.0, (u.0, tt)))
    (λ u. (λ c t k. sym (j c t _ k) ∙ u.1.0 c t k, (λ c t k. i c t _ k ∙ u.0 c t k, tt)))
    s

-- ## Pieces

module _ (c t : ℕ) where
  -- a piece opens and closes nobody
  standing_piece : (d : ℕ) (b : Bool) (bs : List ℕ) → standing b (own d (piece_items c t bs)) ≡ b
  unfolding piece_items own item_of mark_of cons_if standing
  standing_piece d b [] = refl
  standing_piece d b (v ∷ bs) = go (eqb v 10) (standing_piece d b bs)
    where
      fed : (q : Bool) → standing b (cons_if q (mark (feeds c t)) []) ≡ b
      fed true = refl
      fed false = refl

      more : (q : Bool) (x : List Item) → standing b x ≡ b → standing b (cons_if q (byte c v) x) ≡ b
      more true x h = h
      more false x h = h

      go : (p : Bool) → standing b (own d (piece_items c t bs)) ≡ b
          → standing b (own d (cond p (mark (feeds c t) ∷ []) (byte c v ∷ piece_items c t bs))) ≡ b
      go true h = fed (eqb d c)
      go false h = more (eqb d c) _ h

  -- without a line feed it has no mark
  piece_marks : (bs : List ℕ) → has_feed bs ≡ false → marks (piece_items c t bs) ≡ []
  unfolding piece_items marks has_feed
  piece_marks [] h = refl
  piece_marks (v ∷ bs) h = go (eqb v 10) (piece_marks bs) h
    where
      go : (p : Bool) → (has_feed bs ≡ false → marks (piece_items c t bs) ≡ []) → cond p true (has_feed bs) ≡ false
          → marks (cond p (mark (feeds c t) ∷ []) (byte c v ∷ piece_items c t bs)) ≡ []
      go true k h = absurd (false≢true (sym h))
      go false k h = k h

  -- another client has no item in it
  piece_others : (d : ℕ) → eqb d c ≡ false → (bs : List ℕ) → own d (piece_items c t bs) ≡ []
  unfolding piece_items own item_of mark_of cons_if
  piece_others d e [] = refl
  piece_others d e (v ∷ bs) = go (eqb v 10) (piece_others d e bs)
    where
      go : (p : Bool) → own d (piece_items c t bs) ≡ [] → own d (cond p (mark (feeds c t) ∷ []) (byte c v ∷ piece_items c t bs)) ≡ []
      go true k = ap (λ q. cons_if q (mark (feeds c t)) []) e
      go false k = ap₂ (λ q. cons_if q (byte c v)) e k

  -- the items of its parts, of which the first has no line feed
  piece_cut : (s : ℕ) (xs ys : List ℕ) → has_feed xs ≡ false → piece_items c t (xs ++ ys) ≡ piece_items c s xs ++ piece_items c t ys
  unfolding piece_items has_feed
  piece_cut s [] ys h = refl
  piece_cut s (v ∷ xs) ys h = go (eqb v 10) (piece_cut s xs ys) h
    where
      go : (p : Bool) → (has_feed xs ≡ false → piece_items c t (xs ++ ys) ≡ piece_items c s xs ++ piece_items c t ys)
          → cond p true (has_feed xs) ≡ false → cond p (mark (feeds c t) ∷ []) (byte c v ∷ piece_items c t (xs ++ ys))
          ≡ cond p (mark (feeds c s) ∷ []) (byte c v ∷ piece_items c s xs) ++ piece_items c t ys
      go true k h = absurd (false≢true (sym h))
      go false k h = ap (byte c v ∷◌) (k h)

  -- what follows a line feed has no items
  piece_unused : (xs ys : List ℕ) → has_feed xs ≡ true → piece_items c t xs ≡ piece_items c t (xs ++ ys)
  unfolding piece_items has_feed
  piece_unused [] ys h = absurd (false≢true h)
  piece_unused (v ∷ xs) ys h = go (eqb v 10) (piece_unused xs ys) h
    where
      go : (p : Bool) → (has_feed xs ≡ true → piece_items c t xs ≡ piece_items c t (xs ++ ys)) → cond p true (has_feed xs) ≡ true
          → cond p (mark (feeds c t) ∷ []) (byte c v ∷ piece_items c t xs) ≡ cond p (mark (feeds c t) ∷ []) (byte c v ∷ piece_items c t (xs ++ ys))
      go true k h = refl
      go false k h = ap (byte c v ∷◌) (k h)

-- an event that is not a client's has none of its items
not_own : (d : ℕ) (e : Event) → event_of d e ≡ false → own d (items_of e) ≡ []
unfolding event_of items_of own item_of mark_of cons_if
not_own d (Open c t) h = ap (λ q. cons_if q (mark (opens c t)) []) h
not_own d (Close c t) h = ap (λ q. cons_if q (mark (closes c t)) []) h
not_own d (Piece c bs t) h = piece_others c t d h bs
not_own d (Reading p bs t) h = refl
not_own d (Unreadable p k t) h = refl

-- two lists of which one is empty
either_way : {A : Type 0} (x y : List A) → x ≡ [] → x ++ y ≡ y ++ x
either_way x y h = ap (◌++ y) h ∙ sym (append-nil y) ∙ ap (y ++◌) (sym h)

-- a piece without a line feed, and an event that is not its client's
module _ (c t : ℕ) (bs : List ℕ) (e : Event) (k : has_feed bs ≡ false) (j : event_of c e ≡ false) where
  piece_own : (d : ℕ) → own d (piece_items c t bs ++ items_of e) ≡ own d (items_of e ++ piece_items c t bs)
  piece_own d = simp own_append (go (eqb d c) refl)
    where
      go : (q : Bool) → eqb d c ≡ q → own d (piece_items c t bs) ++ own d (items_of e) ≡ own d (items_of e) ++ own d (piece_items c t bs)
      go true h = sym (either_way _ _ (not_own d e (ap (λ i. event_of i e) (eqb-true d c h) ∙ j)))
      go false h = either_way _ _ (piece_others c t d h bs)

  piece_common : marks (piece_items c t bs ++ items_of e) ≡ marks (items_of e ++ piece_items c t bs)
  piece_common = simp marks_append (either_way _ _ (piece_marks c t bs k))

  piece_passes : EmptyPasses (Piece c bs t) e
  unfolding standing
  piece_passes d s b q =
      let p : d ≡ c = cc in
      ap (standing b) (not_own d e (ap (λ i. event_of i e) p ∙ j))

  passes_piece : EmptyPasses e (Piece c bs t)
  unfolding items_of
  passes_piece d s b q = standing_piece c t d b bs

pub pieces_may_be_mingled : PiecesMayBeMingled
unfolding items_of
pieces_may_be_mingled table n h l r c t bs lent e k j =
    let x : Call = record { event = Piece c bs t; lent = lent } in
    let p = piece_own c t bs e.event k j in
    let q = piece_common c t bs e.event k j in
    let u = piece_passes c t bs e.event k j in
    let v = passes_piece c t bs e.event k j in (
      calls_may_change_places table n h l r x e p q u v,
      calls_may_change_places table n h l r e x (λ d. sym (p d)) (sym q) v u,
    )

-- a piece of a second history comes from an open client
piece_open : (table : List ℕ) (n : Node) (h l r : List Call) (c t : ℕ) (lent : Lent) (bs : List ℕ)
    → IsSecond table n h (l ++ (record { event = Piece c bs t; lent = lent } ∷ r)) → opened n l c ≡ true
unfolding items items_of
piece_open table n h l r c t lent [] s = s.empties l c t lent r refl
piece_open table n h l r c t lent (v ∷ bs) s =
    let b = is_open (n.clients c) in
    let x = piece_items c t (v ∷ bs) in
    let p : So (in_order c b (own c (items l ++ (x ++ items r)))) =
    ap (λ i. in_order c b (own c i)) (sym (items_append l (record { event = Piece c (v ∷ bs) t; lent = lent } ∷ r)))
    ∙ ap (in_order c b) (sym (s.clients c))
    ∙ (all_used table h n).ordered c in
    let q = ((own_both c (opened n l c) x (items r)).0 ((own_both c b (items l) (x ++ items r)).0 p).1).0 in
    not-false _ (not-true _ ((and-eq-true_iff (not (ltb 7 c)) (not (not (opened n l c)))).0 (order_piece c t _ v bs q)).1)

pub pieces_may_be_cut : PiecesMayBeCut
unfolding items items_of
pieces_may_be_cut table n h l r c t s a b d xs ys k u v w =
    let e : Call = record { event = Piece c (xs ++ ys) t; lent = a } in
    let f : Call = record { event = Piece c xs s; lent = b } in
    let g : Call = record { event = Piece c ys t; lent = d } in
    let i : items (e ∷ []) ≡ items (f ∷ g ∷ []) = ap (◌++ []) (piece_cut c t s xs ys k) ∙ append_assoc (piece_items c s xs) (piece_items c t ys) [] in
    let j : (m : ℕ) → opened n l c ≡ true → m ≡ c → opened n l m ≡ true = λ m z y. ap (opened n l) y ∙ z in (
      λ z.
          let y = piece_open table n h l r c t a (xs ++ ys) z in
          replaced table n h l (e ∷ []) (f ∷ g ∷ []) r (λ m. ap (own m) i) (ap marks i) (λ _. (v, (w, tt)))
          (λ _. (λ m t' x. j m y (cc), (λ m t' x. standing_piece c s m _ xs ∙ j m y (cc), tt)))
          z,
      λ z.
          let y = piece_open table n h l (g ∷ r) c s b xs z in
          replaced table n h l (f ∷ g ∷ []) (e ∷ []) r (λ m. ap (own m) (sym i)) (ap marks (sym i)) (λ _. (u, tt)) (λ _. (λ m t' x. j m y (cc), tt)) z,
    )

pub unused_may_be_offered : UnusedMayBeOffered
unfolding items items_of sends
unused_may_be_offered table n h l r c t lent xs ys k =
    let e : Call = record { event = Piece c xs t; lent = lent } in
    let f : Call = record { event = Piece c (xs ++ ys) t; lent = lent } in
    let i : items (e ∷ []) ≡ items (f ∷ []) = ap (◌++ []) (piece_unused c t xs ys k) in
    let j : (m : ℕ) → opened n l c ≡ true → m ≡ c → opened n l m ≡ true = λ m z y. ap (opened n l) y ∙ z in
    let u : AllRoomy (e ∷ []) → AllRoomy (f ∷ []) = λ w. (record { outbox = w.0.outbox; area = w.0.area; index = w.0.index; in_time = w.0.in_time }, tt) in
    let v : AllRoomy (f ∷ []) → AllRoomy (e ∷ []) = λ w. (record { outbox = w.0.outbox; area = w.0.area; index = w.0.index; in_time = w.0.in_time }, tt) in (
      λ z.
          let y = piece_open table n h l r c t lent xs z in
          replaced table n h l (e ∷ []) (f ∷ []) r (λ m. ap (own m) i) (ap marks i) u (λ _. (λ m t' x. j m y (cc), tt)) z,
      λ z.
          let y = piece_open table n h l r c t lent (xs ++ ys) z in
          replaced table n h l (f ∷ []) (e ∷ []) r (λ m. ap (own m) (sym i)) (ap marks (sym i)) v (λ _. (λ m t' x. j m y (cc), tt)) z,
    )
