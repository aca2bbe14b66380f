-- Laws of a change of one client: what the state holds of client c is new, and what it holds of every other is as it was. Assumes nothing.
use Prim.Native.Nat.{ℕ, ◌<◌}
use mathlib.Core.Path.{◌≡◌, refl, sym, ap, subst, fun_ext, ◌∙◌}
use mathlib.Core.Bool.{Bool, true, false, cond, not, ◌&&◌, ◌||◌, false≢true}
use mathlib.Core.List.{List, []}
use lib.Dec.{eqb, ltb}
use lib.ListN.{length, get_or, set}
use lib.Seq.{get_or-set_same, get_or-set_other}
use borrow.Author.Tests.{eqb-true, eqb-false}
use Rattle.ascii.specs.Bytes.{any}
use Rattle.message.specs.Line.{Line, whole, overlong}
use Rattle.plain.specs.Node.{Client, closed, connected, fresh, put, emptied, activated}
use Rattle.state.specs.declared.Clients.{Clients}
use Rattle.state.specs.View.{is_set, bit, line_bytes, line_at, client_at}
use Rattle.state.specs.Fit.{client_unfit, past_last}
use Rattle.state.specs.Changed.{with_opened, with_closed, with_ended}
use Rattle.state.specs.Clauses.Bare.{with_active}
use Rattle.state.proofs.Becomes.{Becomes, Always, Activatable, Sized}
use Rattle.ascii.proofs.Lists.{neither}
use Rattle.state.proofs.Masks.{no_bit, past_last_lem}

-- ## A client by what the state holds of it: is it open, is its line overlong, its mask, the length and the bytes of its line

abbrev pub yes : ℕ → Bool
yes n = not (eqb n 0)

abbrev pub line_of : ℕ → List ℕ → Line
line_of v bs = cond (yes v) overlong (whole bs)

abbrev pub client_of : ℕ → ℕ → ℕ → List ℕ → Client
client_of o v a bs = cond (yes o) (connected (line_of v bs) (bit a)) closed

pub record Fit (m o v a n : ℕ) (bs : List ℕ) : Type 0 where
  pub short : ltb 1024 n ≡ false
  pub no_feed : any (λ b. eqb b 10) bs ≡ false
  pub dropped : yes v && yes n ≡ false
  pub within : past_last a m ≡ false
  pub forgotten : not (yes o) && (yes n || yes v || yes a) ≡ false

abbrev unfit : ℕ → ℕ → ℕ → ℕ → ℕ → List ℕ → Bool
unfit m o v a n bs =
    ltb 1024 n
    || any (λ b. eqb b 10) bs
    || (yes v && yes n)
    || past_last a m
    || (not (yes o) && (yes n || yes v || yes a))

fit_is : (m o v a n : ℕ) (bs : List ℕ) → Fit m o v a n bs → unfit m o v a n bs ≡ false
fit_is m o v a n bs f = rw (f.short, f.no_feed, f.dropped, f.within, f.forgotten)

is_fit_lem : (m o v a n : ℕ) (bs : List ℕ) → unfit m o v a n bs ≡ false → Fit m o v a n bs
is_fit_lem m o v a n bs h =
    let x = neither (ltb 1024 n || any (λ b. eqb b 10) bs || (yes v && yes n) || past_last a m) _ h in
    let y = neither (ltb 1024 n || any (λ b. eqb b 10) bs || (yes v && yes n)) _ x.0 in
    let z = neither (ltb 1024 n || any (λ b. eqb b 10) bs) _ y.0 in
    let w = neither (ltb 1024 n) _ z.0 in
    record { short = w.0; no_feed = w.1; dropped = z.1; within = y.1; forgotten = x.1 }

abbrev pub FitAt : ℕ → Clients → ℕ → Type 0
FitAt m s c = Fit m (get_or s.open c 0) (get_or s.overlong c 0) (get_or s.active c 0) (get_or s.length c 0) (line_bytes s c)

pub fit_at : (m : ℕ) (s : Clients) (c : ℕ) → client_unfit m s c ≡ false → FitAt m s c
unfolding client_unfit is_set
fit_at m s c h = is_fit_lem m (get_or s.open c 0) (get_or s.overlong c 0) (get_or s.active c 0) (get_or s.length c 0) (line_bytes s c) h

-- ## A change

-- element c of a list becomes v
pub record Changed (l k : List ℕ) (c v : ℕ) : Type 0 where
  pub own : get_or k c 0 ≡ v
  pub others : (d : ℕ) → (d ≡ c → ⊥) → get_or k d 0 ≡ get_or l d 0

pub changed : (l : List ℕ) (c v : ℕ) → c < length l → Changed l (set l c v) c v
changed l c v h = record { own = get_or-set_same l c v 0 h; others = λ d n. get_or-set_other l c d v 0 n }

pub unchanged : (l : List ℕ) (c : ℕ) → Changed l l c (get_or l c 0)
unchanged l c = record { own = refl; others = λ d n. refl }

-- of the clients s, client c becomes another, and r has it
pub record Change (s r : Clients) (c o v a n : ℕ) (bs : List ℕ) : Type 0 where
  pub is_open : Changed s.open r.open c o
  pub is_overlong : Changed s.overlong r.overlong c v
  pub mask : Changed s.active r.active c a
  pub size : Changed s.length r.length c n
  pub own : line_bytes r c ≡ bs
  pub others : (d : ℕ) → (d ≡ c → ⊥) → line_bytes r d ≡ line_bytes s d

-- a change that leaves the lines as they are
pub still : (s r : Clients) (c n : ℕ) → r.lines ≡ s.lines → Changed s.length r.length c n → (d : ℕ) → (d ≡ c → ⊥) → line_bytes r d ≡ line_bytes s d
unfolding line_bytes
still s r c n e x d h = rw (e, x.others d h)

pub emptied_line : (s r : Clients) (c : ℕ) → Changed s.length r.length c 0 → line_bytes r c ≡ []
unfolding line_bytes
emptied_line s r c x = rw x.own

module _ {s r : Clients} {c o v a n : ℕ} {bs : List ℕ} (x : Change s r c o v a n bs) where
  at_own : client_at r c ≡ client_of o v a bs
  unfolding client_at line_at is_set
  at_own = rw (x.is_open.own, x.is_overlong.own, x.mask.own, x.own)

  at_other : (d : ℕ) → (d ≡ c → ⊥) → client_at r d ≡ client_at s d
  unfolding client_at line_at is_set
  at_other d h = rw (x.is_open.others d h, x.is_overlong.others d h, x.mask.others d h, x.others d h)

  fit_own : (m : ℕ) → Fit m o v a n bs → client_unfit m r c ≡ false
  unfolding client_unfit is_set
  fit_own m f = rw (x.is_open.own, x.is_overlong.own, x.mask.own, x.size.own, x.own) (fit_is m o v a n bs f)

  fit_other : (m d : ℕ) → (d ≡ c → ⊥) → client_unfit m r d ≡ client_unfit m s d
  unfolding client_unfit is_set
  fit_other m d h = rw (x.is_open.others d h, x.is_overlong.others d h, x.mask.others d h, x.size.others d h, x.others d h)

  pub becomes : (y : Client) (condition : ℕ → Type 0) → client_of o v a bs ≡ y → ((m : ℕ) → FitAt m s c → condition m → Fit m o v a n bs) → Becomes s c y condition r
  unfolding put
  becomes y condition e f =
      record {
        is = λ d. go d (eqb d c) (eqb-true d c) (eqb-false d c);
        others = λ m d h. fit_other m d (eqb-false d c h);
        own = λ m h k. fit_own m (f m (fit_at m s c h) k);
      }
    where
      go : (d : ℕ) (t : Bool) → (t ≡ true → d ≡ c) → (t ≡ false → d ≡ c → ⊥) → client_at r d ≡ cond t y (client_at s d)
      go d true p q = ap (client_at r) (p refl) ∙ at_own ∙ e
      go d false p q = at_other d (q refl)

-- ## The changes

nothing_past : (m : ℕ) → past_last 0 m ≡ false
nothing_past m = past_last_lem 0 m (λ j h. no_bit j)

-- nothing is held of client c, and only whether it is open; and of its line only whether it is overlong
module _ (s : Clients) (c : ℕ) where
  abbrev anew : ℕ → Clients
  anew o =
      record {
        «open» = set s.open c o;
        overlong = set s.overlong c 0;
        active = set s.active c 0;
        length = set s.length c 0;
        lines = s.lines;
      }

  abbrev pub without_line : ℕ → Clients
  without_line v =
      record {
        «open» = s.open;
        overlong = set s.overlong c v;
        active = s.active;
        length = set s.length c 0;
        lines = s.lines;
      }

-- client c, below 8, of the clients s
module _ (s : Clients) (z : Sized s) (c : ℕ) (h : c < 8) where
  is_anew : (o : ℕ) → Change s (anew s c o) c o 0 0 0 []
  is_anew o =
      let sized = changed s.length c 0 (rw z.size h) in
      record {
        is_open = changed s.open c o (rw z.is_open h);
        is_overlong = changed s.overlong c 0 (rw z.is_overlong h);
        mask = changed s.active c 0 (rw z.mask h);
        size = sized;
        own = emptied_line s (anew s c o) c sized;
        others = still s (anew s c o) c 0 refl sized;
      }

  pub opened_becomes : {r : Clients} → r ≡ with_opened s c → Becomes s c fresh Always r
  unfolding any
  opened_becomes e =
      subst (Becomes s c fresh Always) (sym e)
      (becomes (is_anew 1) fresh Always (ap (connected (whole [])) (fun_ext no_bit))
      λ m f k. record { short = refl; no_feed = refl; dropped = refl; within = nothing_past m; forgotten = refl })

  pub closed_becomes : {r : Clients} → r ≡ with_closed s c → Becomes s c closed Always r
  unfolding any
  closed_becomes e =
      subst (Becomes s c closed Always) (sym e)
      (becomes (is_anew 0) closed Always refl
      λ m f k. record { short = refl; no_feed = refl; dropped = refl; within = nothing_past m; forgotten = refl })

  pub without_line_lem : (v : ℕ) → Change s (without_line s c v) c (get_or s.open c 0) v (get_or s.active c 0) 0 []
  without_line_lem v =
      let sized = changed s.length c 0 (rw z.size h) in
      record {
        is_open = unchanged s.open c;
        is_overlong = changed s.overlong c v (rw z.is_overlong h);
        mask = unchanged s.active c;
        size = sized;
        own = emptied_line s (without_line s c v) c sized;
        others = still s (without_line s c v) c 0 refl sized;
      }

  pub ended_becomes : {r : Clients} → r ≡ with_ended s c → Becomes s c (emptied (client_at s c)) Always r
  unfolding any emptied client_at is_set
  ended_becomes e =
      subst (Becomes s c (emptied (client_at s c)) Always) (sym e)
      (becomes (without_line_lem 0) (emptied (client_at s c)) Always (go (yes (get_or s.open c 0)))
      λ m f k. record { short = refl; no_feed = refl; dropped = refl; within = f.within; forgotten = forget (yes (get_or s.open c 0)) (yes (get_or s.length c 0)) (yes (get_or s.overlong c 0)) (yes (get_or s.active c 0)) f.forgotten })
    where
      go : (t : Bool) → cond t (connected (whole []) (bit (get_or s.active c 0))) closed ≡ emptied (cond t (connected (line_at s c) (bit (get_or s.active c 0))) closed)
      go true = refl
      go false = refl

      forget : (o n v a : Bool) → not o && (n || v || a) ≡ false → not o && a ≡ false
      forget true n v a e = refl
      forget false true v a e = absurd (false≢true (sym e))
      forget false false true a e = absurd (false≢true (sym e))
      forget false false false a e = e

  with_mask : (a : ℕ) → Change s (with_active s c a) c (get_or s.open c 0) (get_or s.overlong c 0) a (get_or s.length c 0) (line_bytes s c)
  unfolding line_bytes
  with_mask a =
      record {
        is_open = unchanged s.open c;
        is_overlong = unchanged s.overlong c;
        mask = changed s.active c a (rw z.mask h);
        size = unchanged s.length c;
        own = refl;
        others = λ d n. refl;
      }

  pub active_becomes : (a : ℕ) {r : Clients} → r ≡ with_active s c a → Becomes s c (activated (bit a) (client_at s c)) (Activatable s c a) r
  unfolding activated client_at line_at is_set
  active_becomes a e =
      subst (Becomes s c (activated (bit a) (client_at s c)) (Activatable s c a)) (sym e)
      (becomes (with_mask a) (activated (bit a) (client_at s c)) (Activatable s c a) (go (yes (get_or s.open c 0)))
      λ m f k. record { short = f.short; no_feed = f.no_feed; dropped = f.dropped; within = k.within; forgotten = rw k.is_open })
    where
      go : (t : Bool) → cond t (connected (line_at s c) (bit a)) closed ≡ activated (bit a) (cond t (connected (line_at s c) (bit (get_or s.active c 0))) closed)
      go true = refl
      go false = refl
