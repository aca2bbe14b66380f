-- Laws of values that hold no values. Assumes nothing.
use Rattle.std.specs.Prelude.{Option, Some, None, Result, Ok, Err}
use Prim.Native.Nat.{ℕ}
use mathlib.Core.Logic.{◌⊎◌, inl, inr, ⊎_elim}
use mathlib.Core.Path.{◌≡◌, refl, sym, ap, ◌∙◌}
use mathlib.Core.Bool.{Bool, true, false}
use mathlib.Core.List.{List, []}
use lib.ListN.{length, drop}
use lib.Dec.{leb}
use Rattle.ascii.specs.Bytes.{◌>>=◌, all, head}
use Rattle.ascii.specs.Numbers.{unsigned}
use Rattle.ascii.specs.Clauses.Reader.{ByteAt}
use Rattle.ascii.specs.Clauses.Read.{ReadsValue}
use Rattle.json_text.specs.Json.{Json, bare}
use Rattle.json_text.specs.Characters.{characters}
use Rattle.base64_text.specs.Base64.{blob_size}
use Rattle.datainfo.specs.Datainfo.{Datainfo, bool, string, blob}
use Rattle.datainfo.specs.Layout.{string_at, blob_at}
use Rattle.datainfo.specs.Rules.{is_between}
use Rattle.fit.specs.Fit.{in_range, expect, as_string, string_fit, blob_fit, fit}
use Rattle.fit.specs.Clauses.Verdict.{meaning, Judges, Limits}
use Rattle.fit.specs.Clauses.Walk.{Quoted}
use Rattle.fit.proofs.Judged.{judges_of, same_read, same_left}
use Rattle.fit.proofs.Shapes.{just, nothing, steps, shape, tells_yes, tells_no, as_boolean_lem, as_string_lem}
use Rattle.fit.specs.declared.Misfit.{Misfit}
use Rattle.fit.specs.declared.Misfit.TheVariants.{RangeError, WrongType}

-- ## bool

module _ (v : List ℕ) (p b : ℕ) (x : ByteAt v p b) (depth : ℕ) where
  bool_fits : {j : Json} {y : List ℕ} → (head (drop p v) ≡ 116) ⊎ (head (drop p v) ≡ 102) → bare depth (drop p v) ≡ Some (j, y) → meaning (Ok tt) ≡ fit bool j
  unfolding fit expect
  bool_fits h k = tells_yes (as_boolean_lem (shape depth (drop p v) k)) h (λ a e q. rw e)

  bool_wrong : {j : Json} {y : List ℕ} → ((head (drop p v) ≡ 116) ⊎ (head (drop p v) ≡ 102) → ⊥) → bare depth (drop p v) ≡ Some (j, y) → meaning (Err WrongType) ≡ fit bool j
  unfolding fit expect
  bool_wrong h k = rw (tells_no (as_boolean_lem (shape depth (drop p v) k)) h)

  pub bool_true : b ≡ 116 → Judges (Some (bool, [])) (bare depth (drop p v)) (Ok tt)
  bool_true h = record { is = λ e k. rw (same_read e refl) (bool_fits (inl (sym x.is ∙ h)) k) }

  pub bool_false : b ≡ 102 → Judges (Some (bool, [])) (bare depth (drop p v)) (Ok tt)
  bool_false h = record { is = λ e k. rw (same_read e refl) (bool_fits (inr (sym x.is ∙ h)) k) }

  pub bool_other : (b ≡ 116 → ⊥) → (b ≡ 102 → ⊥) → Judges (Some (bool, [])) (bare depth (drop p v)) (Err WrongType)
  bool_other h g = record { is = λ e k. rw (same_read e refl) (bool_wrong (⊎_elim (λ z. h (x.is ∙ z)) (λ z. g (x.is ∙ z))) k) }

-- ## Limits of a count, of two bytes each

module _ (s : List ℕ) (at n : ℕ) (r : Result Unit Misfit) (u : Option (ℕ × ℕ)) (k : ReadsValue s u (unsigned 2 (drop at s))) where
  pub limits_1 : u ≡ None → Limits (drop at s) n r
  limits_1 e = record { is = λ f g. absurd (nothing (sym (rw e at k) ∙ f)) }

  module _ (lo a : ℕ) (e : u ≡ Some (lo, a)) (w : Option (ℕ × ℕ)) (l : ReadsValue s w (unsigned 2 (drop a s))) where
    -- past the first
    past : {m : ℕ} {y : List ℕ} → unsigned 2 (drop at s) ≡ Some (m, y) → y ≡ drop a s
    past f = same_left f (rw e at k).0

    pub limits_2 : w ≡ None → Limits (drop at s) n r
    limits_2 h = record { is = λ f g. absurd (nothing (sym (rw h at l) ∙ (rw (past f) at g))) }

    pub limits_good : (hi b : ℕ) → w ≡ Some (hi, b) → meaning r ≡ in_range (is_between lo hi n) → Limits (drop at s) n r
    limits_good hi b h i = record { is = λ f g. rw (same_read f (rw e at k).0, same_read (rw (past f) at g) (rw h at l).0) i }

-- two limits that are made into a datainfo
module _ {S : Type 0} (make : ℕ → ℕ → Datainfo) (xs : List ℕ) {d : Datainfo} {x : List ℕ} where
  limits_some : (unsigned 2 xs >>= λ p. ◌>>=◌ {B = Datainfo × List ℕ} (unsigned 2 p.1) (λ q. Some (make p.0 q.0, q.1))) ≡ Some (d, x)
      → ((lo hi : ℕ) (y : List ℕ) → unsigned 2 xs ≡ Some (lo, y) → unsigned 2 y ≡ Some (hi, x) → d ≡ make lo hi → S) → S
  limits_some e f = steps (unsigned 2 xs) _ e λ p h k. steps (unsigned 2 p.1) _ k λ q g l.
      f p.0 q.0 p.1 h (g ∙ ap (λ y. Some (q.0, y)) (ap (λ p. p.1) (just l))) (sym (ap (λ p. p.0) (just l)))

module _ {S : Type 0} (xs : List ℕ) {d : Datainfo} {x : List ℕ} where
  string_some : string_at xs ≡ Some (d, x) → ((lo hi : ℕ) (y : List ℕ) → unsigned 2 xs ≡ Some (lo, y) → unsigned 2 y ≡ Some (hi, x) → d ≡ string lo hi → S) → S
  unfolding string_at
  string_some e f = limits_some string xs e f

  blob_some : blob_at xs ≡ Some (d, x) → ((lo hi : ℕ) (y : List ℕ) → unsigned 2 xs ≡ Some (lo, y) → unsigned 2 y ≡ Some (hi, x) → d ≡ blob lo hi → S) → S
  unfolding blob_at
  blob_some e f = limits_some blob xs e f

-- ## string

module _ (xs t : List ℕ) (f : Bool) (g : f ≡ all (λ c. leb c 127) (characters t)) where
  pub string_high : f ≡ false → Judges (string_at xs) (Some (Json.string t, [])) (Err RangeError)
  unfolding fit expect as_string string_fit in_range
  string_high h = judges_of refl λ d x e. string_some xs e λ lo hi y a b z. rw (z, ← g, h)

  pub string_low : f ≡ true → (n : ℕ) (r : Result Unit Misfit) → n ≡ length (characters t) → Limits xs n r → Judges (string_at xs) (Some (Json.string t, [])) r
  unfolding fit expect as_string string_fit
  string_low h n r m i = judges_of refl λ d x e. string_some xs e λ lo hi y a b z. rw (z, ← g, h, ← m) (i.is a b)

-- ## blob

-- z is what the code sizes the bytes t at
module _ (xs t : List ℕ) (z : Option ℕ) (g : z ≡ blob_size t) where
  pub blob_bad : z ≡ None → Judges (blob_at xs) (Some (Json.string t, [])) (Err WrongType)
  unfolding fit expect as_string blob_fit
  blob_bad h = judges_of refl λ d x e. blob_some xs e λ lo hi y a b w. rw (w, ← g, h)

  pub blob_sized : (n : ℕ) → z ≡ Some n → (r : Result Unit Misfit) → Limits xs n r → Judges (blob_at xs) (Some (Json.string t, [])) r
  unfolding fit expect as_string blob_fit
  blob_sized n h r i = judges_of refl λ d x e. blob_some xs e λ lo hi y a b w. rw (w, ← g, h) (i.is a b)

-- ## Strings, each judged by the bytes t between its quotes

-- of the datainfo that o reads, if any, the values are strings
pub record Strings (o : Option (Datainfo × List ℕ)) : Type 0 where
  pub are : {d : Datainfo} {x : List ℕ} → o ≡ Some (d, x) → (j : Json) → fit d j ≡ expect (as_string j) (λ t. fit d (Json.string t))

pub string_strings : (xs : List ℕ) → Strings (string_at xs)
unfolding fit expect as_string
string_strings xs = record { are = λ e j. string_some xs e λ lo hi y a b z. rw z refl }

pub blob_strings : (xs : List ℕ) → Strings (blob_at xs)
unfolding fit expect as_string
blob_strings xs = record { are = λ e j. blob_some xs e λ lo hi y a b z. rw z refl }

module _ (o : Option (Datainfo × List ℕ)) (w : Strings o) (v : List ℕ) (p b : ℕ) (x : ByteAt v p b) (depth : ℕ) where
  other : (b ≡ 34 → ⊥) → Judges o (bare depth (drop p v)) (Err WrongType)
  unfolding expect
  other h = record { is = λ e k. sym (w.are e _ ∙ rw (tells_no (as_string_lem (shape depth (drop p v) k)) (λ g. h (x.is ∙ g)))) }

  within : b ≡ 34 → (t : List ℕ) (r : Result Unit Misfit) → Quoted (drop p v) t → Judges o (Some (Json.string t, [])) r → Judges o (bare depth (drop p v)) r
  unfolding expect
  within h t r q g = record {
    is = λ e k. tells_yes (as_string_lem (shape depth (drop p v) k)) (sym x.is ∙ h) λ a i u.
        sym (w.are e _ ∙ rw (i, u.1, ← (q.is (sym x.is ∙ h) u.0)) (sym (g.is e refl)));
  }

-- the string at p
module _ (s : List ℕ) (at : ℕ) (v : List ℕ) (p b : ℕ) (x : ByteAt v p b) (depth : ℕ) where
  pub string_other : (b ≡ 34 → ⊥) → Judges (string_at (drop at s)) (bare depth (drop p v)) (Err WrongType)
  string_other h = other (string_at (drop at s)) (string_strings (drop at s)) v p b x depth h

  pub string_quoted : b ≡ 34 → (t : List ℕ) (r : Result Unit Misfit) → Quoted (drop p v) t → Judges (string_at (drop at s)) (Some (Json.string t, [])) r → Judges (string_at (drop at s)) (bare depth (drop p v)) r
  string_quoted h t r q g = within (string_at (drop at s)) (string_strings (drop at s)) v p b x depth h t r q g

  pub blob_other : (b ≡ 34 → ⊥) → Judges (blob_at (drop at s)) (bare depth (drop p v)) (Err WrongType)
  blob_other h = other (blob_at (drop at s)) (blob_strings (drop at s)) v p b x depth h

  pub blob_quoted : b ≡ 34 → (t : List ℕ) (r : Result Unit Misfit) → Quoted (drop p v) t → Judges (blob_at (drop at s)) (Some (Json.string t, [])) r → Judges (blob_at (drop at s)) (bare depth (drop p v)) r
  blob_quoted h t r q g = within (blob_at (drop at s)) (blob_strings (drop at s)) v p b x depth h t r q g
