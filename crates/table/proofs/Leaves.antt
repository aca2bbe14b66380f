-- What a reader leaves is an end of what it was given: whatever holds of a list and of each of its ends holds of what is left.
-- Assumes nothing.
use Rattle.std.specs.Prelude.{Option, Some, None}
use Prim.Native.Nat.{ℕ, zero, suc}
use mathlib.Core.Bool.{Bool, true, false, cond}
use mathlib.Core.List.{List, [], ◌∷◌}
use lib.ListN.{length, drop}
use lib.Dec.{leb, eqb}
use Rattle.ascii.specs.Text.{bytes}
use Rattle.ascii.specs.Bytes.{◌>>=◌, after, part}
use Rattle.ascii.specs.Numbers.{unsigned, signed}
use Rattle.datainfo.specs.Datainfo.{Datainfo}
use Rattle.datainfo.specs.Layout.{counted, limit, double_at, int_at, variants, enum_at, string_at, array_at, flag, flagged, entry, elements, tuple_at, fields, struct_at, partial_at, scaled_at, blob_at, typed, datainfo_in}
use Rattle.table.specs.Layout.{begins, argument_at, marked_at, head_at}

-- Q holds of what is left, if anything was read
pub data Within {A : Type 0} (Q : List ℕ → Type 0) : Option (A × List ℕ) → Type 0 where
  failed : Within Q None
  left : {p : A × List ℕ} → Q p.1 → Within Q (Some p)

pub data Rest (Q : List ℕ → Type 0) : Option (List ℕ) → Type 0 where
  failed : Rest Q None
  left : {r : List ℕ} → Q r → Rest Q (Some r)

-- Q holds of each end of a list of which it holds
abbrev pub Ending : (List ℕ → Type 0) → Type 0
Ending Q = (k : ℕ) (xs : List ℕ) → Q xs → Q (drop k xs)

module _ {Q : List ℕ → Type 0} where
  pub w_cond : {A : Type 0} (b : Bool) {x y : Option (A × List ℕ)} → Within Q x → Within Q y → Within Q (cond b x y)
  w_cond true p q = p
  w_cond false p q = q

  pub w_then : {A B : Type 0} {o : Option (A × List ℕ)} {f : A × List ℕ → Option (B × List ℕ)} → Within Q o → ((p : A × List ℕ) → Q p.1 → Within Q (f p)) → Within Q (o >>= f)
  w_then failed h = failed
  w_then (left {p = p} g) h = h p g

  pub r_then : {B : Type 0} {o : Option (List ℕ)} {f : List ℕ → Option (B × List ℕ)} → Rest Q o → ((r : List ℕ) → Q r → Within Q (f r)) → Within Q (o >>= f)
  r_then failed h = failed
  r_then (left {r = r} g) h = h r g

  pub r_cond : (b : Bool) {x y : Option (List ℕ)} → Rest Q x → Rest Q y → Rest Q (cond b x y)
  r_cond true p q = p
  r_cond false p q = q

module _ {Q : List ℕ → Type 0} (end : Ending Q) where
  pub r_after : (m : List ℕ) {xs : List ℕ} → Q xs → Rest Q (after m xs)
  unfolding after
  r_after [] h = left h
  r_after (w ∷ ws) {xs = []} h = failed
  r_after (w ∷ ws) {xs = x ∷ xs} h = r_cond (eqb x w) (r_after ws (end (suc zero) (x ∷ xs) h)) failed

  pub w_part : (k : ℕ) {xs : List ℕ} → Q xs → Within Q (part k xs)
  unfolding part
  w_part k {xs} h = w_cond (leb k (length xs)) (left (end k xs h)) failed

  pub w_unsigned : (k : ℕ) {xs : List ℕ} → Q xs → Within Q (unsigned k xs)
  unfolding unsigned
  w_unsigned k h = w_then (w_part k h) (λ p g. left g)

  pub w_signed : (k : ℕ) {xs : List ℕ} → Q xs → Within Q (signed k xs)
  unfolding signed
  w_signed k h = w_then (w_part k h) (λ p g. left g)

  pub w_counted : {xs : List ℕ} → Q xs → Within Q (counted xs)
  unfolding counted
  w_counted h = w_then (w_unsigned 1 h) (λ p g. w_part p.0 g)

  pub w_limit : {xs : List ℕ} → Q xs → Within Q (limit xs)
  unfolding limit
  w_limit h = w_then (w_signed 8 h) (λ p g. w_then (w_signed 1 g) (λ q k. left k))

  pub w_double : {xs : List ℕ} → Q xs → Within Q (double_at xs)
  unfolding double_at
  w_double h = w_then (w_limit h) (λ p g. w_then (w_limit g) (λ q k. left k))

  pub w_int : {xs : List ℕ} → Q xs → Within Q (int_at xs)
  unfolding int_at
  w_int h = w_then (w_signed 8 h) (λ p g. w_then (w_signed 8 g) (λ q k. left k))

  pub w_string : {xs : List ℕ} → Q xs → Within Q (string_at xs)
  unfolding string_at
  w_string h = w_then (w_unsigned 2 h) (λ p g. w_then (w_unsigned 2 g) (λ q k. left k))

  pub w_scaled : {xs : List ℕ} → Q xs → Within Q (scaled_at xs)
  unfolding scaled_at
  w_scaled h = w_then (w_limit h) (λ o i. w_then (w_signed 8 i) (λ p g. w_then (w_signed 8 g) (λ q k. left k)))

  pub w_blob : {xs : List ℕ} → Q xs → Within Q (blob_at xs)
  unfolding blob_at
  w_blob h = w_then (w_unsigned 2 h) (λ p g. w_then (w_unsigned 2 g) (λ q k. left k))

  pub w_variants : (m : ℕ) {xs : List ℕ} → Q xs → Within Q (variants m xs)
  unfolding variants
  w_variants zero h = left h
  w_variants (suc m) h = w_then (w_counted h) (λ p g. w_then (w_signed 4 g) (λ q k. w_then (w_variants m k) (λ r l. left l)))

  pub w_enum : {xs : List ℕ} → Q xs → Within Q (enum_at xs)
  unfolding enum_at
  w_enum h = w_then (w_unsigned 1 h) (λ p g. w_then (w_variants p.0 g) (λ q k. left k))

  pub w_flag : {xs : List ℕ} → Q xs → Within Q (flag xs)
  unfolding flag
  w_flag h = w_then (w_unsigned 1 h) (λ p g. w_cond (leb p.0 1) (left g) failed)

  pub w_entry : (k : ℕ) {xs : List ℕ} → Q xs → Within Q (entry k xs)
  unfolding entry flagged
  w_entry k h = w_then (w_cond (eqb k 11) (w_flag h) (left h)) (λ p g. w_then (w_counted g) (λ q i. left i))

  module _ (f : List ℕ → Option (Datainfo × List ℕ)) (w : (xs : List ℕ) → Q xs → Within Q (f xs)) where
    pub w_array : {xs : List ℕ} → Q xs → Within Q (array_at f xs)
    unfolding array_at
    w_array h = w_then (w_unsigned 2 h) (λ p g. w_then (w_unsigned 2 g) (λ q k. w_then (w q.1 k) (λ r l. left l)))

    pub w_elements : (m : ℕ) {xs : List ℕ} → Q xs → Within Q (elements f m xs)
    unfolding elements
    w_elements zero h = left h
    w_elements (suc m) {xs} h = w_then (w xs h) (λ p g. w_then (w_elements m g) (λ q k. left k))

    pub w_fields : (k m : ℕ) {xs : List ℕ} → Q xs → Within Q (fields f k m xs)
    unfolding fields
    w_fields k zero h = left h
    w_fields k (suc m) h = w_then (w_entry k h) (λ p g. w_then (w p.1 g) (λ q i. w_then (w_fields k m i) (λ r l. left l)))

    pub w_typed : (k : ℕ) {xs : List ℕ} → Q xs → Within Q (typed f k xs)
    unfolding typed tuple_at struct_at partial_at
    w_typed k h =
        w_cond (eqb k 1) (w_double h)
        (w_cond (eqb k 2) (w_int h)
        (w_cond (eqb k 3) (left h)
        (w_cond (eqb k 4) (w_enum h)
        (w_cond (eqb k 5) (w_string h)
        (w_cond (eqb k 6) (w_array h)
        (w_cond (eqb k 7) (w_then (w_unsigned 1 h) (λ p g. w_then (w_elements p.0 g) (λ q l. left l)))
        (w_cond (eqb k 8) (w_then (w_unsigned 1 h) (λ p g. w_then (w_fields 8 p.0 g) (λ q l. left l)))
        (w_cond (eqb k 9) (w_scaled h)
        (w_cond (eqb k 10) (w_blob h)
        (w_cond (eqb k 11) (w_then (w_unsigned 1 h) (λ p g. w_then (w_fields 11 p.0 g) (λ q l. left l)))
        failed))))))))))

  pub w_datainfo : (l : ℕ) (xs : List ℕ) → Q xs → Within Q (datainfo_in l xs)
  unfolding datainfo_in
  w_datainfo zero xs h = failed
  w_datainfo (suc l) xs h = w_then (w_unsigned 1 h) (λ p g. w_typed (datainfo_in l) (w_datainfo l) p.0 g)

  pub w_argument : (b : Bool) {xs : List ℕ} → Q xs → Within Q (argument_at b xs)
  unfolding argument_at
  w_argument false h = left h
  w_argument true {xs} h = w_then (w_datainfo 4 xs h) (λ p g. left g)

  pub w_marked : (m : List ℕ) {xs : List ℕ} → Q xs → Within Q (marked_at m xs)
  unfolding marked_at
  w_marked m {xs} h = w_cond (begins m xs) (r_then (r_after m h) (λ a g. w_then (w_counted g) (λ p k. left k))) (left h)

  pub w_head : {xs : List ℕ} → Q xs → Within Q (head_at xs)
  unfolding head_at
  w_head h =
      r_then (r_after (bytes "ND") h) (λ a g. w_then (w_counted g) (λ p i. w_then (w_counted i) (λ q k.
      w_then (w_marked (bytes "ED") k) (λ e l. left l))))
