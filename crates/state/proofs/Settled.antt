-- Laws of stored values: what is shown, and that a value that is stored, or an error, is shown from then on and no other is changed. Assumes
-- nothing.
use Rattle.std.specs.Prelude.{Option, Some, None, slice_get}
use Prim.Native.Nat.{ℕ, zero, suc, ◌+◌, ◌*◌, ◌-◌, ◌≤◌, ◌<◌}
use native.Mathlib.Nat.{add-zero, add-suc, suc-add, zero-add}
use native.Mathlib.Omega.{arith}
use mathlib.Core.Path.{◌≡◌, refl, sym, ap, subst, ◌∙◌}
use mathlib.Core.Bool.{Bool, true, false, cond, not, ◌&&◌, ◌||◌}
use mathlib.Core.List.{List, [], ◌∷◌}
use lib.Dec.{eqb, ltb}
use lib.ListN.{length, get_or, set, take, drop}
use borrow.Author.Tests.{eqb-true, eqb-false, ne_eqb, ltb-false, le-ltb}
use denote.Shadow.{shadow}
use mir.Val.{Val}
use Rattle.ascii.specs.Numbers.{latest}
use Rattle.fit.specs.Fit.{is_stored}
use Rattle.table.specs.Table.{Parameter}
use Rattle.table.specs.Search.{Placed}
use Rattle.table.specs.declared.layout.Part.{Part}
use Rattle.table.specs.Clauses.At.{bytes_of}
use Rattle.table.proofs.Accessibles.{in_some}
use Rattle.message.specs.Error.{Fault, HardwareError, CommunicationFailed, ReadFailed, OutOfRange, fault_number, fault_of}
use Rattle.message.specs.Reply.{failed}
use Rattle.plain.specs.Node.{Value, put, holding, showing}
use Rattle.state.specs.declared.Settings.{Settings}
use Rattle.state.specs.View.{stored_text, shown, shown_bytes, value_at, with_stored, with_length, with_error}
use Rattle.state.specs.Fit.{setting_unfit, settings_unfit}
use Rattle.state.specs.contracts.Settings.{the_type, the_field}
use Rattle.ascii.proofs.Lists.{neither}
use Rattle.state.proofs.Flags.{nor}
use Rattle.state.proofs.Areas.{other_value, written}
use Rattle.state.proofs.Cells.{Changed, changed}

-- ## What is shown

module _ (table : List ℕ) (s : Settings) (values : List ℕ) (p : Part) (k : ℕ) where
  pub shows_initial : get_or s.length k 0 ≡ 0 → take (p.to - p.from) (drop p.from table) ≡ shown_bytes table s values k p
  unfolding shown_bytes bytes_of
  shows_initial h = rw h

  pub shows_stored : (get_or s.length k 0 ≡ 0 → ⊥)
      → take ((256 * k + get_or s.length k 0) - 256 * k) (drop (256 * k) values) ≡ shown_bytes table s values k p
  unfolding shown_bytes stored_text
  shows_stored h =
      let e : (256 * k + get_or s.length k 0) - 256 * k ≡ get_or s.length k 0 = omega arith in
      rw (e, ne_eqb (get_or s.length k 0) 0 h)

-- ## Fit settings, one by one

module _ (s : Settings) (values : List ℕ) where
  -- the setting of one parameter is fit
  abbrev pub FitAt : ℕ → Placed Parameter → Type 0
  FitAt p x = setting_unfit s values p x.it ≡ false

  from_fit : (ps : List (Placed Parameter)) (q : ℕ) → settings_unfit s values q ps ≡ false → (p : ℕ) (x : Placed Parameter) → slice_get ps p ≡ Some x → FitAt (q + p) x
  unfolding settings_unfit
  from_fit [] q h p x e = let z : ◌≡◌ {A = ℕ} 0 1 = cc in absurd (omega arith)
  from_fit (y ∷ ys) q h zero x e = rw add-zero (subst (FitAt q) (in_some e) (neither (setting_unfit s values q y.it) _ h).0)
  from_fit (y ∷ ys) q h (suc p) x e =
      subst (λ (k : ℕ). FitAt k x) (suc-add q p ∙ sym (add-suc q p)) (from_fit ys (suc q) (neither (setting_unfit s values q y.it) _ h).1 p x e)

  to_fit : (ps : List (Placed Parameter)) (q : ℕ) → ((p : ℕ) (x : Placed Parameter) → slice_get ps p ≡ Some x → FitAt (q + p) x) → settings_unfit s values q ps ≡ false
  unfolding settings_unfit
  to_fit [] q h = refl
  to_fit (y ∷ ys) q h =
      nor (subst (λ (k : ℕ). FitAt k y) (add-zero q) (h zero y refl))
      (to_fit ys (suc q) (λ p x e. subst (λ (k : ℕ). FitAt k x) (add-suc q p ∙ sym (suc-add q p)) (h (suc p) x e)))

  module _ (ps : List (Placed Parameter)) where
    pub each_fit : settings_unfit s values 0 ps ≡ false → (p : ℕ) (x : Placed Parameter) → slice_get ps p ≡ Some x → FitAt p x
    each_fit h p x e = subst (λ (k : ℕ). FitAt k x) (zero-add p) (from_fit ps 0 h p x e)

    pub all_fit : ((p : ℕ) (x : Placed Parameter) → slice_get ps p ≡ Some x → FitAt p x) → settings_unfit s values 0 ps ≡ false
    all_fit h = to_fit ps 0 (λ p x e. subst (λ (k : ℕ). FitAt k x) (sym (zero-add p)) (h p x e))

-- the parts of a fit setting
pub record Fit (n : ℕ) (text : List ℕ) (time error : ℕ) (x : Placed Parameter) : Type 0 where
  pub short : n ≤ 256
  pub form : not (eqb n 0) && not (is_stored x.it.datainfo text) ≡ false
  pub in_time : time ≤ latest
  pub class : error ≤ 4

pub fit_parts :
    (s : Settings) (values : List ℕ) (p : ℕ) (x : Placed Parameter) → FitAt s values p x
    → Fit (get_or s.length p 0) (stored_text s values p) (get_or s.time p 0) (get_or s.error p 0) x
unfolding setting_unfit
fit_parts s values p x h =
    let n = get_or s.length p 0 in
    let form = not (eqb n 0) && not (is_stored x.it.datainfo (stored_text s values p)) in
    let e = neither (ltb 256 n || form || ltb latest (get_or s.time p 0)) _ h in
    let a = neither (ltb 256 n || form) _ e.0 in
    let b = neither (ltb 256 n) _ a.0 in
    record {
      short = ltb-false 256 n b.0;
      form = b.1;
      in_time = ltb-false latest (get_or s.time p 0) a.1;
      class = ltb-false 4 (get_or s.error p 0) e.1;
    }

-- ## One setting alters, and no other

-- how many elements the arrays have
pub record Sized (s : Settings) : Type 0 where
  pub size : length s.length ≡ 64
  pub error : length s.error ≡ 64
  pub time : length s.time ≡ 64

-- as the fields of a struct are handed to a proof
pub settings_sized : (s : Settings) {v : List Val} → shadow (the_field.row.own_val (the_type.to s) v) → Sized s
settings_sized s g =
    let fs = g.1.1 in
    record {
      size = fs.0.1.0.1;
      error = fs.1.0.1.0.1;
      time = fs.1.1.0.1.0.1;
    }

-- with parameter k, which is x, holding v, and nothing else altered for the plain node
module _ (table : List ℕ) (s r : Settings) (values stored : List ℕ) (ps : List (Placed Parameter)) (k : ℕ) (x : Placed Parameter) (at : slice_get ps k ≡ Some x) where
  pub one_view : (v : Value) → value_at table r stored k (Some x) ≡ v
      → ((p : ℕ) (y : Placed Parameter) → slice_get ps p ≡ Some y → (p ≡ k → ⊥) → value_at table r stored p (Some y) ≡ value_at table s values p (Some y))
      → (p : ℕ) → value_at table r stored p (slice_get ps p) ≡ put (λ q. value_at table s values q (slice_get ps q)) k v p
  unfolding put value_at
  one_view v own others p = go (eqb p k) (eqb-true p k) (eqb-false p k)
    where
      other : (p ≡ k → ⊥) → (o : Option (Placed Parameter)) → slice_get ps p ≡ o → value_at table r stored p o ≡ value_at table s values p o
      other n None e = refl
      other n (Some y) e = others p y e n

      go : (t : Bool) → (t ≡ true → p ≡ k) → (t ≡ false → p ≡ k → ⊥)
          → value_at table r stored p (slice_get ps p) ≡ cond t v (value_at table s values p (slice_get ps p))
      go true a b = rw (a refl, at) own
      go false a b = other (b refl) (slice_get ps p) refl

  pub one_fit : FitAt r stored k x
      → ((p : ℕ) (y : Placed Parameter) → slice_get ps p ≡ Some y → (p ≡ k → ⊥) → FitAt r stored p y) → settings_unfit r stored 0 ps ≡ false
  one_fit own others = all_fit r stored ps (λ p y e. go p y e (eqb p k) (eqb-true p k) (eqb-false p k))
    where
      go : (p : ℕ) (y : Placed Parameter) → slice_get ps p ≡ Some y → (t : Bool) → (t ≡ true → p ≡ k) → (t ≡ false → p ≡ k → ⊥) → FitAt r stored p y
      go p y e true a b =
          let same : x ≡ y = in_some (sym at ∙ ap (slice_get ps) (sym (a refl)) ∙ e) in
          subst (λ (q : ℕ). FitAt r stored q y) (sym (a refl)) (subst (FitAt r stored k) same own)
      go p y e false a b = others p y e (b refl)

-- ## A value is stored

module _ (s : Settings) (z : Sized s) (values : List ℕ) (room : 16384 ≤ length values) (k : ℕ) (h : k < 64) (text : List ℕ) (some_bytes : 0 < length text) (short : length text ≤ 256) (time : ℕ) where
  lengths : Changed s.length (set s.length k (length text)) k (length text)
  lengths = changed s.length k (length text) (rw z.size h)

  errors : Changed s.error (set s.error k 0) k 0
  errors = changed s.error k 0 (rw z.error h)

  times : Changed s.time (set s.time k time) k time
  times = changed s.time k time (rw z.time h)

  own_text_lem : stored_text (with_length s k (length text) time) (with_stored values k text) k ≡ text
  unfolding stored_text with_stored
  own_text_lem =
      let e = written text values (256 * k) 0 (omega arith) in
      rw lengths.own (rw (add-zero, zero-add) at e)

  other_text : (p : ℕ) → (p ≡ k → ⊥) → get_or s.length p 0 ≤ 256 → stored_text (with_length s k (length text) time) (with_stored values k text) p ≡ stored_text s values p
  unfolding stored_text with_stored
  other_text p n l =
      let e = other_value text values k 0 p (get_or s.length p 0) n (omega arith) l in
      rw (lengths.others p n) (rw add-zero at e)

  -- the value that is shown, and the others
  own_value_lem : (table : List ℕ) (x : Placed Parameter) → value_at table (with_length s k (length text) time) (with_stored values k text) k (Some x) ≡ showing text time
  unfolding value_at shown fault_of
  own_value_lem table x = rw (errors.own, lengths.own, ne_eqb (length text) 0 (λ e. omega arith), own_text_lem, times.own)

  other_value_at : (table : List ℕ) (p : ℕ) (x : Placed Parameter) → (p ≡ k → ⊥) → get_or s.length p 0 ≤ 256 → value_at table (with_length s k (length text) time) (with_stored values k text) p (Some x) ≡ value_at table s values p (Some x)
  unfolding value_at shown
  other_value_at table p x n l = rw (errors.others p n, lengths.others p n, other_text p n l, times.others p n)

  module _ (ps : List (Placed Parameter)) (fit : settings_unfit s values 0 ps ≡ false) (x : Placed Parameter) (at : slice_get ps k ≡ Some x) where
    short_at : (p : ℕ) (y : Placed Parameter) → slice_get ps p ≡ Some y → get_or s.length p 0 ≤ 256
    short_at p y e = (fit_parts s values p y (each_fit s values ps fit p y e)).short

    -- the values of the plain node that the state stands for
    pub stored_view : (table : List ℕ) (p : ℕ)
        → value_at table (with_length s k (length text) time) (with_stored values k text) p (slice_get ps p)
        ≡ put (λ q. value_at table s values q (slice_get ps q)) k (showing text time) p
    stored_view table =
        one_view table s (with_length s k (length text) time) values (with_stored values k text) ps k x at (showing text time) (own_value_lem table x)
        (λ p y e n. other_value_at table p y n (short_at p y e))

    pub stored_fit : is_stored x.it.datainfo text ≡ true → time ≤ latest → settings_unfit (with_length s k (length text) time) (with_stored values k text) 0 ps ≡ false
    unfolding setting_unfit
    stored_fit st tm =
        one_fit [] s (with_length s k (length text) time) values (with_stored values k text) ps k x at
        (rw (lengths.own, own_text_lem, times.own, errors.own, st, le-ltb 256 (length text) short, le-ltb latest time tm, ne_eqb (length text) 0 (λ e. omega arith)))
        (λ p y e n. rw (lengths.others p n, other_text p n (short_at p y e), times.others p n, errors.others p n) (each_fit s values ps fit p y e))

-- ## A parameter is reported unreadable

-- the number of a class is its number
pub numbered : (f : Fault) → fault_of (fault_number f) ≡ Some f
unfolding fault_of fault_number
numbered HardwareError = refl
numbered CommunicationFailed = refl
numbered ReadFailed = refl
numbered OutOfRange = refl

number_low : (f : Fault) → fault_number f ≤ 4
unfolding fault_number
number_low HardwareError = omega arith
number_low CommunicationFailed = omega arith
number_low ReadFailed = omega arith
number_low OutOfRange = omega arith

module _ (s : Settings) (z : Sized s) (values : List ℕ) (k : ℕ) (h : k < 64) (f : Fault) (time : ℕ) where
  classes : Changed s.error (set s.error k (fault_number f)) k (fault_number f)
  classes = changed s.error k (fault_number f) (rw z.error h)

  since : Changed s.time (set s.time k time) k time
  since = changed s.time k time (rw z.time h)

  module _ (ps : List (Placed Parameter)) (fit : settings_unfit s values 0 ps ≡ false) (x : Placed Parameter) (at : slice_get ps k ≡ Some x) where
    pub failed_view : (table : List ℕ) (p : ℕ)
        → value_at table (with_error s k (fault_number f) time) values p (slice_get ps p) ≡ put (λ q. value_at table s values q (slice_get ps q)) k (holding (failed f) time) p
    unfolding value_at shown stored_text
    failed_view table =
        one_view table s (with_error s k (fault_number f) time) values values ps k x at (holding (failed f) time)
        (rw (classes.own, numbered f, since.own))
        (λ p y e n. rw (classes.others p n, since.others p n))

    pub failed_fit : time ≤ latest → settings_unfit (with_error s k (fault_number f) time) values 0 ps ≡ false
    unfolding setting_unfit stored_text
    failed_fit tm =
        let old = fit_parts s values k x (each_fit s values ps fit k x at) in
        one_fit [] s (with_error s k (fault_number f) time) values values ps k x at
        (rw (classes.own, since.own, le-ltb 256 (get_or s.length k 0) old.short, old.form, le-ltb latest time tm, le-ltb 4 (fault_number f) (number_low f)))
        (λ p y e n. rw (classes.others p n, since.others p n) (each_fit s values ps fit p y e))
