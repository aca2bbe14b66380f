-- What the code keeps of a parameter's settings, and how that stands for their figures. A number from -2,147,483,648 on is kept as how far it lies above
-- that, so that all that is kept is no negative number. Assumes nothing.
use Rattle.std.specs.Prelude.{ℕ, ◌+◌, ◌-◌, ◌*◌, ◌≤◌, Bool, true, cond, List, [], ◌∷◌, ◌++◌, map, ◌≡◌, eqb, ltb}
use Rattle.std.specs.Prelude.{leb, ℤ, pos, negsuc, length, get_or, set, drop, Some}
use Rattle.std.proofs.Math.IntN.{sub_ℕ}
use Rattle.ascii.specs.Text.{bytes}
use Rattle.ascii.specs.Numbers.{decimal, integer, signed}
use Rattle.decimal.specs.Decimal.{Decimal, numeral_from, numeral}
use Rattle.datainfo.specs.Datainfo.{Datainfo}
use Rattle.datainfo.specs.Layout.{limit, datainfo_at}
use Rattle.fit.specs.Fit.{is_stored}
use Rattle.figures.specs.Figures.{is_narrow, is_summed, least, greatest, total, full, first_settings}
use Rattle.figures.specs.declared.Tally.{Tally}
use Rattle.figures.specs.declared.Figures.{Figures}

-- ## Numbers

-- how far the least number lies below zero
abbrev pub below_zero : ℕ
below_zero = 2147483648

-- how far a number lies above the least
unfoldable pub above : ℤ → ℕ
above (pos n) = below_zero + n
above (negsuc n) = below_zero - 1 - n

-- what is kept of a setting: of a parameter with a count only, 0
unfoldable pub mark_of : Datainfo → List ℕ → ℕ
mark_of d v = cond (is_summed d) (above (numeral v)) 0

-- the number of a token lies from -2,147,483,648 to 2,147,483,648
abbrev pub Small : List ℕ → Type 0
Small t = numeral_from 0 t ≤ below_zero

-- ## One parameter

abbrev pub no_settings : Tally
no_settings = record { count = 0; least = 0; greatest = 0; sum = 0 }

unfoldable pub lower : ℕ → ℕ → ℕ
lower a b = cond (leb a b) a b

unfoldable pub higher : ℕ → ℕ → ℕ
higher a b = cond (leb b a) a b

-- after one setting more, which is none where the count is full
unfoldable pub noted : Tally → ℕ → Tally
noted t x =
    cond (ltb t.count full)
    (cond (eqb t.count 0) (record { count = 1; least = x; greatest = x; sum = x })
    (record { count = t.count + 1; least = lower t.least x; greatest = higher t.greatest x; sum = t.sum + x }))
    t

-- what is kept stands for these numbers
abbrev pub Sums : List ℤ → Tally → Type 0
Sums [] t = Unit {0}
Sums (x ∷ xs) t =
    (sub_ℕ t.least below_zero ≡ least x xs) × (sub_ℕ t.greatest below_zero ≡ greatest x xs) × (sub_ℕ t.sum (t.count * below_zero) ≡ total x xs)

-- and for these settings of a parameter
pub record Tallies (d : Datainfo) (vs : List (List ℕ)) (t : Tally) : Type 0 where
  pub count : t.count ≡ length (first_settings vs)
  pub numbers : is_summed d ≡ true → Sums (map numeral (first_settings vs)) t

-- ## Its line, by what is kept

unfoldable pub tally_numbers : Tally → List ℕ
tally_numbers t =
    cond (eqb t.count 0) (bytes " none")
    ((bytes " least " ++ integer (sub_ℕ t.least below_zero)) ++ (bytes " greatest " ++ integer (sub_ℕ t.greatest below_zero))
    ++ (bytes " sum " ++ integer (sub_ℕ t.sum (t.count * below_zero))))

unfoldable pub full_text : ℕ → List ℕ
full_text n = cond (ltb n full) [] (bytes " full")

unfoldable pub count_text : List ℕ → List ℕ → ℕ → List ℕ
count_text m p n = m ++ bytes ":" ++ p ++ (bytes " count " ++ decimal n)

unfoldable pub tally_line : List ℕ → List ℕ → Bool → Tally → List ℕ
tally_line m p summed t = count_text m p t.count ++ cond summed (tally_numbers t) [] ++ full_text t.count ++ bytes "\n"

-- ## All parameters

abbrev pub tally_at : Figures → ℕ → Tally
tally_at f k = get_or f.tallies k no_settings

-- so no sum is too large
pub record Low (t : Tally) : Type 0 where
  pub count : t.count ≤ full
  pub least : t.least ≤ 4294967296
  pub greatest : t.greatest ≤ 4294967296
  pub sum : t.sum ≤ t.count * 4294967296

pub record Bounded (f : Figures) : Type 0 where
  pub size : length f.tallies ≡ 64
  pub all : (k : ℕ) → Low (tally_at f k)

-- parameter k was set
unfoldable pub observed : Figures → ℕ → ℕ → Figures
observed f k x = record { tallies = set f.tallies k (noted (tally_at f k) x) }

pub record Observes (f : Figures) (k x : ℕ) (r : Figures) : Type 0 where
  pub is : r ≡ observed f k x
  pub bounded : Bounded r

-- the datainfo at a position of the table's bytes lets a text in, which is in stored form
pub record SetTo (s : List ℕ) (info : ℕ) (v : List ℕ) : Type 0 where
  pub within : info ≤ length s
  pub datainfo : Datainfo
  pub left : List ℕ
  pub reads : datainfo_at (drop info s) ≡ Some (datainfo, left)
  pub stored : is_stored datainfo v ≡ true

-- r is the mark of a text by the datainfo there
pub record Marks (s : List ℕ) (info : ℕ) (v : List ℕ) (r : ℕ) : Type 0 where
  pub is : {d : Datainfo} {x : List ℕ} → datainfo_at (drop info s) ≡ Some (d, x) → r ≡ mark_of d v
  pub low : r ≤ 4294967296

-- r is whether the two limits that are read from xs are narrow; where they can't be read, r is any. Of a scaled they stand behind its scale
pub record LimitsNarrow (xs : List ℕ) (r : Bool) : Type 0 where
  pub is : {lo hi : ℤ} {y z : List ℕ} → signed 8 xs ≡ Some (lo, y) → signed 8 y ≡ Some (hi, z) → r ≡ is_narrow lo hi

pub record ScaledNarrow (xs : List ℕ) (r : Bool) : Type 0 where
  pub is : {a : Decimal} {y : List ℕ} → limit xs ≡ Some (a, y) → LimitsNarrow y r

-- r is whether the parameter of the datainfo there has more than a count
pub record TellsSummed (s : List ℕ) (info : ℕ) (r : Bool) : Type 0 where
  pub is : {d : Datainfo} {x : List ℕ} → datainfo_at (drop info s) ≡ Some (d, x) → r ≡ is_summed d
