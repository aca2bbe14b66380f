-- Laws of the datainfos that are written, one for each way through a function. Assumes nothing.
use Rattle.std.specs.Prelude.{Option, Some, None}
use Prim.Native.Nat.{ℕ, zero, suc, ◌^◌, ◌<◌}
use mathlib.Core.Path.{◌≡◌, refl, sym, ap, ◌∙◌}
use mathlib.Core.List.{List, [], ◌++◌, append_assoc}
use lib.ListN.{drop}
use lib.IntN.{ℤ, pos, negsuc}
use lib.Signed.{mag}
use mir.Syntax.{w8, w64}
use mir.Val.{SFits, hbits, to_z, of_z}
use mir.Facts.{to_z-of_z}
use native.Mathlib.Omega.{arith}
use borrow.Author.Tests.{ne_eqb}
use Rattle.ascii.specs.Text.{bytes}
use Rattle.ascii.specs.Numbers.{decimal, integer, unsigned, signed}
use Rattle.ascii.specs.Clauses.Read.{ReadsValue}
use Rattle.decimal.specs.Decimal.{Decimal}
use Rattle.decimal.specs.Clauses.Exact.{decimal as decimal_of}
use Rattle.json_text.specs.Json.{quoted, compact, compact_members, more_members}
use Rattle.datainfo.specs.Clauses.Obeyed.{ReadsLimit}
use Rattle.datainfo.specs.Datainfo.{Datainfo}
use Rattle.datainfo.specs.Layout.{limit, double_at, int_at, string_at, array_at, scaled_at, blob_at, datainfo_in}
use Rattle.report.specs.Report.{decimal_text, datainfo_value}
use Rattle.emit.specs.Clauses.Emitted.{Emits, told, Says}
use Rattle.infos.specs.Clauses.Texts.{datainfo_text, array_limits, opening, closing}
use Rattle.emit.proofs.Pieces.{both, after, handed}
use Rattle.emit.proofs.Says.{says_nothing, says_text, mapped}

-- ## Decimals

module _ (p : ℤ) (small : mag p < 2 ^ hbits w8) where
  power_back : to_z w8 (of_z w8 p) ≡ p
  power_back = to_z-of_z {w = w8} (record { sfits = small })

  pub power_wide : SFits w64 (to_z w8 (of_z w8 p))
  power_wide = rw power_back (record { sfits = omega arith })

  power_fits : mag (to_z w8 (of_z w8 p)) < 2 ^ hbits w64
  power_fits = power_wide.sfits

  zero_power : of_z w8 p ≡ 0 → p ≡ pos 0
  zero_power e = sym power_back ∙ ap (to_z w8) e

  module _ (m : ℤ) (fits : mag m < 2 ^ hbits w64) (l : List ℕ) {d e : List ℕ} {at a : ℕ} (x : Emits d at (l ++ integer (to_z w64 (of_z w64 m))) e a) where
    pub limit_whole : of_z w8 p ≡ 0 → Emits d at (l ++ decimal_text m p) e a
    unfolding decimal_text
    limit_whole z = rw (zero_power z) (rw (handed m fits) at x)

    pub limit_power : (g : List ℕ) (r : ℕ) → (of_z w8 p ≡ 0 → ⊥) → Emits e a (bytes "e" ++ integer (to_z w64 (of_z w64 (to_z w8 (of_z w8 p))))) g r → Emits d at (l ++ decimal_text m p) g r
    unfolding decimal_text integer
    limit_power g r n z = go p n (rw append_assoc at (both (rw (handed m fits) at x) (rw (handed (to_z w8 (of_z w8 p)) power_fits, power_back) at z)))
      where
        go : (q : ℤ) → (of_z w8 q ≡ 0 → ⊥) → Emits d at (l ++ (integer m ++ (bytes "e" ++ integer q))) g r → Emits d at (l ++ decimal_text m q) g r
        go (pos zero) n w = absurd (n refl)
        go (pos (suc k)) n w = rw (ne_eqb (suc k) 0 (λ e. omega arith), append_assoc (integer m) (bytes "e") (decimal (suc k))) w
        go (negsuc k) n w = rw (append_assoc (integer m) (bytes "e") (integer (negsuc k))) w

-- ## Texts of limits

five_pieces : (a b c d e f : List ℕ) → a ++ b ++ (c ++ d) ++ e ++ f ≡ a ++ (b ++ (c ++ (d ++ (e ++ f))))
five_pieces a b c d e f = simp append_assoc

limits_then : (lo hi : ℕ) (y : List ℕ) → array_limits lo hi ++ y ≡ bytes "{\"type\":\"array\",\"minlen\":" ++ (decimal lo ++ (bytes ",\"maxlen\":" ++ (decimal hi ++ (bytes ",\"members\":" ++ y))))
unfolding array_limits
limits_then lo hi y = five_pieces (bytes "{\"type\":\"array\",\"minlen\":") (decimal lo) (bytes ",\"maxlen\":") (decimal hi) (bytes ",\"members\":") y

module _ {d0 d1 d2 d3 : List ℕ} {p0 p1 p2 p3 : ℕ} where
  int_text : (lo hi : ℤ) → Emits d0 p0 (bytes "{\"type\":\"int\",\"min\":" ++ integer lo) d1 p1 → Emits d1 p1 (bytes ",\"max\":" ++ integer hi) d2 p2 → Emits d2 p2 (bytes "}") d3 p3 → Emits d0 p0 (datainfo_text (Datainfo.int lo hi)) d3 p3
  unfolding datainfo_text datainfo_value compact compact_members more_members quoted bytes
  int_text lo hi a b c = both (both a (both b (after b))) c

  double_text : (lo hi : Decimal) → Emits d0 p0 (bytes "{\"type\":\"double\",\"min\":" ++ decimal_text lo.whole lo.power) d1 p1 → Emits d1 p1 (bytes ",\"max\":" ++ decimal_text hi.whole hi.power) d2 p2 → Emits d2 p2 (bytes "}") d3 p3 → Emits d0 p0 (datainfo_text (Datainfo.double lo hi)) d3 p3
  unfolding datainfo_text datainfo_value compact compact_members more_members quoted bytes
  double_text lo hi a b c = both (both a (both b (after b))) c

  chars_text : (lo hi : ℕ) → Emits d0 p0 (bytes "{\"type\":\"string\",\"minchars\":" ++ decimal lo) d1 p1 → Emits d1 p1 (bytes ",\"maxchars\":" ++ decimal hi) d2 p2 → Emits d2 p2 (bytes "}") d3 p3 → Emits d0 p0 (datainfo_text (Datainfo.string lo hi)) d3 p3
  unfolding datainfo_text datainfo_value compact compact_members more_members quoted bytes
  chars_text lo hi a b c = both (both a (both b (after b))) c

  blob_text : (lo hi : ℕ) → Emits d0 p0 (bytes "{\"type\":\"blob\",\"minbytes\":" ++ decimal lo) d1 p1 → Emits d1 p1 (bytes ",\"maxbytes\":" ++ decimal hi) d2 p2 → Emits d2 p2 (bytes "}") d3 p3 → Emits d0 p0 (datainfo_text (Datainfo.blob lo hi)) d3 p3
  unfolding datainfo_text datainfo_value compact compact_members more_members quoted bytes
  blob_text lo hi a b c = both (both a (both b (after b))) c

  pub array_limits_lem : (lo hi : ℕ) → Emits d0 p0 (bytes "{\"type\":\"array\",\"minlen\":" ++ decimal lo) d1 p1 → Emits d1 p1 (bytes ",\"maxlen\":" ++ decimal hi) d2 p2 → Emits d2 p2 (bytes ",\"members\":") d3 p3 → Emits d0 p0 (array_limits lo hi) d3 p3
  unfolding array_limits
  array_limits_lem lo hi a b c = both (both a b) c

  array_text : (lo hi : ℕ) (x : Datainfo) → Emits d0 p0 (array_limits lo hi) d1 p1 → Emits d1 p1 (datainfo_text x) d2 p2 → Emits d2 p2 (bytes "}") d3 p3 → Emits d0 p0 (datainfo_text (Datainfo.array lo hi x)) d3 p3
  unfolding datainfo_text datainfo_value compact compact_members more_members quoted bytes
  array_text lo hi x a b c = both (go (datainfo_text x ++ []) (both a (both b (after b)))) c
    where
      go : (y : List ℕ) → Emits d0 p0 (array_limits lo hi ++ y) d2 p2 → Emits d0 p0 (bytes "{\"type\":\"array\",\"minlen\":" ++ (decimal lo ++ (bytes ",\"maxlen\":" ++ (decimal hi ++ (bytes ",\"members\":" ++ y))))) d2 p2
      go y e = rw (limits_then lo hi y) at e

-- a scaled by its scale and its limits, as they are handed on
module _ (m p lo hi : ℤ) (f1 : mag m < 2 ^ hbits w64) (f2 : mag p < 2 ^ hbits w8) (f3 : mag lo < 2 ^ hbits w64) (f4 : mag hi < 2 ^ hbits w64) where
  pub scaled_text : {d0 d1 d2 d3 d4 : List ℕ} {p0 p1 p2 p3 p4 : ℕ} → Emits d0 p0 (bytes "{\"type\":\"scaled\",\"scale\":" ++ decimal_text (to_z w64 (of_z w64 m)) (to_z w8 (of_z w8 p))) d1 p1 → Emits d1 p1 (bytes ",\"min\":" ++ integer (to_z w64 (of_z w64 lo))) d2 p2 → Emits d2 p2 (bytes ",\"max\":" ++ integer (to_z w64 (of_z w64 hi))) d3 p3 → Emits d3 p3 (bytes "}") d4 p4 → Emits d0 p0 (datainfo_text (Datainfo.scaled (decimal_of m p) lo hi)) d4 p4
  unfolding datainfo_text datainfo_value compact compact_members more_members quoted bytes
  scaled_text a b c e =
      let a' = rw (handed m f1, power_back p f2) at a in let b' = rw (handed lo f3) at b in let c' = rw (handed hi f4) at c in
      both (both a' (both b' (both c' (after c')))) e

-- ## Two limits

module _ (s : List ℕ) (i : ℕ) {d0 : List ℕ} {p0 : ℕ} where
  -- a double
  module _ (q : Option (ℤ × ℤ × ℕ)) (h : ReadsLimit s q (limit (drop i s))) where
    pub double_none : {e : List ℕ} {r : ℕ} → q ≡ None → Says (told datainfo_text (double_at (drop i s))) d0 p0 e r
    unfolding double_at
    double_none z = says_nothing (simp (rw z at h))

    module _ (lo p : ℤ) (j : ℕ) (z : q ≡ Some (lo, p, j)) (q' : Option (ℤ × ℤ × ℕ)) (h' : ReadsLimit s q' (limit (drop j s))) where
      pub double_one : {e : List ℕ} {r : ℕ} → q' ≡ None → Says (told datainfo_text (double_at (drop i s))) d0 p0 e r
      unfolding double_at
      double_one z' = says_nothing (simp ((rw z at h).0, rw z' at h'))

      pub double_told : (hi p' : ℤ) (k : ℕ) → q' ≡ Some (hi, p', k) → mag lo < 2 ^ hbits w64 → mag p < 2 ^ hbits w8 → mag hi < 2 ^ hbits w64 → mag p' < 2 ^ hbits w8 → {d1 d2 d3 : List ℕ} {p1 p2 p3 : ℕ} → Emits d0 p0 (bytes "{\"type\":\"double\",\"min\":" ++ decimal_text (to_z w64 (of_z w64 lo)) (to_z w8 (of_z w8 p))) d1 p1 → Emits d1 p1 (bytes ",\"max\":" ++ decimal_text (to_z w64 (of_z w64 hi)) (to_z w8 (of_z w8 p'))) d2 p2 → Emits d2 p2 (bytes "}") d3 p3 → Says (told datainfo_text (double_at (drop i s))) d0 p0 d3 p3
      unfolding double_at
      double_told hi p' k z' f1 g1 f2 g2 a b c =
          simp ((rw z at h).0, (rw z' at h').0)
          (says_text refl (double_text (record { whole = lo; power = p }) (record { whole = hi; power = p' }) (rw (handed lo f1, power_back p g1) at a) (rw (handed hi f2, power_back p' g2) at b) c))

  -- an int
  module _ (q : Option (ℤ × ℕ)) (h : ReadsValue s q (signed 8 (drop i s))) where
    pub int_none : {e : List ℕ} {r : ℕ} → q ≡ None → Says (told datainfo_text (int_at (drop i s))) d0 p0 e r
    unfolding int_at
    int_none z = says_nothing (simp (rw z at h))

    module _ (lo : ℤ) (j : ℕ) (z : q ≡ Some (lo, j)) (q' : Option (ℤ × ℕ)) (h' : ReadsValue s q' (signed 8 (drop j s))) where
      pub int_one : {e : List ℕ} {r : ℕ} → q' ≡ None → Says (told datainfo_text (int_at (drop i s))) d0 p0 e r
      unfolding int_at
      int_one z' = says_nothing (simp ((rw z at h).0, rw z' at h'))

      pub int_told : (hi : ℤ) (k : ℕ) → q' ≡ Some (hi, k) → mag lo < 2 ^ hbits w64 → mag hi < 2 ^ hbits w64 → {d1 d2 d3 : List ℕ} {p1 p2 p3 : ℕ} → Emits d0 p0 (bytes "{\"type\":\"int\",\"min\":" ++ integer (to_z w64 (of_z w64 lo))) d1 p1 → Emits d1 p1 (bytes ",\"max\":" ++ integer (to_z w64 (of_z w64 hi))) d2 p2 → Emits d2 p2 (bytes "}") d3 p3 → Says (told datainfo_text (int_at (drop i s))) d0 p0 d3 p3
      unfolding int_at
      int_told hi k z' f1 f2 a b c =
          simp ((rw z at h).0, (rw z' at h').0) (says_text refl (int_text lo hi (rw (handed lo f1) at a) (rw (handed hi f2) at b) c))

  -- a scaled
  module _ (o : Option (ℤ × ℤ × ℕ)) (g : ReadsLimit s o (limit (drop i s))) where
    pub scaled_none : {e : List ℕ} {r : ℕ} → o ≡ None → Says (told datainfo_text (scaled_at (drop i s))) d0 p0 e r
    unfolding scaled_at
    scaled_none z = says_nothing (simp (rw z at g))

    module _ (m p : ℤ) (n : ℕ) (y : o ≡ Some (m, p, n)) (q : Option (ℤ × ℕ)) (h : ReadsValue s q (signed 8 (drop n s))) where
      pub scaled_one : {e : List ℕ} {r : ℕ} → q ≡ None → Says (told datainfo_text (scaled_at (drop i s))) d0 p0 e r
      unfolding scaled_at
      scaled_one z = says_nothing (simp ((rw y at g).0, rw z at h))

      module _ (lo : ℤ) (j : ℕ) (z : q ≡ Some (lo, j)) (q' : Option (ℤ × ℕ)) (h' : ReadsValue s q' (signed 8 (drop j s))) where
        pub scaled_two : {e : List ℕ} {r : ℕ} → q' ≡ None → Says (told datainfo_text (scaled_at (drop i s))) d0 p0 e r
        unfolding scaled_at
        scaled_two z' = says_nothing (simp ((rw y at g).0, (rw z at h).0, rw z' at h'))

        pub scaled_told : (hi : ℤ) (k : ℕ) → q' ≡ Some (hi, k) → mag m < 2 ^ hbits w64 → mag p < 2 ^ hbits w8 → mag lo < 2 ^ hbits w64 → mag hi < 2 ^ hbits w64 → {e : List ℕ} {r : ℕ} → Emits d0 p0 (datainfo_text (Datainfo.scaled (decimal_of (to_z w64 (of_z w64 m)) (to_z w8 (of_z w8 p))) (to_z w64 (of_z w64 lo)) (to_z w64 (of_z w64 hi)))) e r → Says (told datainfo_text (scaled_at (drop i s))) d0 p0 e r
        unfolding scaled_at
        scaled_told hi k z' f1 f2 f3 f4 x =
            simp ((rw y at g).0, (rw z at h).0, (rw z' at h').0) (says_text refl (rw (handed m f1, power_back p f2, handed lo f3, handed hi f4) at x))

  -- two counts
  module _ (q : Option (ℕ × ℕ)) (h : ReadsValue s q (unsigned 2 (drop i s))) where
    pub chars_none : {e : List ℕ} {r : ℕ} → q ≡ None → Says (told datainfo_text (string_at (drop i s))) d0 p0 e r
    unfolding string_at
    chars_none z = says_nothing (simp (rw z at h))

    pub blob_none : {e : List ℕ} {r : ℕ} → q ≡ None → Says (told datainfo_text (blob_at (drop i s))) d0 p0 e r
    unfolding blob_at
    blob_none z = says_nothing (simp (rw z at h))

    pub array_none : (l : ℕ) {e : List ℕ} {r : ℕ} → q ≡ None → Says (told datainfo_text (array_at (datainfo_in l) (drop i s))) d0 p0 e r
    unfolding array_at
    array_none l z = says_nothing (simp (rw z at h))

    module _ (lo j : ℕ) (z : q ≡ Some (lo, j)) (q' : Option (ℕ × ℕ)) (h' : ReadsValue s q' (unsigned 2 (drop j s))) where
      pub chars_one : {e : List ℕ} {r : ℕ} → q' ≡ None → Says (told datainfo_text (string_at (drop i s))) d0 p0 e r
      unfolding string_at
      chars_one z' = says_nothing (simp ((rw z at h).0, rw z' at h'))

      pub blob_one : {e : List ℕ} {r : ℕ} → q' ≡ None → Says (told datainfo_text (blob_at (drop i s))) d0 p0 e r
      unfolding blob_at
      blob_one z' = says_nothing (simp ((rw z at h).0, rw z' at h'))

      pub array_one : (l : ℕ) {e : List ℕ} {r : ℕ} → q' ≡ None → Says (told datainfo_text (array_at (datainfo_in l) (drop i s))) d0 p0 e r
      unfolding array_at
      array_one l z' = says_nothing (simp ((rw z at h).0, rw z' at h'))

      module _ (hi k : ℕ) (z' : q' ≡ Some (hi, k)) {d1 d2 d3 : List ℕ} {p1 p2 p3 : ℕ} where
        pub chars_told : Emits d0 p0 (bytes "{\"type\":\"string\",\"minchars\":" ++ decimal lo) d1 p1 → Emits d1 p1 (bytes ",\"maxchars\":" ++ decimal hi) d2 p2 → Emits d2 p2 (bytes "}") d3 p3 → Says (told datainfo_text (string_at (drop i s))) d0 p0 d3 p3
        unfolding string_at
        chars_told a b c = simp ((rw z at h).0, (rw z' at h').0) (says_text refl (chars_text lo hi a b c))

        pub blob_told : Emits d0 p0 (bytes "{\"type\":\"blob\",\"minbytes\":" ++ decimal lo) d1 p1 → Emits d1 p1 (bytes ",\"maxbytes\":" ++ decimal hi) d2 p2 → Emits d2 p2 (bytes "}") d3 p3 → Says (told datainfo_text (blob_at (drop i s))) d0 p0 d3 p3
        unfolding blob_at
        blob_told a b c = simp ((rw z at h).0, (rw z' at h').0) (says_text refl (blob_text lo hi a b c))

        pub array_told : (l : ℕ) → Emits d0 p0 (array_limits lo hi) d1 p1 → Says (told datainfo_text (datainfo_in l (drop k s))) d1 p1 d2 p2 → Emits d2 p2 (bytes "}") d3 p3 → Says (told datainfo_text (array_at (datainfo_in l) (drop i s))) d0 p0 d3 p3
        unfolding array_at
        array_told l a x c =
            simp ((rw z at h).0, (rw z' at h').0)
            (mapped datainfo_text (Datainfo.array lo hi) datainfo_text (datainfo_in l (drop k s)) (λ y w. array_text lo hi y a w c) x)

-- ## Before and after members, and the number of an enum's member

module _ (k : ℕ) {d e : List ℕ} {at r : ℕ} where
  pub opening_enum : k ≡ 4 → Emits d at (bytes "{\"type\":\"enum\",\"members\":{") e r → Emits d at (opening k) e r
  unfolding opening
  opening_enum z x = rw z x

  pub opening_tuple : k ≡ 7 → Emits d at (bytes "{\"type\":\"tuple\",\"members\":[") e r → Emits d at (opening k) e r
  unfolding opening
  opening_tuple z x = rw z x

  pub opening_struct : (k ≡ 4 → ⊥) → (k ≡ 7 → ⊥) → Emits d at (bytes "{\"type\":\"struct\",\"members\":{") e r → Emits d at (opening k) e r
  unfolding opening
  opening_struct y z x = rw (ne_eqb k 4 y, ne_eqb k 7 z) x

  pub closing_tuple : k ≡ 7 → Emits d at (bytes "]}") e r → Emits d at (closing k) e r
  unfolding closing
  closing_tuple z x = rw z x

  pub closing_partial : k ≡ 11 → Emits d at (bytes "},\"optional\":[]}") e r → Emits d at (closing k) e r
  unfolding closing
  closing_partial z x = rw z x

  pub closing_other : (k ≡ 7 → ⊥) → (k ≡ 11 → ⊥) → Emits d at (bytes "}}") e r → Emits d at (closing k) e r
  unfolding closing
  closing_other y z x = rw (ne_eqb k 7 y, ne_eqb k 11 z) x

module _ (s : List ℕ) (i : ℕ) {d e : List ℕ} {at r : ℕ} (q : Option (ℤ × ℕ)) (h : ReadsValue s q (signed 4 (drop i s))) where
  pub number_none : q ≡ None → Says (told integer (signed 4 (drop i s))) d at e r
  number_none z = says_nothing (simp (rw z at h))

  pub number_told : (v : ℤ) (j : ℕ) → q ≡ Some (v, j) → mag v < 2 ^ hbits w64 → Emits d at (integer (to_z w64 (of_z w64 v))) e r → Says (told integer (signed 4 (drop i s))) d at e r
  number_told v j z f x = simp (rw z at h).0 (says_text refl (rw (handed v f) at x))
