-- Laws of the members of an enum: sought by name, and a value that is one by its name or by its number. Assumes nothing.
use Rattle.std.specs.Prelude.{Option, Some, None, Result, Err}
use Rattle.std.specs.Option.{is_some}
use Prim.Native.Nat.{ℕ, ◌-◌, ◌≤◌, ◌<◌}
use native.Mathlib.Omega.{arith}
use mathlib.Core.Path.{◌≡◌, refl, sym, ap, ◌∙◌}
use mathlib.Core.Bool.{Bool, true, false}
use mathlib.Core.List.{List, []}
use lib.ListN.{drop}
use lib.IntN.{ℤ}
use Rattle.ascii.specs.Bytes.{same}
use Rattle.ascii.specs.Numbers.{unsigned, signed}
use Rattle.ascii.specs.Clauses.Read.{ReadsValue}
use Rattle.ascii.specs.Clauses.Reader.{ByteAt, Ends, rest}
use Rattle.decimal.specs.Token as Token
use Rattle.json_text.specs.Json.{Json, null, boolean, bare}
use Rattle.datainfo.specs.Datainfo.{Variant, enum}
use Rattle.datainfo.specs.Clauses.Obeyed.{name_of}
use Rattle.datainfo.specs.Layout.{counted, variants, enum_at}
use Rattle.fit.specs.Fit.{in_range, expect, expect_or, as_string, member_number, fit}
use Rattle.fit.specs.Clauses.Verdict.{meaning, Judges}
use Rattle.fit.specs.Clauses.Walk.{Quoted, Answers, NumberOf}
use Rattle.fit.proofs.Judged.{judges_of, same_read, same_left}
use Rattle.fit.proofs.Shapes.{nothing, just, shape, tells_yes, tells_no, as_string_lem}
use Rattle.fit.proofs.Objects.{name_reads}
use Rattle.fit.proofs.Figures.{variants_some, enum_some, no_number}
use Rattle.fit.specs.declared.Misfit.{Misfit}
use Rattle.fit.specs.declared.Misfit.TheVariants.{WrongType}

-- ## The number of a member

variants_none : (n : ℕ) (xs : List ℕ) {vs : List Variant} {x : List ℕ} → n ≤ 0 → variants n xs ≡ Some (vs, x) → vs ≡ []
unfolding variants
variants_none n xs h e = let z : n ≡ 0 = omega arith in sym (ap (λ p. p.0) (just (rw z at e)))

same_variants : {a b : List Variant} → enum a ≡ enum b → a ≡ b
same_variants e = cc

-- what is asked of all members is asked of those from `member` on, of which so many are left
pub record NumberLeft (s : List ℕ) (vs : List Variant) (name : List ℕ) (member left : ℕ) : Type 0 where
  pub ws : List Variant
  pub x : List ℕ
  pub reads : variants left (drop member s) ≡ Some (ws, x)
  pub is : member_number vs name ≡ member_number ws name

pub record NumberAt (s : List ℕ) (i : ℕ) (name : List ℕ) (member left : ℕ) : Type 0 where
  pub from : {vs : List Variant} {x : List ℕ} → enum_at (drop i s) ≡ Some (enum vs, x) → NumberLeft s vs name member left

module _ (s : List ℕ) (i : ℕ) (name : List ℕ) (u : Option (ℕ × ℕ)) (k : ReadsValue s u (unsigned 1 (drop i s))) where
  pub number_short : u ≡ None → (r : Option (ℤ × ℕ)) → NumberOf (enum_at (drop i s)) name r
  number_short z r = record { is = λ e. enum_some (drop i s) e λ n y vs a b o. absurd (nothing (sym (rw z at k) ∙ a)) }

  pub number_first : (n j : ℕ) → u ≡ Some (n, j) → NumberAt s i name j n
  number_first n j z = record {
    from = λ e. enum_some (drop i s) e λ m y vs a b o. record {
      ws = vs;
      x = _;
      reads = rw (same_read a (rw z at k).0, same_left a (rw z at k).0) at b;
      is = ap (λ vs. member_number vs name) (same_variants o);
    };
  }

module _ (s : List ℕ) (i : ℕ) (name : List ℕ) (member left : ℕ) (c : NumberAt s i name member left) where
  pub number_over : left ≤ 0 → NumberOf (enum_at (drop i s)) name None
  unfolding member_number
  number_over h = record { is = λ e. let q = c.from e in q.is ∙ rw (variants_none left (drop member s) h q.reads) }

  module _ (h : 0 < left) (p : Option ℕ) (l : Ends s p (rest (counted (drop member s)))) where
    pub number_nameless : p ≡ None → (r : Option (ℤ × ℕ)) → NumberOf (enum_at (drop i s)) name r
    number_nameless z r = record {
      is = λ e. variants_some left (drop member s) h (c.from e).reads λ k y v y' ws a b d o. absurd (nothing (sym (rw z at l) ∙ ap rest a));
    }

    module _ (n : ℕ) (z : p ≡ Some n) (u : Option (ℤ × ℕ)) (g : ReadsValue s u (signed 4 (drop n s))) where
      -- past the name
      past : {k r : List ℕ} → counted (drop member s) ≡ Some (k, r) → r ≡ drop n s
      past f = just (sym (ap rest f) ∙ (rw z at l).0)

      pub number_cut : u ≡ None → (r : Option (ℤ × ℕ)) → NumberOf (enum_at (drop i s)) name r
      number_cut w r = record {
        is = λ e. variants_some left (drop member s) h (c.from e).reads λ k y v y' ws a b d o.
            absurd (nothing (sym (rw w at g) ∙ (rw (past a) at b)));
      }

      module _ (v : ℤ) (e : ℕ) (w : u ≡ Some (v, e)) (t : List ℕ) (m : t ≡ name_of (drop member s)) (b : Bool) (f : b ≡ same t name) where
        pub number_hit : b ≡ true → NumberOf (enum_at (drop i s)) name (Some (v, e))
        unfolding member_number
        number_hit z' = record {
          is = λ q. let r = c.from q in variants_some left (drop member s) h r.reads λ k y v' y' ws a b' d o.
              r.is ∙ rw (o, ← ((name_reads (drop member s) t m).is a), ← f, z', same_read (rw (past a) at b') (rw w at g).0);
        }

        pub number_more : b ≡ false → NumberAt s i name e (left - 1)
        unfolding member_number
        number_more z' = record {
          from = λ q. let r = c.from q in variants_some left (drop member s) h r.reads λ k y v' y' ws a b' d o. record {
            ws = ws;
            x = r.x;
            reads = rw (same_left (rw (past a) at b') (rw w at g).0) at d;
            is = r.is ∙ rw (o, ← ((name_reads (drop member s) t m).is a), ← f, z');
          };
        }

-- ## A member by its name

told : (vs : List Variant) (t : List ℕ) (n : Option (ℤ × ℕ)) → Answers n (member_number vs t) → in_range (is_some n) ≡ fit (enum vs) (Json.string t)
unfolding fit expect_or as_string in_range
told vs t None k = rw k refl
told vs t (Some (v, i)) k = rw k refl

module _ (xs t : List ℕ) (n : Option (ℤ × ℕ)) (g : NumberOf (enum_at xs) t n) where
  pub named_told : (b : Bool) (r : Result Unit Misfit) → b ≡ is_some n → meaning r ≡ in_range b → Judges (enum_at xs) (Some (Json.string t, [])) r
  named_told b r e h = judges_of refl λ d x f. enum_some xs f λ m r' vs a b' o. h ∙ rw (e, o) (told vs t n (g.is (rw o at f)))

-- ## A member by its name or by its number

string_from : (j : Json) {t : List ℕ} → as_string j ≡ Some t → j ≡ Json.string t
unfolding as_string
string_from (Json.string t) e = ap Json.string (just e)
string_from null e = absurd (nothing e)
string_from (boolean b) e = absurd (nothing e)
string_from (Json.number t) e = absurd (nothing e)
string_from (Json.array is) e = absurd (nothing e)
string_from (Json.object ms) e = absurd (nothing e)

module _ (s : List ℕ) (at : ℕ) (v : List ℕ) (p b : ℕ) (x : ByteAt v p b) (depth : ℕ) where
  pub choice_named : b ≡ 34 → (t : List ℕ) (r : Result Unit Misfit) → Quoted (drop p v) t → Judges (enum_at (drop at s)) (Some (Json.string t, [])) r
      → Judges (enum_at (drop at s)) (bare depth (drop p v)) r
  choice_named h t r q g = record {
    is = λ e k. tells_yes (as_string_lem (shape depth (drop p v) k)) (sym x.is ∙ h) λ a i w.
        rw (string_from _ i, w.1, ← (q.is (sym x.is ∙ h) w.0)) (g.is e refl);
  }

  pub choice_none : (b ≡ 34 → ⊥) → (n : Option ℕ) → Ends v n (Token.number (drop p v)) → n ≡ None → Judges (enum_at (drop at s)) (bare depth (drop p v)) (Err WrongType)
  unfolding fit expect_or expect
  choice_none h n l z = record {
    is = λ e k. enum_some (drop at s) e λ m r vs a b o.
        rw (o, tells_no (as_string_lem (shape depth (drop p v) k)) (λ g. h (x.is ∙ g)), no_number v p n l depth z k);
  }
