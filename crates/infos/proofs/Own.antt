-- Laws of a parameter's own datainfo: the names of its optional members are told. Assumes nothing.
use Rattle.std.specs.Prelude.{Option, Some, None}
use Prim.Native.Nat.{ℕ, ◌-◌, ◌≤◌, ◌<◌}
use mathlib.Core.Path.{◌≡◌, refl, sym, ap, ◌∙◌}
use mathlib.Core.Bool.{Bool, true, false, cond}
use mathlib.Core.List.{List, [], ◌∷◌, ◌++◌, append_assoc, append-nil}
use lib.ListN.{drop}
use lib.Dec.{eqb}
use borrow.Author.Tests.{ne_eqb}
use Rattle.ascii.specs.Text.{bytes}
use Rattle.ascii.specs.Bytes.{◌>>=◌}
use Rattle.ascii.specs.Numbers.{unsigned}
use Rattle.ascii.specs.Clauses.Read.{ReadsValue}
use Rattle.ascii.specs.Clauses.Reader.{ByteAt, Ends}
use Rattle.ascii.proofs.Follows.{then_then}
use Rattle.json_text.specs.Json.{quoted, compact, compact_items, compact_members, more_members}
use Rattle.datainfo.specs.Datainfo.{Datainfo, partial, no_fields, Fields, Parts}
use Rattle.datainfo.specs.Clauses.Obeyed.{name_in}
use Rattle.datainfo.specs.Layout.{entry, joined, fields, struct_at, partial_at, typed, datainfo_in}
use Rattle.datainfo.specs.Clauses.Members.{after_field, members_at}
use Rattle.datainfo.proofs.Own.{when_cond, when_double, when_int, when_enum, when_string, when_scaled, when_blob, when_array, when_tuple}
use Rattle.datainfo.proofs.Structs.{struct_members, fields_none, fields_some, past_field, name_read, entry_flag}
use Rattle.report.specs.Report.{name_items, field_values, datainfo_value}
use Rattle.emit.specs.Clauses.Emitted.{Emits, comma, told, Says}
use Rattle.emit.proofs.Pieces.{both, nothing}
use Rattle.emit.proofs.Says.{never, says_nothing, says_text}
use Rattle.emit.proofs.Listed.{listed, listed_first, listed_items, items_first, items_more}
use Rattle.infos.specs.Clauses.Texts.{datainfo_text, own_text, names_text, opening, count_text}
use Rattle.infos.proofs.Lists.{count_members}
use Rattle.std.proofs.lemmas.Option.{same_Some}

-- ## One member

module _ (s : List ℕ) (i b : ℕ) (h : ByteAt s i b) where
  flag_yes : b ≡ 1 → {a : Bool × List ℕ} {y : List ℕ} → entry 11 (drop i s) ≡ Some (a, y) → a.0 ≡ true
  flag_yes z e = entry_flag (drop i s) e ∙ rw (← h.is, z)

  flag_no : (b ≡ 1 → ⊥) → {a : Bool × List ℕ} {y : List ℕ} → entry 11 (drop i s) ≡ Some (a, y) → a.0 ≡ false
  flag_no z e = entry_flag (drop i s) e ∙ rw (← h.is) (ne_eqb b 1 z)

-- ## All of them

-- of a struct's members those from `place` on are left, and the names of the optional ones before are written
pub record NamesLeft (s : List ℕ) (m : Parts) (place left : ℕ) (first : Bool) (before : List ℕ) (at : ℕ) (out : List ℕ) (p : ℕ) : Type 0 where
  pub gs : Parts
  pub x : List ℕ
  pub reads : fields (datainfo_in 3) 11 left (drop place s) ≡ Some (gs, x)
  pub done : List ℕ
  pub wrote : Emits before at done out p
  pub whole : names_text m ≡ done ++ listed_items first (name_items gs.0)

pub record NamesAt (s : List ℕ) (i place left : ℕ) (first : Bool) (before : List ℕ) (at : ℕ) (out : List ℕ) (p : ℕ) : Type 0 where
  pub from : {m : Parts} {x : List ℕ} → members_at (datainfo_in 3) 11 (drop i s) ≡ Some (m, x) → NamesLeft s m place left first before at out p

said : (o : Option (Parts × List ℕ)) {d h : List ℕ} {at r : ℕ} → ((m : Parts) (x : List ℕ) → o ≡ Some (m, x) → Emits d at (names_text m) h r)
    → Says (told names_text o) d at h r
said None f = says_nothing refl
said (Some q) f = says_text refl (f q.0 q.1 refl)

module _ (s : List ℕ) (i : ℕ) (u : Option (ℕ × ℕ)) (k : ReadsValue s u (unsigned 1 (drop i s))) where
  pub names_short : u ≡ None → {d h : List ℕ} {at r : ℕ} → Says (told names_text (members_at (datainfo_in 3) 11 (drop i s))) d at h r
  unfolding members_at
  names_short z = says_nothing (rw (rw z at k))

  pub names_first : (n j : ℕ) → u ≡ Some (n, j) → (left : ℕ) → left ≡ n → (out : List ℕ) (at : ℕ) → at ≤ 18446744073709551615 → NamesAt s i j left true out at out at
  unfolding members_at names_text
  names_first n j z left v out at w = rw v record {
    from = λ {m = m} e. record {
      gs = m;
      x = _;
      reads = rw (rw z at k).0 at e;
      done = [];
      wrote = nothing out at w;
      whole = sym (items_first (name_items m.0));
    };
  }

one_more_lem : (done : List ℕ) (first : Bool) (k : List ℕ) (ns : List (List ℕ))
    → done ++ listed_items first (name_items (k ∷ ns)) ≡ (done ++ (comma first ++ quoted k)) ++ listed_items false (name_items ns)
unfolding name_items listed_items compact
one_more_lem done first k ns = rw (items_more (name_items ns)) (simp append_assoc)

names_step : (done : List ℕ) (first : Bool) (a : Bool × List ℕ) (d : Datainfo) (hs gs : Parts) → gs ≡ joined a d hs
    → done ++ listed_items first (name_items gs.0) ≡ (done ++ cond a.0 (comma first ++ quoted a.1) []) ++ listed_items (cond a.0 false first) (name_items hs.0)
unfolding joined
names_step done first a d hs gs e = rw e (go a.0)
  where
    go : (o : Bool) → done ++ listed_items first (name_items (cond o (a.1 ∷ hs.0) hs.0))
        ≡ (done ++ cond o (comma first ++ quoted a.1) []) ++ listed_items (cond o false first) (name_items hs.0)
    go true = one_more_lem done first a.1 hs.0
    go false = rw append-nil

none_of : (done : List ℕ) (first : Bool) (gs : Parts) → gs ≡ ([], no_fields) → done ++ listed_items first (name_items gs.0) ≡ done
unfolding name_items listed_items
none_of done first gs e = rw (e, append-nil)

module _ (s : List ℕ) (i place left : ℕ) (first : Bool) (before : List ℕ) (at : ℕ) (out : List ℕ) (p : ℕ) (c : NamesAt s i place left first before at out p) where
  pub names_over : left ≤ 0 → Says (told names_text (members_at (datainfo_in 3) 11 (drop i s))) before at out p
  names_over h = said (members_at (datainfo_in 3) 11 (drop i s)) λ m x e.
      let q = c.from e in
      rw (q.whole, none_of q.done first q.gs (fields_none (datainfo_in 3) 11 left (drop place s) h q.reads)) q.wrote

  module _ (h : 0 < left) (r : Option ℕ) (l : Ends s r (after_field (datainfo_in 3) 11 (drop place s))) where
    pub names_bad : r ≡ None → {after : List ℕ} {end : ℕ} → Says (told names_text (members_at (datainfo_in 3) 11 (drop i s))) before at after end
    names_bad z = said (members_at (datainfo_in 3) 11 (drop i s)) λ m x e.
        let q = c.from e in
        fields_some (datainfo_in 3) 11 left (drop place s) h q.reads λ a y d y' hs n j o w.
        absurd (never (sym (rw z at l) ∙ past_field (datainfo_in 3) 11 (drop place s) n j))

    names_more : (e : ℕ) → r ≡ Some e → (out1 : List ℕ) (p1 : ℕ) (then : Bool)
        → ((a : Bool × List ℕ) (y : List ℕ) → entry 11 (drop place s) ≡ Some (a, y) → Emits out p (cond a.0 (comma first ++ quoted a.1) []) out1 p1 × (then ≡ cond a.0 false first))
        → (n : ℕ) → n ≡ left - 1 → NamesAt s i e n then before at out1 p1
    names_more e z out1 p1 then w n y = rw y record {
      from = λ f. let q = c.from f in fields_some (datainfo_in 3) 11 left (drop place s) h q.reads λ a y d y' hs n j o w'. record {
        gs = hs;
        x = q.x;
        reads = rw (same_Some _ _ (sym (past_field (datainfo_in 3) 11 (drop place s) n j) ∙ (rw z at l).0)) at o;
        done = q.done ++ cond a.0 (comma first ++ quoted a.1) [];
        wrote = both q.wrote (w a y n).0;
        whole = q.whole ∙ rw ((w a y n).1) (names_step q.done first a d hs q.gs w');
      };
    }

    module _ (b : ℕ) (g : ByteAt s place b) (e : ℕ) (z : r ≡ Some e) (n : ℕ) (y : n ≡ left - 1) where
      pub names_put : b ≡ 1 → {mid after : List ℕ} {q end : ℕ} → Emits out p (comma first) mid q → (t : List ℕ) → t ≡ name_in 11 (drop place s)
          → Emits mid q (quoted t) after end → NamesAt s i e n false before at after end
      names_put o {mid} {after} {q} {end} x t v w =
          names_more e z after end false (λ a y f. (rw (flag_yes s place b g o f, ← (name_read 11 (drop place s) t v f)) (both x w), rw (flag_yes s place b g o f))) n y

      pub names_passed : (b ≡ 1 → ⊥) → p ≤ 18446744073709551615 → NamesAt s i e n first before at out p
      names_passed o w = names_more e z out p first (λ a y f. (rw (flag_no s place b g o f) (nothing out p w), rw (flag_no s place b g o f))) n y

-- ## Type 11 as a parameter's own

named_with : (x q i : List ℕ) → x ++ (125 ∷ []) ++ (q ++ (i ++ (93 ∷ []) ++ [])) ++ (125 ∷ []) ≡ x ++ (125 ∷ q) ++ i ++ (93 ∷ 125 ∷ [])
named_with x q i = simp append_assoc

own_is : (ns : List (List ℕ)) (fs : Fields)
    → own_text (partial ns fs) ≡ opening 11 ++ listed true (field_values fs) ++ bytes "},\"optional\":[" ++ compact_items (name_items ns) ++ bytes "]}"
unfolding own_text datainfo_value compact compact_members more_members quoted bytes opening
own_is ns fs = rw (listed_first (field_values fs)) (ap (λ (l : List ℕ). bytes "{\"type\":\"struct\",\"members\":{" ++ l) (named_with (compact_members (field_values fs)) (bytes ",\"optional\":[") (compact_items (name_items ns))))

partial_there : (f : List ℕ → Option (Datainfo × List ℕ)) (xs : List ℕ)
    → partial_at f xs ≡ (members_at f 11 xs >>= λ q. Some (partial q.0.0 q.0.1, q.1))
unfolding partial_at members_at
partial_there f xs = sym (then_then (unsigned 1 xs) (λ p. fields f 11 p.0 p.1) (λ q. Some (partial q.0.0 q.0.1, q.1)))

pub own_partial : (s : List ℕ) (i : ℕ) {d0 d1 d2 d3 d4 d5 : List ℕ} {p0 p1 p2 p3 p4 p5 : ℕ} → Emits d0 p0 (opening 11) d1 p1
    → Says (count_text (datainfo_in 3) 11 (drop i s)) d1 p1 d2 p2 → Emits d2 p2 (bytes "},\"optional\":[") d3 p3
    → Says (told names_text (members_at (datainfo_in 3) 11 (drop i s))) d3 p3 d4 p4 → Emits d4 p4 (bytes "]}") d5 p5
    → Says (told own_text (partial_at (datainfo_in 3) (drop i s))) d0 p0 d5 p5
unfolding names_text
own_partial s i {d0} {d1} {d2} {d3} {d4} {d5} {p0} {p1} {p2} {p3} {p4} {p5} x y z n w =
    rw (partial_there (datainfo_in 3) (drop i s)) (go (members_at (datainfo_in 3) 11 (drop i s)) (rw (count_members (datainfo_in 3) (drop i s)) at y) n)
  where
    go : (o : Option (Parts × List ℕ)) → Says (told (λ m. listed true (field_values m.1)) o) d1 p1 d2 p2 → Says (told names_text o) d3 p3 d4 p4
        → Says (told own_text (o >>= λ q. Some (partial q.0.0 q.0.1, q.1))) d0 p0 d5 p5
    go None y n = says_nothing refl
    go (Some q) y n = says_text refl (rw (own_is q.0.0 q.0.1) (both (both (both (both x (y.is refl)) z) (n.is refl)) w))

-- ## By the type byte

-- any other type is told in one way
other_own : (f : List ℕ → Option (Datainfo × List ℕ)) (k : ℕ) (xs : List ℕ) → eqb k 11 ≡ false → told own_text (typed f k xs) ≡ told datainfo_text (typed f k xs)
unfolding typed own_text datainfo_text datainfo_value
other_own f k xs h = rw h
    (when_cond P (eqb k 1) _ _ (when_double P refl (λ lo hi x. refl) xs)
    (when_cond P (eqb k 2) _ _ (when_int P refl (λ lo hi x. refl) xs)
    (when_cond P (eqb k 3) _ _ refl
    (when_cond P (eqb k 4) _ _ (when_enum P refl (λ vs x. refl) xs)
    (when_cond P (eqb k 5) _ _ (when_string P refl (λ lo hi x. refl) xs)
    (when_cond P (eqb k 6) _ _ (when_array P refl f (λ lo hi c x. refl) xs)
    (when_cond P (eqb k 7) _ _ (when_tuple P refl f (λ ds x. refl) xs)
    (when_cond P (eqb k 8) _ _ (struct (struct_at f xs) refl)
    (when_cond P (eqb k 9) _ _ (when_scaled P refl (λ s lo hi x. refl) xs)
    (when_cond P (eqb k 10) _ _ (when_blob P refl (λ lo hi x. refl) xs)
    refl))))))))))
  where
    P : Option (Datainfo × List ℕ) → Type 0
    P o = told own_text o ≡ told datainfo_text o

    struct : (o : Option (Datainfo × List ℕ)) → struct_at f xs ≡ o → P o
    struct None e = refl
    struct (Some q) e = struct_members f xs e λ m a o. rw o

module _ (s : List ℕ) (i : ℕ) (u : Option (ℕ × ℕ)) (k : ReadsValue s u (unsigned 1 (drop i s))) where
  pub own_short_lem : u ≡ None → {d h : List ℕ} {at r : ℕ} → Says (told own_text (datainfo_in 4 (drop i s))) d at h r
  unfolding datainfo_in
  own_short_lem z = says_nothing (rw (rw z at k))

  module _ (b inner : ℕ) (e : u ≡ Some (b, inner)) where
    typed_there : datainfo_in 4 (drop i s) ≡ typed (datainfo_in 3) b (drop inner s)
    unfolding datainfo_in
    typed_there = simp (rw e at k).0

    pub own_eleven : b ≡ 11 → {d h : List ℕ} {at r : ℕ} → Says (told own_text (partial_at (datainfo_in 3) (drop inner s))) d at h r
        → Says (told own_text (datainfo_in 4 (drop i s))) d at h r
    unfolding typed
    own_eleven z x = rw (typed_there, z) x

    pub own_other : (b ≡ 11 → ⊥) → {d h : List ℕ} {at r : ℕ} → Says (told datainfo_text (datainfo_in 4 (drop i s))) d at h r
        → Says (told own_text (datainfo_in 4 (drop i s))) d at h r
    own_other z x = rw (typed_there, other_own (datainfo_in 3) b (drop inner s) (ne_eqb b 11 z)) (rw typed_there at x)
