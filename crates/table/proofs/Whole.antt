-- Laws of what is asked of the whole table: counts (number 2), names (number 3), datainfos (number 4), initial values (number 5). Assumes nothing.
use Rattle.std.specs.Prelude.{Option, Some, None}
use Prim.Native.Nat.{ℕ, suc, ◌+◌, ◌-◌, ◌≤◌, ◌<◌}
use native.Mathlib.Omega.{arith}
use mathlib.Core.Path.{◌≡◌, refl, sym, ap, ◌∙◌}
use mathlib.Core.Bool.{Bool, true, false, cond, not, ◌&&◌, false≢true}
use mathlib.Core.List.{List, [], ◌∷◌, map}
use lib.ListN.{length, drop}
use lib.Dec.{leb, eqb}
use borrow.Author.Tests.{eqb-true, not-true, not-false, leb-true, leb-false, le-leb, lt-leb}
use Rattle.ascii.specs.Text.{bytes}
use Rattle.ascii.specs.Bytes.{◌>>=◌, is_some, after, all}
use Rattle.ascii.specs.Names.{is_text}
use Rattle.ascii.specs.Clauses.Reader.{Ends, rest}
use Rattle.datainfo.specs.Rules.{good_names, is_between}
use Rattle.table.specs.Table as Table
use Rattle.table.specs.Layout.{begins, module_at, modules_at, head_at, whole_table, read_table, Readable, or_empty, table_of}
use Rattle.table.specs.Rules.{accessible_name, accessible_count, counts_good, edition_good, names_good, datainfos_good, initials_good, first_fault}
use Rattle.table.specs.declared.layout.ModuleAt.{ModuleAt}
use Rattle.table.specs.declared.layout.HeadAt.{HeadAt}
use Rattle.table.specs.declared.judge.Test.TheVariants.{Names, Rules, Initials}
use Rattle.table.specs.declared.judge.Kind.TheVariants.{Modules, Accessibles}
use Rattle.table.specs.Clauses.At.{bytes_of, accessibles_from, heading_at, module_of, HeadingIs, modules_from, text_if, head_of, HeadRead}
use Rattle.table.specs.Clauses.Judged.{passed, module_passes, names_from, how_many, ModuleHas, MembersAre, few, number_below6}
use Rattle.table.proofs.Accessibles.{Got, got, in_some, rest_none}
use Rattle.table.proofs.Enough.{before, modules_stop, modules_more, module_less}
use Rattle.table.proofs.Modules.{with_them, module_as, module_is, table_none, table_from, less}

-- ## A table that was read

-- what was read of the table t, of whose head q has the positions
pub record Opened (s : List ℕ) (q : HeadAt) (t : Table.Table) : Type 0 where
  pub id : t.equipment_id ≡ bytes_of s q.id
  pub description : t.description ≡ bytes_of s q.description
  pub edition : t.edition ≡ text_if s q.edition
  pub head : head_at s ≡ Some (Table.with_modules t [], drop q.first s)
  pub left : List ℕ
  pub modules : modules_from s q.first ≡ Some (t.modules, left)
  pub end : after (bytes "EN") left ≡ Some []

pub never : {A : Type 0} {t : A} → None ≡ Some t → ⊥
never e = let z : ◌≡◌ {A = ℕ} 0 1 = cc in omega arith

-- bytes that can be read are their table
pub readable_whole : (s : List ℕ) → Readable s → whole_table s ≡ Some (table_of s)
unfolding read_table table_of or_empty
readable_whole s e = go (leb (length s) 16384) (whole_table s) e
  where
    go : (b : Bool) (o : Option Table.Table) → is_some (cond b o None) ≡ true → o ≡ Some (or_empty (cond b o None))
    go true None e = absurd (false≢true e)
    go true (Some t) e = refl
    go false o e = absurd (false≢true e)

module _ (s : List ℕ) (r : Option HeadAt) (h : HeadRead s r) (t : Table.Table) (w : whole_table s ≡ Some t) where
  pub unread : r ≡ None → ⊥
  unread e = never (sym (table_none s r h e) ∙ w)

  pub untold : (b : Bool) → r ≡ None → false ≡ b
  untold b e = absurd (unread e)

  module _ (q : HeadAt) (e : r ≡ Some q) where
    pub opened : Opened s q t
    unfolding bytes head_of
    opened = go (modules_from s q.first) refl (sym (table_from s r h q e) ∙ w)
      where
        none_left : (l : List ℕ) → eqb (length l) 0 ≡ true → l ≡ []
        none_left [] k = refl
        none_left (b ∷ l) k = let z = eqb-true (length (b ∷ l)) 0 k in absurd (omega arith)

        ends : (ms : List Table.Module) (x : List ℕ) → modules_from s q.first ≡ Some (ms, x) → (l : List ℕ) → after (69 ∷ 78 ∷ []) x ≡ Some l → (b : Bool) → eqb (length l) 0 ≡ b → cond b (Some (Table.with_modules (head_of s q) ms)) None ≡ Some t → Opened s q t
        ends ms x g l a false k z = absurd (never z)
        ends ms x g l a true k z =
            let y = in_some z in
            record {
              id = sym (ap (λ (u : Table.Table). u.equipment_id) y);
              description = sym (ap (λ (u : Table.Table). u.description) y);
              edition = sym (ap (λ (u : Table.Table). u.edition) y);
              head = (rw e at h).is ∙ ap (λ (u : Table.Table). Some (Table.with_modules u [], drop q.first s)) y;
              left = x;
              modules = rw (← y) g;
              end = a ∙ ap Some (none_left l k);
            }

        marked : (ms : List Table.Module) (x : List ℕ) → modules_from s q.first ≡ Some (ms, x) → (o : Option (List ℕ)) → after (69 ∷ 78 ∷ []) x ≡ o → (o >>= λ l. cond (eqb (length l) 0) (Some (Table.with_modules (head_of s q) ms)) None) ≡ Some t → Opened s q t
        marked ms x g None a z = absurd (never z)
        marked ms x g (Some l) a z = ends ms x g l a (eqb (length l) 0) refl z

        go : (o : Option (List Table.Module × List ℕ)) → modules_from s q.first ≡ o → (o >>= λ m. after (69 ∷ 78 ∷ []) m.1 >>= λ l. cond (eqb (length l) 0) (Some (Table.with_modules (head_of s q) m.0)) None) ≡ Some t → Opened s q t
        go None g z = absurd (never z)
        go (Some m) g z = marked m.0 m.1 g (after (69 ∷ 78 ∷ []) m.1) refl z

-- ## Names and datainfos

module _ (s : List ℕ) (r : Option HeadAt) (h : HeadRead s r) (t : Table.Table) (w : whole_table s ≡ Some t) (q : HeadAt) (er : r ≡ Some q) where
  x : Opened s q t
  x = opened s r h t w q er

  module _ (v : Bool) (hv : v ≡ (is_text (bytes_of s q.id) && is_text (bytes_of s q.description) && edition_good (text_if s q.edition) && passed good_names (names_from Modules s q.first))) where
    texts : v ≡ (is_text t.equipment_id && is_text t.description && edition_good t.edition && good_names (map (λ (m : Table.Module). m.name) t.modules))
    unfolding names_from
    texts = hv ∙ rw (x.id, x.description, x.edition, x.modules)

    pub names_bad : v ≡ false → v ≡ names_good t
    unfolding names_good
    names_bad e = e ∙ rw (← texts, e)

    pub names_all : (d : Bool) → v ≡ true → d ≡ passed (all (module_passes Names)) (modules_from s q.first) → d ≡ names_good t
    unfolding names_good module_passes
    names_all d e hd = rw (← texts, e) (hd ∙ rw x.modules)

  pub datainfos_all : (d : Bool) → d ≡ passed (all (module_passes Rules)) (modules_from s q.first) → d ≡ datainfos_good t
  unfolding datainfos_good module_passes
  datainfos_all d hd = hd ∙ rw x.modules

  pub initials_all : (d : Bool) → d ≡ passed (all (module_passes Initials)) (modules_from s q.first) → d ≡ initials_good t
  unfolding initials_good module_passes
  initials_all d hd = hd ∙ rw x.modules

-- ## Counts

length-map : {A B : Type 0} (f : A → B) (xs : List A) → length (map f xs) ≡ length xs
length-map f [] = refl
length-map f (y ∷ xs) = ap suc (length-map f xs)

module _ (s : List ℕ) (at : ℕ) (h : Option ModuleAt) (hh : HeadingIs s h (heading_at (drop at s))) where
  pub members_headless : h ≡ None → module_at (length s) (drop at s) ≡ None
  members_headless e = simp (module_as, rw e at hh)

  module _ (m : ModuleAt) (eh : h ≡ Some m) (r : Option ℕ) (hr : Ends s r (rest (accessibles_from s m.next))) where
    pub members_endless : r ≡ None → module_at (length s) (drop at s) ≡ None
    members_endless e = module_is s at h hh m eh ∙ rest_none (accessibles_from s m.next) (λ q. Some (with_them (module_of s m) q)) (rw e at hr)

    members_from : (j n : ℕ) → j ≤ length s → Got (accessibles_from s m.next) (drop j s) → n ≡ how_many 0 (names_from Accessibles s m.next) → ModuleHas s n j (module_at (length s) (drop at s))
    unfolding names_from
    members_from j n w g hn =
        let k : n ≡ 0 + length (map accessible_name g.it) = hn ∙ rw g.is in
        let l = length-map accessible_name g.it in
        record { it = (with_them (module_of s m) (g.it, drop j s)).0; is = module_is s at h hh m eh ∙ rw g.is; many = omega arith; within = w }

    pub members_are : (j n : ℕ) → r ≡ Some j → n ≡ how_many 0 (names_from Accessibles s m.next) → ModuleHas s n j (module_at (length s) (drop at s))
    members_are j n e hn = members_from j n (rw e at hr).1 (got (accessibles_from s m.next) (drop j s) (rw e at hr).0) hn

few_more : (n x left : ℕ) → n ≤ left → leb (n + x) left ≡ leb x (left - n)
few_more n x left h = go (leb x (left - n)) refl
  where
    go : (b : Bool) → leb x (left - n) ≡ b → leb (n + x) left ≡ b
    go true e = let g = leb-true x (left - n) e in le-leb (n + x) left (omega arith)
    go false e = let g = leb-false x (left - n) e in lt-leb (n + x) left (omega arith)

-- the modules from position i on, of which r is the first
module _ (s : List ℕ) (i : ℕ) (b : Bool) (hb : b ≡ begins (bytes "MO") (drop i s)) where
  pub few_last : (o : Bool) (left : ℕ) → o ≡ passed (few left) (modules_from s i) → b ≡ false → true ≡ o
  unfolding few accessible_count
  few_last o left e z = sym (e ∙ ap (passed (few left)) (modules_stop s i (sym hb ∙ z)) ∙ le-leb 0 left (omega arith))

  module _ (z : b ≡ true) (r : Option (ℕ × ℕ)) (h : MembersAre s r (module_at (length s) (drop i s))) where
    module _ (n j : ℕ) (y : r ≡ Some (n, j)) where
      pub members_within : j ≤ length s
      members_within = (rw y at h).within

      pub members_less : length s - j < length s - i
      members_less = less s i j (module_less s i (drop j s) (sym hb ∙ z) (ap rest (rw y at h).is))

    module _ (o : Bool) (left : ℕ) (e : o ≡ passed (few left) (modules_from s i)) where
      more : o ≡ passed (few left) (module_at (length s) (drop i s) >>= λ p. before p.0 (modules_at (length s) (length p.1) p.1))
      more = e ∙ ap (passed (few left)) (modules_more s i (sym hb ∙ z))

      pub few_bad : r ≡ None → false ≡ o
      few_bad y = sym (more ∙ rw (rw y at h))

      module _ (n j : ℕ) (y : r ≡ Some (n, j)) where
        counted : o ≡ passed (λ ms. leb (n + accessible_count ms) left) (modules_from s j)
        unfolding few accessible_count
        counted = let x = rw y at h in more ∙ rw x.is (go x.it x.many (modules_from s j))
          where
            go : (m : Table.Module) → n ≡ length m.accessibles → (l : Option (List Table.Module × List ℕ)) → passed (few left) (before m l) ≡ passed (λ ms. leb (n + accessible_count ms) left) l
            go m k None = refl
            go m k (Some l) = rw k

        pub few_over : left < n → false ≡ o
        few_over l = sym (counted ∙ go (modules_from s j))
          where
            go : (k : Option (List Table.Module × List ℕ)) → passed (λ ms. leb (n + accessible_count ms) left) k ≡ false
            go None = refl
            go (Some k) = lt-leb (n + accessible_count k.0) left (omega arith)

        pub few_next : n ≤ left → o ≡ passed (few (left - n)) (modules_from s j)
        unfolding few
        few_next l = counted ∙ go (modules_from s j)
          where
            go : (k : Option (List Table.Module × List ℕ)) → passed (λ ms. leb (n + accessible_count ms) left) k ≡ passed (few (left - n)) k
            go None = refl
            go (Some k) = few_more n (accessible_count k.0) left l

module _ (s : List ℕ) (r : Option HeadAt) (h : HeadRead s r) (t : Table.Table) (w : whole_table s ≡ Some t) (q : HeadAt) (er : r ≡ Some q) (n : ℕ) (hn : n ≡ how_many 0 (names_from Modules s q.first)) where
  y : Opened s q t
  y = opened s r h t w q er

  pub modules_many : n ≡ length t.modules
  unfolding names_from
  modules_many =
      let k : n ≡ 0 + length (map (λ (m : Table.Module). m.name) t.modules) = hn ∙ rw y.modules in
      let l = length-map (λ (m : Table.Module). m.name) t.modules in
      omega arith

  module _ (v : Bool) (hv : v ≡ (leb 1 n && leb n 16)) where
    pub counts_bad : v ≡ false → v ≡ counts_good t
    unfolding counts_good is_between
    counts_bad e = e ∙ rw (← modules_many, ← hv, e)

    pub counts_all : (d : Bool) → v ≡ true → d ≡ passed (few 64) (modules_from s q.first) → d ≡ counts_good t
    unfolding counts_good is_between few
    counts_all d e hd = rw (← modules_many, ← hv, e) (hd ∙ rw y.modules)

-- ## The number

pub number_unread : (s : List ℕ) (b : Bool) → b ≡ is_some (read_table s) → not b ≡ true → 1 ≡ number_below6 (read_table s)
unfolding number_below6
number_unread s b h n = go (read_table s) (sym h ∙ not-true b n)
  where
    go : (o : Option Table.Table) → is_some o ≡ false → 1 ≡ number_below6 o
    go None e = refl
    go (Some t) e = absurd (false≢true (sym e))

record Told (o : Option Table.Table) : Type 0 where
  it : Table.Table
  is : o ≡ Some it

-- a table that can be read, of which each test says what it should
module _ (s : List ℕ) (b : Bool) (h : b ≡ is_some (read_table s)) (n : not b ≡ false) where
  is_read : Told (read_table s)
  is_read = go (read_table s) (sym h ∙ not-false b n)
    where
      go : (o : Option Table.Table) → is_some o ≡ true → Told o
      go None e = absurd (false≢true e)
      go (Some t) e = record { it = t; is = refl }

  whole : (t : Table.Table) → read_table s ≡ Some t → whole_table s ≡ Some t
  unfolding read_table
  whole t = go (leb (length s) 16384)
    where
      go : (c : Bool) → cond c (whole_table s) None ≡ Some t → whole_table s ≡ Some t
      go true e = e
      go false e = absurd (never e)

  module _ (c : Bool) (hc : (t : Table.Table) → whole_table s ≡ Some t → c ≡ counts_good t) where
    pub number_2 : not c ≡ true → 2 ≡ number_below6 (read_table s)
    unfolding number_below6 first_fault
    number_2 k = let g = is_read in rw (g.is, ← (hc g.it (whole g.it g.is)), not-true c k)

    module _ (nc : not c ≡ false) (d : Bool) (hd : (t : Table.Table) → whole_table s ≡ Some t → d ≡ names_good t) where
      pub number_3 : not d ≡ true → 3 ≡ number_below6 (read_table s)
      unfolding number_below6 first_fault
      number_3 k = let g = is_read in let w = whole g.it g.is in rw (g.is, ← (hc g.it w), not-false c nc, ← (hd g.it w), not-true d k)

      module _ (nd : not d ≡ false) (e : Bool) (he : (t : Table.Table) → whole_table s ≡ Some t → e ≡ datainfos_good t) where
        pub number_4 : not e ≡ true → 4 ≡ number_below6 (read_table s)
        unfolding number_below6 first_fault
        number_4 k = let g = is_read in let w = whole g.it g.is in rw (g.is, ← (hc g.it w), not-false c nc, ← (hd g.it w), not-false d nd, ← (he g.it w), not-true e k)

        module _ (ne : not e ≡ false) (f : Bool) (hf : (t : Table.Table) → whole_table s ≡ Some t → f ≡ initials_good t) where
          pub number_5 : not f ≡ true → 5 ≡ number_below6 (read_table s)
          unfolding number_below6 first_fault
          number_5 k = let g = is_read in let w = whole g.it g.is in rw (g.is, ← (hc g.it w), not-false c nc, ← (hd g.it w), not-false d nd, ← (he g.it w), not-false e ne, ← (hf g.it w), not-true f k)

          pub number_0 : not f ≡ false → 0 ≡ number_below6 (read_table s)
          unfolding number_below6 first_fault
          number_0 k = let g = is_read in let w = whole g.it g.is in rw (g.is, ← (hc g.it w), not-false c nc, ← (hd g.it w), not-false d nd, ← (he g.it w), not-false e ne, ← (hf g.it w), not-false f k)
