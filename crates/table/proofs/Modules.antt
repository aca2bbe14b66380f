-- Laws of modules and of the whole table, one for each way through a function that reads them. Assumes nothing.
use Rattle.std.specs.Prelude.{Option, Some, None}
use Prim.Native.Nat.{ℕ, ◌-◌, ◌≤◌, ◌<◌}
use native.Mathlib.Omega.{arith}
use mathlib.Core.Path.{◌≡◌, refl, sym, ap, ◌∙◌}
use mathlib.Core.Bool.{Bool, true, false, cond}
use mathlib.Core.List.{List, [], ◌∷◌}
use lib.ListN.{length, drop, length-drop}
use lib.Dec.{eqb}
use borrow.Author.Tests.{le-leb, lt-leb, eq-eqb, ne_eqb, eqb-true, eqb-false}
use Rattle.ascii.specs.Text.{bytes}
use Rattle.ascii.specs.Bytes.{◌>>=◌, is_some, after}
use Rattle.ascii.specs.Clauses.Reader.{Ends, rest}
use Rattle.ascii.proofs.Follows.{rest_map}
use Rattle.table.specs.Table as Table
use Rattle.table.specs.Layout.{begins, accessibles_at, marked_at, note_at, module_at, modules_at, head_at, whole_table, read_table}
use Rattle.table.specs.declared.layout.Part.{Part}
use Rattle.table.specs.declared.layout.ModuleAt.{ModuleAt}
use Rattle.table.specs.declared.layout.HeadAt.{HeadAt}
use Rattle.table.specs.Clauses.At.{Sized, texts_at, TextsAt, accessible_begins, accessible_at, accessibles_from, MarkedRead, MarkedIs, heading_at, module_of, ModuleIs, HeadingIs, modules_from, head_of, HeadIs, HeadRead}
use Rattle.table.proofs.Records.{text_bad, text_is, text_inside}
use Rattle.table.proofs.Accessibles.{goes_on, texts_then, rest_none, Got, got}
use Rattle.table.proofs.Enough.{before, accessibles_stop, accessibles_more, accessible_less, modules_stop, modules_more, module_less}

-- ## A text after a mark

module _ (s mark : List ℕ) (at : ℕ) (n : Option ℕ) (hn : Ends s n (after mark (drop at s))) where
  pub marked_absent : at ≤ length s → n ≡ None → MarkedRead s mark at None at
  unfolding marked_at begins
  marked_absent h e = record { is = simp (rw e at hn); inside = tt; within = h; end = refl }

  module _ (a : ℕ) (en : n ≡ Some a) (r : Option Part) (h : Sized s a 1 r) where
    pub marked_bad : r ≡ None → marked_at mark (drop at s) ≡ None
    unfolding marked_at begins
    marked_bad e = simp ((rw en at hn).0, text_bad s a r h e)

    pub marked_good : (p : Part) → r ≡ Some p → MarkedRead s mark at (Some p) p.to
    unfolding marked_at begins
    marked_good p e = record {
      is = simp ((rw en at hn).0, text_is s a r h p e);
      inside = text_inside s a r h p e;
      within = (text_inside s a r h p e).within;
      end = refl;
    }

-- ## The beginning of a module

module _ (s : List ℕ) (at : ℕ) (t : Option (Part × Part)) (ht : TextsAt s t (texts_at (77 ∷ 79 ∷ []) (drop at s))) where
  pub heading_untold : t ≡ None → heading_at (drop at s) ≡ None
  unfolding heading_at bytes
  heading_untold e = simp (rw e at ht)

  module _ (p q : Part) (et : t ≡ Some (p, q)) (n : Option (Option Part × ℕ)) (hn : MarkedIs s (78 ∷ 79 ∷ []) q.to n) where
    pub heading_read : (x : Option Part) (j : ℕ) → n ≡ Some (x, j)
        → ModuleIs s (record { name = p; description = q; note = x; next = j }) (heading_at (drop at s))
    unfolding heading_at bytes module_of
    heading_read x j e =
        let y = rw et at ht in
        let g = rw e at hn in
        record {
          is = simp (y.is, g.is);
          name = y.name;
          description = y.description;
          note = g.inside;
          next_within = g.within;
          between = y.between;
          note_read = g.is;
          note_end = g.end;
        }

    pub heading_bad : n ≡ None → heading_at (drop at s) ≡ None
    unfolding heading_at bytes
    heading_bad e = simp ((rw et at ht).is, rw e at hn)

-- ## A module with its accessibles

abbrev pub with_accessibles : Table.Module → List Table.Accessible → Table.Module
with_accessibles m xs = record { name = m.name; description = m.description; note = m.note; accessibles = xs }

abbrev pub with_them : Table.Module → List Table.Accessible × List ℕ → Table.Module × List ℕ
with_them m q = (with_accessibles m q.0, q.1)

-- what follows a module's beginning
abbrev pub members : ℕ → Table.Module × List ℕ → Option (Table.Module × List ℕ)
members n h = accessibles_at n (length h.1) h.1 >>= λ q. Some (with_them h.0 q)

pub module_as : (n : ℕ) (xs : List ℕ) → module_at n xs ≡ (heading_at xs >>= members n)
unfolding module_at heading_at
module_as n xs =
    texts_then (λ name text c. note_at c >>= λ d. accessibles_at n (length d.1) d.1 >>= λ e. Some (record { name = name; description = text; note = d.0; accessibles = e.0 }, e.1)) (bytes "MO") xs
    ∙ go (texts_at (bytes "MO") xs)
  where
    noted : (name text : List ℕ) (o : Option (Option (List ℕ) × List ℕ)) → (o >>= λ d. accessibles_at n (length d.1) d.1 >>= λ e. Some (record { name = name; description = text; note = d.0; accessibles = e.0 }, e.1)) ≡ ((o >>= λ d. Some (record { name = name; description = text; note = d.0; accessibles = [] }, d.1)) >>= members n)
    noted name text None = refl
    noted name text (Some d) = refl

    go : (o : Option ((List ℕ × List ℕ) × List ℕ)) → (o >>= goes_on (λ name text c. note_at c >>= λ d. accessibles_at n (length d.1) d.1 >>= λ e. Some (record { name = name; description = text; note = d.0; accessibles = e.0 }, e.1))) ≡ ((o >>= λ t. note_at t.1 >>= λ d. Some (record { name = t.0.0; description = t.0.1; note = d.0; accessibles = [] }, d.1)) >>= members n)
    go None = refl
    go (Some t) = noted t.0.0 t.0.1 (note_at t.1)

module _ (s : List ℕ) (at : ℕ) (h : Option ModuleAt) (hh : HeadingIs s h (heading_at (drop at s))) where
  pub module_bad : h ≡ None → rest (module_at (length s) (drop at s)) ≡ None
  module_bad e = simp (module_as, rw e at hh)

  module _ (m : ModuleAt) (eh : h ≡ Some m) where
    pub module_is : module_at (length s) (drop at s) ≡ members (length s) (module_of s m, drop m.next s)
    module_is = module_as _ _ ∙ rw (rw eh at hh).is

    pub module_ends : (r : Option ℕ) → Ends s r (rest (accessibles_from s m.next)) → Ends s r (rest (module_at (length s) (drop at s)))
    module_ends r k = rw (module_is, rest_map (accessibles_from s m.next) (λ q. with_accessibles (module_of s m) q.0)) k

-- ## As many as follow

module _ {A : Type 0} (f : List ℕ → Option (List A × List ℕ)) (o : Option (A × List ℕ)) where
  goes_on_lem : (r : List ℕ) → rest o ≡ Some r → rest (o >>= λ p. before p.0 (f p.1)) ≡ rest (f r)
  goes_on_lem r e = let g = got o r e in rw g.is (rest_map (f r) (λ q. g.it ∷ q.0))

  stops : rest o ≡ None → rest (o >>= λ p. before p.0 (f p.1)) ≡ None
  stops e = ap rest (rest_none o (λ p. before p.0 (f p.1)) e)

pub less : (s : List ℕ) (i j : ℕ) → length (drop j s) < length (drop i s) → length s - j < length s - i
less s i j h = simp length-drop at h

module _ (s : List ℕ) (i : ℕ) (b : Bool) (r : Option ℕ) (j : ℕ) (x : r ≡ Some j) where
  pub accessibles_less : b ≡ accessible_begins (drop i s) → b ≡ true → Ends s r (rest (accessible_at (length s) (drop i s))) → length s - j < length s - i
  accessibles_less hb z hr = less s i j (accessible_less s i (drop j s) (sym hb ∙ z) (rw x at hr).0)

  pub modules_less : b ≡ begins (bytes "MO") (drop i s) → b ≡ true → Ends s r (rest (module_at (length s) (drop i s))) → length s - j < length s - i
  modules_less hb z hr = less s i j (module_less s i (drop j s) (sym hb ∙ z) (rw x at hr).0)

-- accessibles o, from position i on
module _ (s : List ℕ) (o : Option (List ℕ)) (i : ℕ) (e : o ≡ rest (accessibles_from s i)) (b : Bool) (hb : b ≡ accessible_begins (drop i s)) where
  pub accessibles_last : b ≡ false → i ≤ length s → Ends s (Some i) o
  accessibles_last z w = (e ∙ ap rest (accessibles_stop s i (sym hb ∙ z)), w)

  module _ (z : b ≡ true) (r : Option ℕ) (hr : Ends s r (rest (accessible_at (length s) (drop i s)))) where
    pub accessibles_bad : r ≡ None → o ≡ None
    accessibles_bad x = e ∙ ap rest (accessibles_more s i (sym hb ∙ z)) ∙ stops (λ xs. accessibles_at (length s) (length xs) xs) (accessible_at (length s) (drop i s)) (rw x at hr)

    pub accessibles_next : (j : ℕ) → r ≡ Some j → o ≡ rest (accessibles_from s j)
    accessibles_next j x = e ∙ ap rest (accessibles_more s i (sym hb ∙ z)) ∙ goes_on_lem (λ xs. accessibles_at (length s) (length xs) xs) (accessible_at (length s) (drop i s)) (drop j s) (rw x at hr).0

-- modules o, from position i on
module _ (s : List ℕ) (o : Option (List ℕ)) (i : ℕ) (e : o ≡ rest (modules_from s i)) (b : Bool) (hb : b ≡ begins (bytes "MO") (drop i s)) where
  pub modules_last : b ≡ false → i ≤ length s → Ends s (Some i) o
  modules_last z w = (e ∙ ap rest (modules_stop s i (sym hb ∙ z)), w)

  module _ (z : b ≡ true) (r : Option ℕ) (hr : Ends s r (rest (module_at (length s) (drop i s)))) where
    pub modules_bad : r ≡ None → o ≡ None
    modules_bad x = e ∙ ap rest (modules_more s i (sym hb ∙ z)) ∙ stops (λ xs. modules_at (length s) (length xs) xs) (module_at (length s) (drop i s)) (rw x at hr)

    pub modules_next : (j : ℕ) → r ≡ Some j → o ≡ rest (modules_from s j)
    modules_next j x = e ∙ ap rest (modules_more s i (sym hb ∙ z)) ∙ goes_on_lem (λ xs. modules_at (length s) (length xs) xs) (module_at (length s) (drop i s)) (drop j s) (rw x at hr).0

pub module_begins : (s : List ℕ) (at : ℕ) (b : Bool) → b ≡ begins (77 ∷ 79 ∷ []) (drop at s) → b ≡ begins (bytes "MO") (drop at s)
unfolding bytes
module_begins s at b h = h

-- ## The head of the table

module _ (s : List ℕ) (t : Option (Part × Part)) (ht : TextsAt s t (texts_at (78 ∷ 68 ∷ []) (drop 0 s))) where
  -- what the two texts are the head of
  abbrev headed : List ℕ → List ℕ → List ℕ → Option (Table.Table × List ℕ)
  headed id text c = marked_at (69 ∷ 68 ∷ []) c >>= λ d. Some (record { equipment_id = id; description = text; edition = d.0; modules = [] }, d.1)

  head_as : head_at s ≡ (texts_at (78 ∷ 68 ∷ []) (drop 0 s) >>= goes_on headed)
  unfolding head_at bytes
  head_as = texts_then headed (78 ∷ 68 ∷ []) s

  pub head_bad : t ≡ None → head_at s ≡ None
  head_bad e = head_as ∙ rw (rw e at ht)

  module _ (p q : Part) (e : t ≡ Some (p, q)) (n : Option (Option Part × ℕ)) (hn : MarkedIs s (69 ∷ 68 ∷ []) q.to n) where
    pub head_read : (x : Option Part) (j : ℕ) → n ≡ Some (x, j)
        → HeadIs s (record { id = p; description = q; edition = x; first = j })
    unfolding head_of
    head_read x j z =
        let y = rw e at ht in
        let g = rw z at hn in
        record {
          is = head_as ∙ rw (y.is, g.is);
          id = y.name;
          description = y.description;
          edition = g.inside;
          within = g.within;
        }

    pub head_unedited : n ≡ None → head_at s ≡ None
    head_unedited z = head_as ∙ rw ((rw e at ht).is, rw z at hn)

module _ (s : List ℕ) (r : Option HeadAt) (h : HeadRead s r) (q : HeadAt) (e : r ≡ Some q) where
  pub head_within : q.first ≤ length s
  head_within = (rw e at h).within

-- ## The whole table

-- what follows the head
abbrev pub after_head : ℕ → Table.Table × List ℕ → Option Table.Table
after_head n h =
    modules_at n (length h.1) h.1 >>= λ m. after (69 ∷ 78 ∷ []) m.1 >>= λ e.
    cond (eqb (length e) 0) (Some (Table.with_modules h.0 m.0)) None

pub table_as : (s : List ℕ) → whole_table s ≡ (head_at s >>= after_head (length s))
unfolding whole_table bytes
table_as s = refl

-- the table s, of whose head the answer is r
module _ (s : List ℕ) (r : Option HeadAt) (h : HeadRead s r) where
  pub table_none : r ≡ None → whole_table s ≡ None
  table_none e = table_as s ∙ rw (rw e at h)

  pub table_from : (q : HeadAt) → r ≡ Some q → whole_table s ≡ after_head (length s) (head_of s q, drop q.first s)
  table_from q e = table_as s ∙ rw (rw e at h).is

pub readable_long : (s : List ℕ) → 16384 < length s → false ≡ is_some (read_table s)
unfolding read_table
readable_long s h = simp (lt-leb _ _ h)

module _ (s : List ℕ) (short : length s ≤ 16384) (r : Option HeadAt) (h : HeadRead s r) where
  whole : read_table s ≡ whole_table s
  unfolding read_table
  whole = simp (le-leb _ _ short)

  pub readable_headless : r ≡ None → false ≡ is_some (read_table s)
  readable_headless e = simp (whole, table_none s r h e)

  module _ (q : HeadAt) (eh : r ≡ Some q) (m : Option ℕ) (hm : Ends s m (rest (modules_from s q.first))) where
    pub readable_unmodelled : m ≡ None → false ≡ is_some (read_table s)
    readable_unmodelled e = simp (whole, table_from s r h q eh) (ap is_some (sym (rest_none (modules_from s q.first) _ (rw e at hm))))

    module _ (l : ℕ) (em : m ≡ Some l) (n : Option ℕ) (hn : Ends s n (after (69 ∷ 78 ∷ []) (drop l s))) where
      ended : (g : Got (modules_from s q.first) (drop l s)) → whole_table s ≡ (after (69 ∷ 78 ∷ []) (drop l s) >>= λ e. cond (eqb (length e) 0) (Some (Table.with_modules (head_of s q) g.it)) None)
      ended g = table_from s r h q eh ∙ rw g.is

      read : Got (modules_from s q.first) (drop l s)
      read = got (modules_from s q.first) (drop l s) (rw em at hm).0

      pub readable_endless : n ≡ None → false ≡ is_some (read_table s)
      readable_endless e = simp (whole, ended read, rw e at hn)

      pub readable_end : (k : ℕ) → n ≡ Some k → eqb k (length s) ≡ is_some (read_table s)
      readable_end k e = simp (whole, ended read, (rw e at hn).0, length-drop) (go _ (eqb k (length s)) refl)
        where
          go : (x : Table.Table) (b : Bool) → eqb k (length s) ≡ b → b ≡ is_some (cond (eqb (length s - k) 0) (Some x) None)
          go x true z = let y = eqb-true k (length s) z in rw (eq-eqb (length s - k) 0 (omega arith))
          go x false z =
              let y = eqb-false k (length s) z in
              let w = (rw e at hn).1 in
              rw (ne_eqb (length s - k) 0 (λ v. y (omega arith)))
