-- Laws of values, one for each way through a function. Assumes nothing.
use Rattle.std.specs.Prelude.{Option, Some, None}
use Prim.Native.Nat.{ℕ, ◌+◌, ◌-◌, ◌≤◌, ◌<◌}
use native.Mathlib.Omega.{arith}
use mathlib.Core.Path.{◌≡◌, sym, ◌∙◌}
use mathlib.Core.List.{List, [], ◌∷◌}
use lib.ListN.{length, drop, length-drop}
use Rattle.ascii.specs.Text.{bytes}
use Rattle.ascii.specs.Bytes.{after}
use Rattle.ascii.specs.Clauses.Reader.{ByteAt, Left, Ends, rest}
use Rattle.json_text.specs.Json.{skip, string_end, scalar, items, array_end, key, members, object_end, bare, value}
use Rattle.decimal.specs.Token.{number}
use Rattle.ascii.proofs.Bytes.{tail_drop, is_byte, no_byte}
use Rattle.json_text.proofs.Rest.{rest_giving, spaced_rest, items_rest, array_rest, members_rest, object_rest, bare_rest}

-- ## Scalars

module _ {s : List ℕ} {at b : ℕ} (x : ByteAt s at b) (r : Option ℕ) where
  pub scalar_string : b ≡ 34 → Ends s r (string_end (drop (at + 1) s)) → Ends s r (rest (scalar (drop at s)))
  unfolding scalar bytes
  scalar_string h k = simp (is_byte x h, tail_drop, rest_giving) k

  pub scalar_null : b ≡ 110 → Ends s r (after (110 ∷ 117 ∷ 108 ∷ 108 ∷ []) (drop at s)) → Ends s r (rest (scalar (drop at s)))
  unfolding scalar bytes
  scalar_null h k = simp (sym x.is ∙ h, rest_giving) k

  pub scalar_true : b ≡ 116 → Ends s r (after (116 ∷ 114 ∷ 117 ∷ 101 ∷ []) (drop at s)) → Ends s r (rest (scalar (drop at s)))
  unfolding scalar bytes
  scalar_true h k = simp (sym x.is ∙ h, rest_giving) k

  pub scalar_false : b ≡ 102 → Ends s r (after (102 ∷ 97 ∷ 108 ∷ 115 ∷ 101 ∷ []) (drop at s)) → Ends s r (rest (scalar (drop at s)))
  unfolding scalar bytes
  scalar_false h k = simp (sym x.is ∙ h, rest_giving) k

  pub scalar_number :
      (b ≡ 34 → ⊥) → (b ≡ 110 → ⊥) → (b ≡ 116 → ⊥) → (b ≡ 102 → ⊥) → Ends s r (number (drop at s)) → Ends s r (rest (scalar (drop at s)))
  unfolding scalar bytes
  scalar_number n1 n2 n3 n4 k = simp (no_byte x n1, no_byte x n2, no_byte x n3, no_byte x n4, rest_giving) k

-- ## Arrays

module _ (s : List ℕ) (at d p b : ℕ) (l : Left s p (skip (drop at s))) (x : ByteAt s p b) where
  pub array_empty : b ≡ 93 → Ends s (Some (p + 1)) (rest (array_end (value d) (drop at s)))
  array_empty h = (simp (array_rest, l.is, is_byte x h, tail_drop), omega arith)

  pub array_start : (b ≡ 93 → ⊥) → rest (array_end (value d) (drop at s)) ≡ rest (items (value d) (length s - at) (drop at s))
  array_start h = simp (array_rest, l.is, no_byte x h, length-drop)

  pub object_empty : b ≡ 125 → Ends s (Some (p + 1)) (rest (object_end (value d) (drop at s)))
  object_empty h = (simp (object_rest, l.is, is_byte x h, tail_drop), omega arith)

  pub object_start : (b ≡ 125 → ⊥) → rest (object_end (value d) (drop at s)) ≡ rest (members (value d) (length s - at) (drop at s))
  object_start h = simp (object_rest, l.is, no_byte x h, length-drop)

-- items o of which at most n are to come, from position i on
module _ (s : List ℕ) (o : Option (List ℕ)) (d n i : ℕ) (e : o ≡ rest (items (value d) n (drop i s))) where
  pub items_none : n ≤ 0 → o ≡ None
  unfolding items
  items_none h = e ∙ (let z : n ≡ 0 = omega arith in rw z)

  module _ (h : 0 < n) (r : Option ℕ) (k : Ends s r (rest (value d (drop i s)))) where
    pub items_bad : r ≡ None → o ≡ None
    items_bad z = e ∙ simp (items_rest (value d) n (drop i s) h, rw z at k)

    module _ (j : ℕ) (z : r ≡ Some j) (b : ℕ) (x : ByteAt s j b) where
      pub items_end : b ≡ 93 → Ends s (Some (j + 1)) o
      items_end q = (e ∙ simp (items_rest (value d) n (drop i s) h, (rw z at k).0, is_byte x q, tail_drop), omega arith)

      module _ (q : b ≡ 93 → ⊥) where
        pub items_other : (b ≡ 44 → ⊥) → o ≡ None
        items_other g = e ∙ simp (items_rest (value d) n (drop i s) h, (rw z at k).0, no_byte x q, no_byte x g)

        pub items_more : (m : ℕ) → m ≡ n - 1 → b ≡ 44 → o ≡ rest (items (value d) m (drop (j + 1) s))
        items_more m y g = rw y (e ∙ simp (items_rest (value d) n (drop i s) h, (rw z at k).0, no_byte x q, is_byte x g, tail_drop))

-- ## Objects

module _ (s : List ℕ) (at i b : ℕ) (l : Left s i (skip (drop at s))) (x : ByteAt s i b) where
  pub key_unquoted : (b ≡ 34 → ⊥) → rest (key (drop at s)) ≡ None
  unfolding key
  key_unquoted h = simp (l.is, no_byte x h)

  module _ (h : b ≡ 34) (r : Option ℕ) (k : Ends s r (string_end (drop (i + 1) s))) where
    pub key_bad : r ≡ None → rest (key (drop at s)) ≡ None
    unfolding key
    key_bad z = simp (l.is, is_byte x h, tail_drop, rw z at k)

    module _ (j p a : ℕ) (z : r ≡ Some j) (m : Left s p (skip (drop j s))) (y : ByteAt s p a) where
      pub key_alone : (a ≡ 58 → ⊥) → rest (key (drop at s)) ≡ None
      unfolding key
      key_alone g = simp (l.is, is_byte x h, tail_drop, (rw z at k).0, m.is, no_byte y g)

      pub key_end : a ≡ 58 → Ends s (Some (p + 1)) (rest (key (drop at s)))
      unfolding key
      key_end g = (simp (l.is, is_byte x h, tail_drop, (rw z at k).0, m.is, is_byte y g), omega arith)

-- members o of which at most n are to come, from position i on
module _ (s : List ℕ) (o : Option (List ℕ)) (d n i : ℕ) (e : o ≡ rest (members (value d) n (drop i s))) where
  pub members_none : n ≤ 0 → o ≡ None
  unfolding members
  members_none h = e ∙ (let z : n ≡ 0 = omega arith in rw z)

  module _ (h : 0 < n) (r : Option ℕ) (k : Ends s r (rest (key (drop i s)))) where
    pub members_keyless : r ≡ None → o ≡ None
    members_keyless z = e ∙ simp (members_rest (value d) n (drop i s) h, rw z at k)

    module _ (v : ℕ) (z : r ≡ Some v) (q : Option ℕ) (k2 : Ends s q (rest (value d (drop v s)))) where
      pub members_bad : q ≡ None → o ≡ None
      members_bad z2 = e ∙ simp (members_rest (value d) n (drop i s) h, (rw z at k).0, rw z2 at k2)

      module _ (j : ℕ) (z2 : q ≡ Some j) (b : ℕ) (x : ByteAt s j b) where
        pub members_end : b ≡ 125 → Ends s (Some (j + 1)) o
        members_end g = (e ∙ simp (members_rest (value d) n (drop i s) h, (rw z at k).0, (rw z2 at k2).0, is_byte x g, tail_drop), omega arith)

        module _ (g : b ≡ 125 → ⊥) where
          pub members_other : (b ≡ 44 → ⊥) → o ≡ None
          members_other f = e ∙ simp (members_rest (value d) n (drop i s) h, (rw z at k).0, (rw z2 at k2).0, no_byte x g, no_byte x f)

          pub members_more : (m : ℕ) → m ≡ n - 1 → b ≡ 44 → o ≡ rest (members (value d) m (drop (j + 1) s))
          members_more m y f = rw y (e ∙ simp (members_rest (value d) n (drop i s) h, (rw z at k).0, (rw z2 at k2).0, no_byte x g, is_byte x f, tail_drop))

-- ## Values

module _ (s : List ℕ) (at : ℕ) (r : Option ℕ) where
  pub bare_flat : (d : ℕ) → d ≡ 0 → Ends s r (rest (scalar (drop at s))) → Ends s r (rest (bare d (drop at s)))
  unfolding bare
  bare_flat d e k = rw e k

  module _ (d b : ℕ) (z : d ≡ 0 → ⊥) (x : ByteAt s at b) where
    deep : 0 < d
    deep = omega arith

    pub bare_array : b ≡ 91 → Ends s r (rest (array_end (value (d - 1)) (drop (at + 1) s))) → Ends s r (rest (bare d (drop at s)))
    bare_array h k = simp (bare_rest d (drop at s) deep, is_byte x h, tail_drop) k

    pub bare_object : b ≡ 123 → Ends s r (rest (object_end (value (d - 1)) (drop (at + 1) s))) → Ends s r (rest (bare d (drop at s)))
    bare_object h k = simp (bare_rest d (drop at s) deep, sym x.is ∙ h, tail_drop) k

    pub bare_scalar : (b ≡ 91 → ⊥) → (b ≡ 123 → ⊥) → Ends s r (rest (scalar (drop at s))) → Ends s r (rest (bare d (drop at s)))
    bare_scalar g h k = simp (bare_rest d (drop at s) deep, no_byte x g, no_byte x h) k

module _ (s : List ℕ) (at d p : ℕ) (l : Left s p (skip (drop at s))) (r : Option ℕ) (k : Ends s r (rest (bare d (drop p s)))) where
  pub value_bad : r ≡ None → rest (value d (drop at s)) ≡ None
  value_bad z = simp (spaced_rest, l.is, rw z at k)

  pub value_good : (j q : ℕ) → r ≡ Some j → Left s q (skip (drop j s)) → Ends s (Some q) (rest (value d (drop at s)))
  value_good j q z m = (simp (spaced_rest, l.is, (rw z at k).0, m.is), m.within)
