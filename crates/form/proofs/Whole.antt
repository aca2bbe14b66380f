-- Laws of what a change comes to: the bytes that are made of it are read as the value with what it leaves out filled in. Assumes nothing.
use Rattle.std.specs.Prelude.{Option, Some, None}
use Prim.Native.Nat.{ℕ, zero, suc, ◌+◌, ◌-◌, ◌≤◌}
use native.Mathlib.Nat.{zero-add}
use native.Mathlib.Omega.{arith}
use mathlib.Core.Path.{◌≡◌, refl, sym, ap, ap₂, ◌∙◌}
use mathlib.Core.Bool.{Bool, true, false, cond, ◌&&◌, false≢true}
use mathlib.Core.List.{List, [], ◌∷◌, ◌++◌}
use lib.Dec.{eqb}
use lib.ListN.{length, drop, length-append, length-drop}
use borrow.Author.Tests.{eqb-true, eqb-false, ne_eqb}
use Rattle.ascii.specs.Text.{bytes}
use Rattle.ascii.specs.Bytes.{◌>>=◌, is_some, head, tail, drop_while, is_space, is_in}
use Rattle.decimal.specs.Token as Token
use Rattle.ascii.specs.Numbers.{unsigned}
use Rattle.ascii.specs.Clauses.Read.{ReadsValue}
use Rattle.ascii.specs.Clauses.Reader.{Left}
use Rattle.ascii.proofs.Bytes.{tail_drop}
use Rattle.ascii.proofs.Lists.{both}
use Rattle.json_text.specs.Json as Json
use Rattle.json_text.specs.Json.{Json, null, boolean, Members, no_members, member, skip, members, bare, value, spaced, object_end, text, quoted, compact, compact_members, more_members}
use Rattle.json_text.specs.Readable.{ReadableMembers}
use Rattle.json_text.proofs.ReadAgain.{stop_comma, stays}
use Rattle.json_text.proofs.ReadBack.{readable_trees, key_again, value_again, members_end, members_text_lem}
use Rattle.json_text.proofs.Enough.{members_enough}
use Rattle.datainfo.specs.Datainfo.{Datainfo, partial, Parts, field_names}
use Rattle.datainfo.specs.Layout.{typed, datainfo_in}
use Rattle.datainfo.specs.Clauses.Members.{members_at}
use Rattle.datainfo.proofs.Structs.{partial_members}
use Rattle.emit.specs.Clauses.Emitted.{Emits, comma}
use Rattle.fit.specs.Fit.{fits, expect, as_object, keys, each_once, fit, fields_fit, within, ordered, keep_members, join_members, is_left_out}
use Rattle.fit.specs.Fit.{as_partial, at_top, or_none, members_of, completed, completed_of, is_stored}
use Rattle.fit.proofs.Judged.{same_read}
use Rattle.fit.proofs.Shapes.{nothing, just, steps, shape, tells_yes, tells_no, as_object_lem}
use Rattle.form.specs.Clauses.Merged.{is_none, merged_bytes, Merges, ShownBy, stored, ShownAt, Completes}
use Rattle.form.specs.Clauses.Merged as Merged
use Rattle.form.proofs.Verdicts.{cond_fits}
use Rattle.form.proofs.Stored.{stored_part, fits_value, stored_fits, own_value_lem, own_compact, kept_readable}
use Rattle.form.proofs.Typed.{is_typed}
use Rattle.form.proofs.Texts.{front}
use Rattle.form.proofs.Listed.{exchanged, object_is, other_type}

-- ## Members in front of others are read

more_is : (k : List ℕ) (v : Json) (ms : Members) → more_members (member k v ms) ≡ 44 ∷ compact_members (member k v ms)
unfolding compact bytes
more_is k v ms = refl

members_front : (k : List ℕ) (v : Json) (ks : Members) → ReadableMembers 7 (member k v ks) → (xs : List ℕ) (ms : Members) (y : List ℕ)
    → ((n : ℕ) → length xs ≤ n → members (value 7) n xs ≡ Some (ms, y)) → (n : ℕ) → length (compact_members (member k v ks) ++ 44 ∷ xs) ≤ n
    → members (value 7) n (compact_members (member k v ks) ++ 44 ∷ xs) ≡ Some (join_members (member k v ks) ms, y)
unfolding members join_members compact head tail
members_front k v no_members r xs ms y h zero b = absurd (omega (arith, simp length-append at b))
members_front k v no_members r xs ms y h (suc n) b =
    rw (
      members_text_lem k v no_members (44 ∷ xs),
      key_again k r.0 (compact v ++ 44 ∷ xs),
      value_again 7 v r.1 (44 ∷ xs) (stop_comma xs),
      h n (omega (arith, simp (length-append (quoted k), length-append (compact v)) at (rw members_text_lem at b))),
    )
members_front k v (member j u ks) r xs ms y h zero b = absurd (omega (arith, simp length-append at b))
members_front k v (member j u ks) r xs ms y h (suc n) b =
    let ys : List ℕ = compact_members (member j u ks) ++ 44 ∷ xs in
    rw (
      members_text_lem k v (member j u ks) (44 ∷ xs),
      more_is j u ks,
      key_again k r.0 (compact v ++ 44 ∷ ys),
      value_again 7 v r.1 (44 ∷ ys) (stop_comma ys),
      members_front j u ks r.2 xs ms y h n (omega (arith, simp (length-append (quoted k), length-append (compact v)) at (rw (members_text_lem, more_is) at b))),
    )

join_none : (ks : Members) → join_members ks no_members ≡ ks
unfolding join_members
join_none no_members = refl
join_none (member k v ks) = ap (member k v) (join_none ks)

pub same_members : {a b : Members} → Json.object a ≡ Json.object b → a ≡ b
same_members e = cc

-- past the '{'
object_front : (k : List ℕ) (v : Json) (ks : Members) → ReadableMembers 7 (member k v ks) → (xs : List ℕ) (ms : Members) (y : List ℕ)
    → members (value 7) (length xs) xs ≡ Some (ms, y) → object_end (value 7) (compact_members (member k v ks) ++ 44 ∷ xs) ≡ Some (Json.object (join_members (member k v ks) ms), y)
unfolding object_end compact_members quoted head drop_while
object_front k v ks r xs ms y e =
    let zs : List ℕ = compact_members (member k v ks) ++ 44 ∷ xs in
    rw (members_front k v ks r xs ms y (λ n b. sym (members_enough 7 n xs b) ∙ e) (length zs) (omega arith))

abbrev ended : List ℕ → Type 0
ended y = length (skip y) ≡ 0

merged_object : (ks ms : Members) (xs y : List ℕ) → ReadableMembers 7 ks → object_end (value 7) xs ≡ Some (Json.object ms, y) → ended y
    → {S : Type 0} → ((z : List ℕ) → object_end (value 7) (compact_members ks ++ cond (eqb (head (skip xs)) 125) (bytes "}") (comma (is_none ks) ++ xs))
    ≡ Some (Json.object (join_members ks ms), z) → ended z → S) → S
unfolding object_end bytes compact_members comma is_none join_members drop_while
merged_object ks ms xs y r e h {S} f = go (eqb (head (skip xs)) 125) refl e
  where
    opened : (ks : Members) → ReadableMembers 7 ks → (p : Members × List ℕ) → members (value 7) (length xs) xs ≡ Some p → p.0 ≡ ms → p.1 ≡ y
        → ((z : List ℕ) → object_end (value 7) (compact_members ks ++ (comma (is_none ks) ++ xs)) ≡ Some (Json.object (join_members ks ms), z) → ended z → S)
        → eqb (head (skip xs)) 125 ≡ false → S
    opened no_members r p a u w f b = f y e h
    opened (member k v ks) r p a u w f b = f y (object_front k v ks r xs ms y (a ∙ ap₂ (λ (x : Members) (z : List ℕ). Some (x, z)) u w)) h

    go : (b : Bool) → eqb (head (skip xs)) 125 ≡ b
        → cond {A = Option (Json × List ℕ)} b (Some (Json.object no_members, tail (skip xs))) (members (value 7) (length xs) xs >>= λ p. Some (Json.object p.0, p.1)) ≡ Some (Json.object ms, y) → S
    go true b e =
        let z : no_members ≡ ms = same_members (ap (λ (q : Json × List ℕ). q.0) (just e)) in
        f [] (rw (b, ← z, join_none ks) (members_end 7 ks r [])) refl
    go false b e = steps (members (value 7) (length xs) xs) _ e λ p a e.
        opened ks r p a (same_members (ap (λ (q : Json × List ℕ). q.0) (just e))) (ap (λ (q : Json × List ℕ). q.1) (just e)) (rw b at f) b

-- so the whole is read
merged_read : (ks ms : Members) (xs y : List ℕ) → ReadableMembers 7 ks → object_end (value 7) xs ≡ Some (Json.object ms, y) → ended y
    → text (merged_bytes ks xs) ≡ Some (Json.object (join_members ks ms))
unfolding merged_bytes text spaced bare bytes head tail drop_while
merged_read ks ms xs y r e h = merged_object ks ms xs y r e h λ z g w. rw (g, w)

-- ## Its length

kept_more : (p : List ℕ → Bool) (ms : Members) → length (more_members (keep_members p ms)) ≤ length (more_members ms)
unfolding keep_members more_members
kept_more p no_members = omega arith
kept_more p (member k v ms) = go (p k) (kept_more p ms)
  where
    go : (b : Bool) → length (more_members (keep_members p ms)) ≤ length (more_members ms)
        → length (more_members (cond b (member k v (keep_members p ms)) (keep_members p ms))) ≤ length (more_members (member k v ms))
    go true h = simp length-append (omega arith)
    go false h = simp length-append (omega arith)

compact_more : (ms : Members) → length (compact_members ms) ≤ length (more_members ms)
unfolding compact_members more_members
compact_more no_members = omega arith
compact_more (member k v ms) = simp length-append (omega arith)

kept_short : (p : List ℕ → Bool) (ms : Members) → length (compact_members (keep_members p ms)) ≤ length (compact_members ms)
unfolding keep_members compact_members
kept_short p no_members = omega arith
kept_short p (member k v ms) = go (p k) (kept_more p ms) (compact_more (keep_members p ms))
  where
    go : (b : Bool) → length (more_members (keep_members p ms)) ≤ length (more_members ms) → length (compact_members (keep_members p ms)) ≤ length (more_members (keep_members p ms))
        → length (compact_members (cond b (member k v (keep_members p ms)) (keep_members p ms))) ≤ length (compact_members (member k v ms))
    go true h g = simp length-append (omega arith)
    go false h g = simp length-append (omega arith)

merged_short : (ks : Members) (xs : List ℕ) → length (merged_bytes ks xs) ≤ length (compact_members ks) + length xs + 2
unfolding merged_bytes comma bytes
merged_short ks xs = go (eqb (head (skip xs)) 125) (is_none ks)
  where
    go : (b c : Bool) → length ((123 ∷ compact_members ks) ++ cond b (125 ∷ []) (comma c ++ xs)) ≤ length (compact_members ks) + length xs + 2
    go true c = simp length-append (omega arith)
    go false true = simp length-append (omega arith)
    go false false = simp length-append (omega arith)

-- ## Objects that are shown and sent

-- a text that begins with '{' is an object, and is read to its end
record ObjectText (xs : List ℕ) (j : Json) (p : ℕ) : Type 0 where
  ms : Members
  y : List ℕ
  is : j ≡ Json.object ms
  reads : object_end (value 7) (drop (p + 1) xs) ≡ Some (Json.object ms, y)
  end : ended y

text_whole : (xs : List ℕ) {j : Json} → text xs ≡ Some j → {S : Type 0} → ((z : List ℕ) → bare 8 (skip xs) ≡ Some (j, z) → ended z → S) → S
unfolding text spaced
text_whole xs {j} e {S} f = steps (spaced (bare 8) xs) _ e λ p a e. steps (bare 8 (skip xs)) _ a λ q b a. go (eqb (length p.1) 0) p q refl b a e
  where
    go : (t : Bool) (p q : Json × List ℕ) → eqb (length p.1) 0 ≡ t → bare 8 (skip xs) ≡ Some q → ◌≡◌ {A = Option (Json × List ℕ)} (Some (q.0, skip q.1)) (Some p)
        → cond t (Some p.0) None ≡ Some j → S
    go true p q h b a e =
        let z : (q.0, skip q.1) ≡ p = just a in
        f q.1 (b ∙ ap (λ w. Some (w, q.1)) (ap (λ (w : Json × List ℕ). w.0) z ∙ just e)) (ap (λ (w : Json × List ℕ). length w.1) z ∙ eqb-true _ 0 h)
    go false p q h b a e = absurd (nothing e)

object_text : (xs : List ℕ) (p : ℕ) (j : Json) → text xs ≡ Some j → Left xs p (skip (drop 0 xs)) → head (drop p xs) ≡ 123 → ObjectText xs j p
unfolding bare
object_text xs p j e l h = text_whole xs e λ z b w.
    let there : bare 8 (drop p xs) ≡ Some (j, z) = rw l.is at b in
    tells_yes (as_object_lem (shape 8 (drop p xs) there)) (omega arith, h) λ ms k m.
    let o = object_is j ms k in
    record { ms = ms; y = z; is = o; reads = rw (o, tail_drop) at (rw h at there); end = w }

-- ## Where nothing is left out

text_none : text [] ≡ None
unfolding text spaced bare Json.scalar head drop_while Token.number Token.int Token.minus Token.digits is_in
text_none = refl

-- nothing is shown that has members
no_shown : (d : Datainfo) (xs : List ℕ) → ShownBy d xs → eqb (head xs) 123 ≡ false → members_of (text xs) ≡ no_members
unfolding compact bytes head or_none as_object
no_shown d xs (Merged.nothing z) h = rw (z, text_none)
no_shown d xs (stored e) h = go (text xs) refl
  where
    none_there : (ms : Members) → text xs ≡ Some (Json.object ms) → ms ≡ no_members
    none_there ms q = let c = own_compact d xs e (Json.object ms) q in absurd (false≢true (sym h ∙ rw (← c)))

    go : (o : Option Json) → text xs ≡ o → members_of o ≡ no_members
    go None q = refl
    go (Some null) q = refl
    go (Some (boolean b)) q = refl
    go (Some (Json.number t)) q = refl
    go (Some (Json.string t)) q = refl
    go (Some (Json.array is)) q = refl
    go (Some (Json.object ms)) q = none_there ms q

module _ (shown : Option Json) where
  pub same_other : (d : Datainfo) → as_partial d ≡ None → (o : Option Json) → o ≡ completed_of shown d o
  unfolding completed_of completed at_top
  same_other d e None = refl
  same_other d e (Some j) = rw e

  same_none : (d : Datainfo) → members_of shown ≡ no_members → (j : Json) → completed shown d j ≡ j
  unfolding completed at_top within as_object keep_members join_members
  same_none d e j = rw e (go (as_partial d) j)
    where
      go : (o : Option Parts) (j : Json) → at_top o (λ m ms. join_members (keep_members (is_left_out m.0 ms) no_members) ms) j ≡ j
      go None j = refl
      go (Some m) null = refl
      go (Some m) (boolean b) = refl
      go (Some m) (Json.number t) = refl
      go (Some m) (Json.string t) = refl
      go (Some m) (Json.array is) = refl
      go (Some m) (Json.object ms) = refl

  pub same_scalar : (d : Datainfo) (j : Json) → as_object j ≡ None → completed shown d j ≡ j
  unfolding completed at_top within
  same_scalar d j e = go (as_partial d)
    where
      go : (o : Option Parts) → at_top o (λ m ms. join_members (keep_members (is_left_out m.0 ms) (members_of shown)) ms) j ≡ j
      go None = refl
      go (Some m) = rw e

-- whether something may be left out
abbrev pub partly : List ℕ → List ℕ → ℕ → Bool
partly shown v p = eqb (head shown) 123 && (eqb (head (drop p v)) 123 && is_some (text v))

whole_same : (d : Datainfo) (shown v : List ℕ) (p : ℕ) → ShownBy d shown → Left v p (skip (drop 0 v)) → partly shown v p ≡ false → text v ≡ completed_of (text shown) d (text v)
unfolding completed_of
whole_same d shown v p g l h = go (text v) refl (eqb (head shown) 123) refl (eqb (head (drop p v)) 123) refl h
  where
    go : (o : Option Json) → text v ≡ o → (a : Bool) → eqb (head shown) 123 ≡ a → (b : Bool) → eqb (head (drop p v)) 123 ≡ b → (a && (b && is_some o)) ≡ false
        → o ≡ completed_of (text shown) d o
    go None q a e b f h = refl
    go (Some j) q false e b f h = ap Some (sym (same_none (text shown) d (no_shown d shown g e) j))
    go (Some j) q true e false f h = ap Some (sym (same_scalar (text shown) d j (text_whole v q λ z b w.
        tells_no (as_object_lem (shape 8 (drop p v) (rw l.is at b))) (λ n. eqb-false _ 123 f n.1))))
    go (Some j) q true e true f h = absurd (false≢true (sym h))

-- ## What is merged

-- a text of what is shown, as the object that it is
-- braces around members
plus_two : (xs : List ℕ) → length xs + 2 ≡ length ((123 ∷ xs) ++ (125 ∷ []))
plus_two xs = simp length-append (omega arith)

record ShownObject (m : Parts) (shown : List ℕ) : Type 0 where
  js : Members
  z : List ℕ
  is : text shown ≡ Some (Json.object js)
  reads : object_end (value 7) (drop 1 shown) ≡ Some (Json.object js, z)
  in_order : js ≡ ordered m.1 (exchanged m.1 js)
  once : each_once (field_names m.1) (keys js) ≡ true
  fit : fields_fit m.1 js ≡ fits
  long : length (compact_members js) + 2 ≡ length shown
  readable : ReadableMembers 7 js

unspaced_front : (xs : List ℕ) → head xs ≡ 123 → Left xs 0 (skip (drop 0 xs))
unspaced_front xs h = record { is = stays is_space xs (rw h); within = omega arith }

object_shown : (m : Parts) (shown : List ℕ) → is_stored (partial m.0 m.1) shown ≡ true → (w : Json) → text shown ≡ Some w
    → fit (partial m.0 m.1) w ≡ fits → ObjectText shown w 0 → ShownObject m shown
unfolding fit expect within as_object compact bytes
object_shown m shown e w q f t =
    let d : Datainfo = partial m.0 m.1 in
    let js = t.ms in
    let there : text shown ≡ Some (Json.object js) = q ∙ ap Some t.is in
    let c = cond_fits (each_once (field_names m.1) (keys js)) (fields_fit m.1 js) (rw t.is at f) in
    let same = own_value_lem d shown e (Json.object js) there ∙ stored_part m.0 m.1 (Json.object js) in
    let long : compact (Json.object js) ≡ shown = own_compact d shown e (Json.object js) there in
    record {
      js = js;
      z = t.y;
      is = there;
      reads = t.reads;
      in_order = same_members same;
      once = c.0;
      fit = c.1;
      long = plus_two (compact_members js) ∙ ap length long;
      readable = readable_trees.of_texts shown (Json.object js) there;
    }

shown_object : (m : Parts) (shown : List ℕ) → ShownBy (partial m.0 m.1) shown → head shown ≡ 123 → ShownObject m shown
unfolding head
shown_object m shown (Merged.nothing z) h = absurd (let n : ◌≡◌ {A = ℕ} 0 123 = rw z at h in omega arith)
shown_object m shown (stored e) h = fits_value (partial m.0 m.1) shown (stored_fits (partial m.0 m.1) shown e) λ w q f.
    object_shown m shown e w q f (object_text shown 0 w q (unspaced_front shown h) h)

-- ## What was written

module _ (s : List ℕ) (i : ℕ) (shown v : List ℕ) (g : ShownAt s i shown) (before : List ℕ) (room : length v + length shown + 2 ≤ length before) where
  -- what is read is the change with what it leaves out
  filled_in : (m : Parts) (js ms : Members) (d : Datainfo) → partial m.0 m.1 ≡ d → text shown ≡ Some (Json.object js) → text v ≡ Some (Json.object ms)
      → (bs : List ℕ) → text bs ≡ Some (Json.object (join_members (keep_members (is_left_out m.0 ms) js) ms)) → text bs ≡ completed_of (text shown) d (text v)
  unfolding completed_of completed at_top as_partial within as_object or_none
  filled_in m js ms d e f g bs h = h ∙ rw (← e, f, g)

  -- the bytes bs stand at the front
  standing : (bs after : List ℕ) (end : ℕ) → Emits before 0 bs after end → length bs ≤ length v + length shown + 2
      → ((d : Datainfo) (x : List ℕ) → datainfo_in 4 (drop i s) ≡ Some (d, x) → text bs ≡ completed_of (text shown) d (text v))
      → Completes (datainfo_in 4 (drop i s)) shown v before after end
  standing bs after end w h f =
      let q = w.puts (omega arith) in
      let n : end ≡ length bs = q.ends ∙ zero-add (length bs) in
      record {
        size = w.size;
        within = let z = w.size in omega arith;
        is = λ {d = d} {x = x} e. rw (n, q.is, front before bs (omega arith)) (f d x e);
      }

  merged_there : (after : List ℕ) (end inner p : ℕ) → Left v p (skip (drop 0 v)) → (m : Parts) (x : List ℕ) → members_at (datainfo_in 3) 11 (drop inner s) ≡ Some (m, x)
      → ShownBy (partial m.0 m.1) shown → datainfo_in 4 (drop i s) ≡ Some (partial m.0 m.1, x)
      → (head shown ≡ 123) × (head (drop p v) ≡ 123) × (is_some (text v) ≡ true)
      → Merges (members_at (datainfo_in 3) 11 (drop inner s)) (drop (p + 1) v) (object_end (value 7) (drop 1 shown)) before after end
      → Completes (datainfo_in 4 (drop i s)) shown v before after end
  merged_there after end inner p l m x a sh d-is c y = go (text v) refl c.2
    where
      old : ShownObject m shown
      old = shown_object m shown sh c.0

      given : (j : Json) → text v ≡ Some j → ObjectText v j p → Completes (datainfo_in 4 (drop i s)) shown v before after end
      given j q t =
          let ks : Members = keep_members (is_left_out m.0 t.ms) old.js in
          let xs : List ℕ = drop (p + 1) v in
          let wrote : Emits before 0 (merged_bytes ks xs) after end = rw (← old.in_order) at (y.is a t.reads old.reads old.once old.fit) in
          let short = merged_short ks xs in
          let less = kept_short (is_left_out m.0 t.ms) old.js in
          let long = old.long in
          let cut : length xs ≡ length v - (p + 1) = length-drop (p + 1) v in
          standing (merged_bytes ks xs) after end wrote (omega arith) λ d x' f.
          filled_in m old.js t.ms d (same_read d-is f) old.is (q ∙ ap Some t.is) (merged_bytes ks xs)
          (merged_read ks t.ms xs t.y (kept_readable 7 (is_left_out m.0 t.ms) old.js old.readable) t.reads t.end)

      go : (o : Option Json) → text v ≡ o → is_some o ≡ true → Completes (datainfo_in 4 (drop i s)) shown v before after end
      go None q h = absurd (false≢true h)
      go (Some j) q h = given j q (object_text v p j q l c.1)

  module _ (u : Option (ℕ × ℕ)) (k : ReadsValue s u (unsigned 1 (drop i s))) (after : List ℕ) (end : ℕ) where
    pub complete_short : u ≡ None → Emits before 0 v after end → Completes (datainfo_in 4 (drop i s)) shown v before after end
    unfolding datainfo_in
    complete_short z w = standing v after end w (omega arith) λ d x e. absurd (nothing (sym (let n : datainfo_in 4 (drop i s) ≡ None = simp (rw z at k) in n) ∙ e))

    module _ (b inner : ℕ) (e : u ≡ Some (b, inner)) where
      typed_there : datainfo_in 4 (drop i s) ≡ typed (datainfo_in 3) b (drop inner s)
      typed_there = is_typed s i 4 (omega arith) u k b inner e

      pub complete_other : (b ≡ 11 → ⊥) → Emits before 0 v after end → Completes (datainfo_in 4 (drop i s)) shown v before after end
      complete_other z w = standing v after end w (omega arith) λ d x f.
          same_other (text shown) d (other_type (datainfo_in 3) b (drop inner s) (ne_eqb b 11 z) d x (sym typed_there ∙ f)) (text v)

      module _ (p : ℕ) (l : Left v p (skip (drop 0 v))) (t : Bool) (h : t ≡ partly shown v p) where
        shown_by : (d : Datainfo) (x : List ℕ) → datainfo_in 4 (drop i s) ≡ Some (d, x) → ShownBy d shown
        shown_by d x f = rw (same_read g.reads.is f) at g.shown

        pub complete_whole : t ≡ false → Emits before 0 v after end → Completes (datainfo_in 4 (drop i s)) shown v before after end
        complete_whole z w = standing v after end w (omega arith) λ d x f. whole_same d shown v p (shown_by d x f) l (sym h ∙ z)

        facts : partly shown v p ≡ true → (head shown ≡ 123) × (head (drop p v) ≡ 123) × (is_some (text v) ≡ true)
        facts q =
            let c = both (eqb (head shown) 123) (eqb (head (drop p v)) 123 && is_some (text v)) q in
            let c' = both (eqb (head (drop p v)) 123) (is_some (text v)) c.1 in
            (eqb-true _ 123 c.0, eqb-true _ 123 c'.0, c'.1)

        merged_standing : (m : Parts) (x : List ℕ) → members_at (datainfo_in 3) 11 (drop inner s) ≡ Some (m, x) → ShownBy (partial m.0 m.1) shown
            → datainfo_in 4 (drop i s) ≡ Some (partial m.0 m.1, x) → (head shown ≡ 123) × (head (drop p v) ≡ 123) × (is_some (text v) ≡ true)
            → Merges (members_at (datainfo_in 3) 11 (drop inner s)) (drop (p + 1) v) (object_end (value 7) (drop 1 shown)) before after end
            → Completes (datainfo_in 4 (drop i s)) shown v before after end
        merged_standing m x a sh d-is c y = merged_there after end inner p l m x a sh d-is c y

        pub complete_merged : b ≡ 11 → t ≡ true
            → Merges (members_at (datainfo_in 3) 11 (drop inner s)) (drop (p + 1) v) (object_end (value 7) (drop 1 shown)) before after end
            → Completes (datainfo_in 4 (drop i s)) shown v before after end
        unfolding typed
        complete_merged z w y = partial_members (datainfo_in 3) (drop inner s) (rw z at (sym typed_there ∙ g.reads.is)) λ m a o.
            merged_standing m g.reads.left a (rw o at g.shown) (rw o at g.reads.is) (facts (sym h ∙ w)) y
