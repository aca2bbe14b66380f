-- Part of a struct (M-113): which member of what is stored comes from where. Assumes nothing.
use Rattle.std.specs.Prelude.{Option, Some, None}
use Prim.Native.Nat.{ℕ, ◌+◌, ◌≤◌}
use native.Mathlib.Nat.{zero-add}
use native.Mathlib.Omega.{arith}
use mathlib.Core.Bool.{Bool, true, false, cond, not, ◌&&◌, ◌||◌, false≢true, true≢false}
use mathlib.Core.List.{List, [], ◌∷◌}
use mathlib.Core.Logic.{◌⊎◌, inl, inr}
use mathlib.Core.Path.{◌≡◌, refl, sym, ap, ap₂, ◌∙◌}
use lib.Dec.{eqb, leb}
use lib.ListN.{length}
use borrow.Author.Tests.{eqb-true, eq-eqb, le-leb, not-true}
use Rattle.ascii.specs.Bytes.{all, any, count, same}
use Rattle.ascii.specs.Names.{distinct}
use Rattle.ascii.proofs.Lists.{both, or-true, same_self, same_is}
use Rattle.json_text.specs.Json.{Json, null, boolean, Members, no_members, member, text, compact}
use Rattle.datainfo.specs.Datainfo.{Datainfo, partial, Fields, no_fields, field, field_names, field_of}
use Rattle.fit.specs.Fit.{Verdict, fits, wrongType, worse, severity, in_range, expect, as_object, keys, each_once, value_at, fit, fields_fit}
use Rattle.fit.specs.Fit.{within, numbered, as_partial, at_top, keep_members, join_members, is_left_out, or_none, members_of, completed, completed_of, ordered}
use Rattle.fit.specs.Fit.{form_of, stored_form, value_verdict, verdict_of, verdict, is_stored, change_verdict, change_form}
use Rattle.fit.proofs.Shapes.{nothing, just}
use Rattle.form.proofs.Verdicts.{worse_both, both_worse, cond_fits}
use Rattle.form.proofs.Ordered.{count_none, ordered_keys, ordered_value}
use Rattle.form.proofs.Stored.{stored_part, fits_value, stored_fits, own_value_lem, own_compact}
use Rattle.form.proofs.Members.{none_counted, any_all, once_alone, count_less, field_fits}
use Rattle.form.proofs.Listed as Listed
use Rattle.form.proofs.Listed.{exchanged, object_is}
use Rattle.form.proofs.Whole as Whole
use Rattle.form.proofs.Whole.{same_members, same_scalar}
use Rattle.message.specs.Reply.{Held, valued, failed}
use Rattle.table.specs.Table.{Parameter}
use Rattle.table.specs.Search.{Placed}
use Rattle.sound.specs.Theorems.{HeldFits}
use Rattle.plain.specs.Node.{Value, Node}
use Rattle.plain.specs.Answer.{shown_value, judged_at, stored_at}
use Rattle.rule.specs.Parts.{is_among, LeftOut, GoodPart, Merged, WhereShown, ChangedInPart, NoObject, PartsAreMerged}

-- ## Names

-- what holds of each that is among them holds of all
all_of : (p : List ℕ → Bool) (ks : List (List ℕ)) → ((k : List ℕ) → is_among ks k ≡ true → p k ≡ true) → all p ks ≡ true
unfolding all any
all_of p [] h = refl
all_of p (k ∷ ks) h = ap₂ ◌&&◌ (h k (rw (same_self k))) (all_of p ks (λ j e. h j (rw e (or-true (same j k)))))

-- names that are each there once differ
once_distinct : (ks : List (List ℕ)) → all (λ k. eqb (count (same k) ks) 1) ks ≡ true → distinct ks ≡ true
unfolding all distinct
once_distinct [] e = refl
once_distinct (k ∷ ks) e =
    let p = both (eqb (count (same k) (k ∷ ks)) 1) (all (λ n. eqb (count (same n) (k ∷ ks)) 1) ks) e in
    let a = once_alone k ks p.0 in
    ap₂ ◌&&◌ (ap not a) (once_distinct ks (count_less k ks ks a p.1))

-- a member with a datainfo is a member
field_named : (fs : Fields) (k : List ℕ) (d : Datainfo) → field_of k fs ≡ Some d → is_among (field_names fs) k ≡ true
unfolding field_of field_names any
field_named no_fields k d e = absurd (nothing e)
field_named (field j c fs) k d e = go (same j k) refl e (field_named fs k d)
  where
    go : (b : Bool) → same j k ≡ b → cond b (Some c) (field_of k fs) ≡ Some d → (field_of k fs ≡ Some d → any (same k) (field_names fs) ≡ true)
        → (same k j || any (same k) (field_names fs)) ≡ true
    go true q e h = rw (same_is j k q, same_self k)
    go false q e h = rw (h e) (or-true (same k j))

-- ## Members that are kept, and joined

module _ (p : List ℕ → Bool) (k : List ℕ) where
  kept_count : (js : Members) → count (same k) (keys (keep_members p js)) ≡ cond (p k) (count (same k) (keys js)) 0
  unfolding keep_members keys count
  kept_count no_members = go (p k)
    where
      go : (b : Bool) → ◌≡◌ {A = ℕ} 0 (cond b 0 0)
      go true = refl
      go false = refl
  kept_count (member j v js) = go (same k j) refl (p j) refl (p k) refl (kept_count js)
    where
      go : (s : Bool) → same k j ≡ s → (b : Bool) → p j ≡ b → (c : Bool) → p k ≡ c
          → count (same k) (keys (keep_members p js)) ≡ cond c (count (same k) (keys js)) 0
          → count (same k) (keys (cond b (member j v (keep_members p js)) (keep_members p js))) ≡ cond c (cond s 1 0 + count (same k) (keys js)) 0
      go true q true e true f h = rw q (ap (λ (n : ℕ). 1 + n) h)
      go true q false e false f h = h
      go true q true e false f h = absurd (true≢false (sym e ∙ ap p (sym (same_is k j q)) ∙ f))
      go true q false e true f h = absurd (true≢false (sym f ∙ ap p (same_is k j q) ∙ e))
      go false q true e true f h = rw q (ap (λ (n : ℕ). 0 + n) h)
      go false q true e false f h = rw q (ap (λ (n : ℕ). 0 + n) h)
      go false q false e true f h = h ∙ sym (zero-add (count (same k) (keys js)))
      go false q false e false f h = h

  -- the value at a key that is kept
  kept_value : p k ≡ true → (js : Members) → value_at k (keep_members p js) ≡ value_at k js
  unfolding keep_members value_at
  kept_value e no_members = refl
  kept_value e (member j v js) = go (same k j) refl (p j) refl (kept_value e js)
    where
      go : (s : Bool) → same k j ≡ s → (b : Bool) → p j ≡ b → value_at k (keep_members p js) ≡ value_at k js
          → value_at k (cond b (member j v (keep_members p js)) (keep_members p js)) ≡ cond s v (value_at k js)
      go true q true f h = rw q
      go true q false f h = absurd (true≢false (sym e ∙ ap p (same_is k j q) ∙ f))
      go false q true f h = rw q h
      go false q false f h = h

-- none of these is kept
none_kept : (p : List ℕ → Bool) (js : Members) → ((k : List ℕ) → is_among (keys js) k ≡ true → p k ≡ false) → keep_members p js ≡ no_members
unfolding keep_members keys any
none_kept p no_members h = refl
none_kept p (member j v js) h =
    rw (h j (rw (same_self j))) (none_kept p js (λ k e. h k (rw e (or-true (same k j)))))

module _ (k : List ℕ) where
  joined_count : (js ms : Members) → count (same k) (keys (join_members js ms)) ≡ count (same k) (keys js) + count (same k) (keys ms)
  unfolding join_members keys count
  joined_count no_members ms = sym (zero-add (count (same k) (keys ms)))
  joined_count (member j v js) ms = let h = joined_count js ms in rw h (omega arith)

  joined_any : (js ms : Members) → any (same k) (keys (join_members js ms)) ≡ (any (same k) (keys js) || any (same k) (keys ms))
  unfolding join_members keys any
  joined_any no_members ms = refl
  joined_any (member j v js) ms = rw (joined_any js ms) (or_or (same k j) (any (same k) (keys js)) (any (same k) (keys ms)))
    where
      or_or : (a b c : Bool) → (a || (b || c)) ≡ ((a || b) || c)
      or_or true b c = refl
      or_or false b c = refl

  joined_value : (js ms : Members) → value_at k (join_members js ms) ≡ cond (any (same k) (keys js)) (value_at k js) (value_at k ms)
  unfolding join_members keys any value_at
  joined_value no_members ms = refl
  joined_value (member j v js) ms = go (same k j) (joined_value js ms)
    where
      go : (s : Bool) → value_at k (join_members js ms) ≡ cond (any (same k) (keys js)) (value_at k js) (value_at k ms)
          → cond s v (value_at k (join_members js ms)) ≡ cond (s || any (same k) (keys js)) (cond s v (value_at k js)) (value_at k ms)
      go true h = refl
      go false h = h

-- ## Counts and tests

-- who is there is counted, and the reverse
there_counted : (k : List ℕ) (ks : List (List ℕ)) → is_among ks k ≡ true → count (same k) ks ≡ 0 → ⊥
there_counted k ks e z = true≢false (sym e ∙ none_counted k ks z)

counted_there : (k : List ℕ) (ks : List (List ℕ)) → (count (same k) ks ≡ 0 → ⊥) → is_among ks k ≡ true
counted_there k ks h = go (any (same k) ks) refl
  where
    go : (b : Bool) → any (same k) ks ≡ b → b ≡ true
    go true e = refl
    go false e = absurd (h (count_none k ks e))

module _ (names ks : List (List ℕ)) where
  once_of : each_once names ks ≡ true → (k : List ℕ) → is_among names k ≡ true → count (same k) ks ≡ 1
  unfolding each_once
  once_of e k h =
      let p = both (all (λ n. eqb (count (same n) ks) 1) names) (all (λ k. any (same k) names) ks) e in
      eqb-true (count (same k) ks) 1 (any_all (λ n. eqb (count (same n) ks) 1) k names h p.0)

  named_of : each_once names ks ≡ true → (k : List ℕ) → is_among ks k ≡ true → is_among names k ≡ true
  unfolding each_once
  named_of e k h =
      let p = both (all (λ n. eqb (count (same n) ks) 1) names) (all (λ k. any (same k) names) ks) e in
      any_all (λ k. any (same k) names) k ks h p.1

  once_all : ((k : List ℕ) → is_among names k ≡ true → count (same k) ks ≡ 1) → ((k : List ℕ) → is_among ks k ≡ true → is_among names k ≡ true)
      → each_once names ks ≡ true
  unfolding each_once
  once_all f g =
      ap₂ ◌&&◌ (all_of (λ n. eqb (count (same n) ks) 1) names (λ k e. eq-eqb (count (same k) ks) 1 (f k e))) (all_of (λ k. any (same k) names) ks g)

  -- one that is not there
  not_once : (k : List ℕ) → is_among names k ≡ true → count (same k) ks ≡ 0 → each_once names ks ≡ false
  not_once k h z = go (each_once names ks) refl
    where
      go : (b : Bool) → each_once names ks ≡ b → b ≡ false
      go true e = let o = once_of e k h in absurd (omega arith)
      go false e = refl

-- a fault of type wins
wrong_wins : (b : Bool) → worse wrongType (in_range b) ≡ wrongType
unfolding worse in_range severity
wrong_wins true = refl
wrong_wins false = refl

wrong_value : (ns : List (List ℕ)) (fs : Fields) (ms : Members) (k : List ℕ) → is_among (field_names fs) k ≡ true → count (same k) (keys ms) ≡ 0
    → fit (partial ns fs) (Json.object ms) ≡ wrongType
unfolding fit expect as_object
wrong_value ns fs ms k h z = rw (not_once (field_names fs) (keys ms) k h z)

wrong_text : (ns : List (List ℕ)) (fs : Fields) (ms : Members) (k : List ℕ) → is_among (field_names fs) k ≡ true → count (same k) (keys ms) ≡ 0
    → verdict_of (partial ns fs) (Some (Json.object ms)) ≡ wrongType
unfolding verdict_of value_verdict
wrong_text ns fs ms k h z = rw (wrong_value ns fs ms k h z) (wrong_wins (leb (length (form_of (partial ns fs) (Some (Json.object ms)))) 256))

-- members with names that differ, each of which fits, fit
fields_fit_lem : (fs : Fields) (zs : Members) → distinct (field_names fs) ≡ true
    → ((k : List ℕ) (d : Datainfo) → field_of k fs ≡ Some d → fit d (value_at k zs) ≡ fits) → fields_fit fs zs ≡ fits
unfolding fields_fit field_of field_names distinct
fields_fit_lem no_fields zs u h = refl
fields_fit_lem (field j d fs) zs u h =
    let p = both (not (any (same j) (field_names fs))) (distinct (field_names fs)) u in
    let alone = not-true (any (same j) (field_names fs)) p.0 in
    both_worse (h j d (rw (same_self j))) (fields_fit_lem fs zs p.1 (λ k c e. h k c (later alone k c e)))
  where
    later : any (same j) (field_names fs) ≡ false → (k : List ℕ) (c : Datainfo) → field_of k fs ≡ Some c → cond (same j k) (Some d) (field_of k fs) ≡ Some c
    later a k c e = go (same j k) refl
      where
        go : (b : Bool) → same j k ≡ b → cond b (Some d) (field_of k fs) ≡ Some c
        go true q = absurd (true≢false (sym (field_named fs k c e) ∙ ap (λ x. any (same x) (field_names fs)) (sym (same_is j k q)) ∙ a))
        go false q = e

-- ## What is shown: an object in stored form

record Shows (fs : Fields) (v : List ℕ) : Type 0 where
  js : Members
  is : text v ≡ Some (Json.object js)
  compact_is : v ≡ compact (Json.object js)
  in_order : js ≡ ordered fs (exchanged fs js)
  once : each_once (field_names fs) (keys js) ≡ true
  fit : fields_fit fs js ≡ fits

shows : (ns : List (List ℕ)) (fs : Fields) (v : List ℕ) → is_stored (partial ns fs) v ≡ true → Shows fs v
unfolding fit expect within as_object
shows ns fs v e = fits_value (partial ns fs) v (stored_fits (partial ns fs) v e) λ w q f. go w q f
  where
    of_object : (js : Members) → text v ≡ Some (Json.object js) → fit (partial ns fs) (Json.object js) ≡ fits → Shows fs v
    of_object js q f =
        let c = cond_fits (each_once (field_names fs) (keys js)) (fields_fit fs js) f in
        record {
          js = js;
          is = q;
          compact_is = sym (own_compact (partial ns fs) v e (Json.object js) q);
          in_order = same_members (own_value_lem (partial ns fs) v e (Json.object js) q ∙ stored_part ns fs (Json.object js));
          once = c.0;
          fit = c.1;
        }

    go : (w : Json) → text v ≡ Some w → fit (partial ns fs) w ≡ fits → Shows fs v
    go null q f = let n : ◌≡◌ {A = ℕ} 0 1 = cc in absurd (omega arith)
    go (boolean b) q f = let n : ◌≡◌ {A = ℕ} 0 1 = cc in absurd (omega arith)
    go (Json.number t) q f = let n : ◌≡◌ {A = ℕ} 0 1 = cc in absurd (omega arith)
    go (Json.string s) q f = let n : ◌≡◌ {A = ℕ} 0 1 = cc in absurd (omega arith)
    go (Json.array is) q f = let n : ◌≡◌ {A = ℕ} 0 1 = cc in absurd (omega arith)
    go (Json.object js) q f = of_object js q f

-- ## What a change comes to

module _ (ns : List (List ℕ)) (fs : Fields) (js ms : Members) where
  abbrev left_out : List ℕ → Bool
  left_out k = is_left_out ns ms k

  abbrev merged : Members
  merged = join_members (keep_members left_out js) ms

  merged_count : (k : List ℕ) → count (same k) (keys merged) ≡ cond (left_out k) (count (same k) (keys js)) 0 + count (same k) (keys ms)
  merged_count k = joined_count k (keep_members left_out js) ms ∙ ap (λ (n : ℕ). n + count (same k) (keys ms)) (kept_count left_out k js)

  -- whether it is left out and optional
  given_not : (k : List ℕ) → is_among (keys ms) k ≡ true → left_out k ≡ false
  unfolding is_left_out
  given_not k e = rw e (and-false (any (same k) ns))
    where
      and-false : (b : Bool) → (b && false) ≡ false
      and-false true = refl
      and-false false = refl

  required_not : (k : List ℕ) → is_among ns k ≡ false → left_out k ≡ false
  unfolding is_left_out
  required_not k e = rw e

  optional_out : (k : List ℕ) → is_among ns k ≡ true → is_among (keys ms) k ≡ false → left_out k ≡ true
  unfolding is_left_out
  optional_out k e f = rw (e, f)

  -- a name that is neither given nor optional isn't there
  missing : (k : List ℕ) → left_out k ≡ false → is_among (keys ms) k ≡ false → count (same k) (keys merged) ≡ 0
  missing k e f = merged_count k ∙ rw (e, count_none k (keys ms) f)

  given_count : (k : List ℕ) → is_among (keys ms) k ≡ true → count (same k) (keys merged) ≡ count (same k) (keys ms)
  given_count k e = merged_count k ∙ rw (given_not k e) (zero-add (count (same k) (keys ms)))

  left_count : (k : List ℕ) → left_out k ≡ true → is_among (keys ms) k ≡ false → count (same k) (keys merged) ≡ count (same k) (keys js)
  left_count k e f = merged_count k ∙ rw (e, count_none k (keys ms) f) (omega arith)

  given_value : (k : List ℕ) → is_among (keys ms) k ≡ true → value_at k merged ≡ value_at k ms
  given_value k e =
      joined_value k (keep_members left_out js) ms
      ∙ rw (none_counted k (keys (keep_members left_out js)) (kept_count left_out k js ∙ rw (given_not k e)))

  left_value : (k : List ℕ) → left_out k ≡ true → is_among (keys js) k ≡ true → value_at k merged ≡ value_at k js
  left_value k e f =
      joined_value k (keep_members left_out js) ms
      ∙ rw (counted_there k (keys (keep_members left_out js)) (λ z. there_counted k (keys js) f (sym (kept_count left_out k js ∙ rw e) ∙ z)))
      (kept_value left_out k e js)

  -- where all is there once
  module _ (e : each_once (field_names fs) (keys merged) ≡ true) where
    out_optional : (k : List ℕ) → LeftOut fs ms k → left_out k ≡ true
    out_optional k l = go (left_out k) refl
      where
        go : (b : Bool) → left_out k ≡ b → b ≡ true
        go true q = refl
        go false q = let z = missing k q l.missing in let o = once_of (field_names fs) (keys merged) e k l.asked in absurd (omega arith)

    out_shown : (k : List ℕ) → LeftOut fs ms k → is_among (keys js) k ≡ true
    out_shown k l =
        counted_there k (keys js) λ z.
        let o = once_of (field_names fs) (keys merged) e k l.asked in
        let c = left_count k (out_optional k l) l.missing in omega arith

    out_value : (k : List ℕ) → LeftOut fs ms k → value_at k merged ≡ value_at k js
    out_value k l = left_value k (out_optional k l) (out_shown k l)

    in_merged : (k : List ℕ) → is_among (keys ms) k ≡ true → is_among (keys merged) k ≡ true
    in_merged k h = joined_any k (keep_members left_out js) ms ∙ rw h (or-true (any (same k) (keys (keep_members left_out js))))

    good_part : fields_fit fs merged ≡ fits → GoodPart ns fs ms
    unfolding is_left_out
    good_part f = record {
      named = λ k h. named_of (field_names fs) (keys merged) e k (in_merged k h);
      once = λ k h. sym (given_count k h) ∙ once_of (field_names fs) (keys merged) e k (named_of (field_names fs) (keys merged) e k (in_merged k h));
      fitting = λ k d g.
          let r = field_fits fs merged k (field_named fs k d g.asked) f in
          rw (just (sym r.found ∙ g.asked), given_value k g.there) at r.fit;
      allowed = λ k l. (both (any (same k) ns) (not (any (same k) (keys ms))) (out_optional k l)).0;
    }

  -- and what is good is there once and fits, where what is shown does
  module _ (o : each_once (field_names fs) (keys js) ≡ true) (f : fields_fit fs js ≡ fits) (n : keys js ≡ field_names fs) (g : GoodPart ns fs ms) where
    name_once : (k : List ℕ) → is_among (field_names fs) k ≡ true → count (same k) (keys merged) ≡ 1
    name_once k h = go (any (same k) (keys ms)) refl
      where
        go : (b : Bool) → any (same k) (keys ms) ≡ b → count (same k) (keys merged) ≡ 1
        go true e = given_count k e ∙ g.once k e
        go false e =
            left_count k (optional_out k (g.allowed k (record { asked = h; missing = e })) e) e ∙ once_of (field_names fs) (keys js) o k h

    key_named : (k : List ℕ) → is_among (keys merged) k ≡ true → is_among (field_names fs) k ≡ true
    key_named k h = go (any (same k) (keys ms)) refl (any (same k) (keys (keep_members left_out js))) refl (sym (joined_any k (keep_members left_out js) ms) ∙ h)
      where
        go : (b : Bool) → any (same k) (keys ms) ≡ b → (c : Bool) → any (same k) (keys (keep_members left_out js)) ≡ c → (c || b) ≡ true
            → any (same k) (field_names fs) ≡ true
        go true e c q z = g.named k e
        go false e false q z = absurd (false≢true z)
        go false e true q z = named_of (field_names fs) (keys js) o k (counted_there k (keys js) λ y.
            there_counted k (keys (keep_members left_out js)) q (kept_count left_out k js ∙ rw y (none_either (left_out k))))
          where
            none_either : (b : Bool) → ◌≡◌ {A = ℕ} (cond b 0 0) 0
            none_either true = refl
            none_either false = refl

    good_once : each_once (field_names fs) (keys merged) ≡ true
    good_once = once_all (field_names fs) (keys merged) name_once key_named

    names_differ : distinct (field_names fs) ≡ true
    unfolding each_once
    names_differ =
        once_distinct (field_names fs)
        (rw n at (both (all (λ k. eqb (count (same k) (keys js)) 1) (field_names fs)) (all (λ k. any (same k) (field_names fs)) (keys js)) o).0)

    good_fits : fields_fit fs merged ≡ fits
    good_fits = fields_fit_lem fs merged names_differ λ k d e. go k d e (any (same k) (keys ms)) refl
      where
        go : (k : List ℕ) (d : Datainfo) → field_of k fs ≡ Some d → (b : Bool) → any (same k) (keys ms) ≡ b → fit d (value_at k merged) ≡ fits
        go k d e true h = rw (given_value k h) (g.fitting k d (record { asked = e; there = h }))
        go k d e false h =
            let a = field_named fs k d e in
            let l : LeftOut fs ms k = record { asked = a; missing = h } in
            let r = field_fits fs js k a f in
            rw (out_value good_once k l) (rw (just (sym r.found ∙ e)) at r.fit)

  -- what is stored of it
  abbrev zs : Members
  zs = ordered fs (exchanged fs merged)

  stored_value : (k : List ℕ) (d : Datainfo) → field_of k fs ≡ Some d → value_at k zs ≡ numbered d (value_at k merged)
  stored_value k d e = ordered_value fs (exchanged fs merged) k (field_named fs k d e) ∙ Listed.stored_at fs merged k d e

  merged_is : js ≡ ordered fs (exchanged fs js) → each_once (field_names fs) (keys merged) ≡ true → fields_fit fs merged ≡ fits → Merged fs js ms zs
  merged_is i e f = record {
    order = ordered_keys fs (exchanged fs merged);
    kept = λ k l.
        let r = field_fits fs merged k l.asked f in
        stored_value k r.d r.found ∙ ap (numbered r.d) (out_value e k l) ∙ sym (shown_value_lem k r.d r.found);
    given = λ k d g. stored_value k d g.asked ∙ ap (numbered d) (given_value k g.there);
  }
    where
      -- what is shown is in stored form
      shown_value_lem : (k : List ℕ) (d : Datainfo) → field_of k fs ≡ Some d → value_at k js ≡ numbered d (value_at k js)
      shown_value_lem k d h = ap (value_at k) i ∙ ordered_value fs (exchanged fs js) k (field_named fs k d h) ∙ Listed.stored_at fs js k d h

  form_is : form_of (partial ns fs) (Some (Json.object merged)) ≡ compact (Json.object zs)
  unfolding form_of within as_object
  form_is = ap compact (stored_part ns fs (Json.object merged))

  -- its verdict
  abbrev member_verdict : Verdict
  member_verdict = cond (each_once (field_names fs) (keys merged)) (fields_fit fs merged) wrongType

  abbrev size_verdict : Verdict
  size_verdict = in_range (leb (length (form_of (partial ns fs) (Some (Json.object merged)))) 256)

  verdict_is : verdict_of (partial ns fs) (Some (Json.object merged)) ≡ worse member_verdict size_verdict
  unfolding verdict_of value_verdict fit expect as_object
  verdict_is = refl

-- ## Of a text, and what is shown

module _ (ns : List (List ℕ)) (fs : Fields) (xs : List ℕ) (ms : Members) (t : text xs ≡ Some (Json.object ms)) where
  object_changed : (shown : Option Json) → completed_of shown (partial ns fs) (text xs) ≡ Some (Json.object (merged ns fs (members_of shown) ms))
  unfolding completed_of completed at_top as_partial within as_object
  object_changed shown = rw t

  changed_verdict : (shown : Option Json) (js : Members) → members_of shown ≡ js
      → change_verdict shown (partial ns fs) xs ≡ verdict_of (partial ns fs) (Some (Json.object (merged ns fs js ms)))
  unfolding change_verdict
  changed_verdict shown js e = ap (verdict_of (partial ns fs)) (object_changed shown ∙ ap (λ js. Some (Json.object (merged ns fs js ms))) e)

  changed_form : (shown : Option Json) (js : Members) → members_of shown ≡ js
      → change_form shown (partial ns fs) xs ≡ form_of (partial ns fs) (Some (Json.object (merged ns fs js ms)))
  unfolding change_form
  changed_form shown js e = ap (form_of (partial ns fs)) (object_changed shown ∙ ap (λ js. Some (Json.object (merged ns fs js ms))) e)

  required_out : (shown : Option Json) (j : List ℕ) → LeftOut fs ms j → is_among ns j ≡ false → change_verdict shown (partial ns fs) xs ≡ wrongType
  required_out shown j l e =
      changed_verdict shown (members_of shown) refl
      ∙ wrong_text ns fs (merged ns fs (members_of shown) ms) j l.asked
      (missing ns fs (members_of shown) ms j (required_not ns fs (members_of shown) ms j e) l.missing)

  none_shown : (j : List ℕ) → LeftOut fs ms j → change_verdict None (partial ns fs) xs ≡ wrongType
  unfolding keep_members join_members
  none_shown j l = changed_verdict None no_members refl ∙ wrong_text ns fs ms j l.asked (count_none j (keys ms) l.missing)

  nothing_out : (shown : Option Json) → keep_members (is_left_out ns ms) (members_of shown) ≡ no_members
      → (change_verdict shown (partial ns fs) xs ≡ verdict (partial ns fs) xs) × (change_form shown (partial ns fs) xs ≡ stored_form (partial ns fs) xs)
  unfolding change_verdict change_form verdict stored_form join_members
  nothing_out shown e =
      let h : completed_of shown (partial ns fs) (text xs) ≡ text xs = object_changed shown ∙ ap (λ js. Some (Json.object (join_members js ms))) e ∙ sym t in
      (ap (verdict_of (partial ns fs)) h, ap (form_of (partial ns fs)) h)

  all_given : (js : Members) → ((k : List ℕ) → is_among (keys js) k ≡ true → is_among (field_names fs) k ≡ true) → ((k : List ℕ) → LeftOut fs ms k → ⊥)
      → keep_members (is_left_out ns ms) js ≡ no_members
  all_given js n h = none_kept (is_left_out ns ms) js λ k e. go k (n k e) (any (same k) (keys ms)) refl
    where
      go : (k : List ℕ) → is_among (field_names fs) k ≡ true → (b : Bool) → any (same k) (keys ms) ≡ b → is_left_out ns ms k ≡ false
      go k a true e = given_not ns fs js ms k e
      go k a false e = absurd (h k (record { asked = a; missing = e }))

-- ## Of a node

module _ (n : Node) (k : ℕ) (p : Placed Parameter) (ns : List (List ℕ)) (fs : Fields) (d : p.it.datainfo ≡ partial ns fs) (xs : List ℕ) (ms : Members)
    (t : text xs ≡ Some (Json.object ms)) where
  judged_as_lem : (h : Held) → (n.values k).held ≡ h → judged_at n.values (k, p) xs ≡ change_verdict (shown_value h) (partial ns fs) xs
  judged_as_lem h e = ap₂ (λ h d. change_verdict (shown_value h) d xs) e d

  stored_as : (h : Held) → (n.values k).held ≡ h → stored_at n.values (k, p) xs ≡ change_form (shown_value h) (partial ns fs) xs
  stored_as h e = ap₂ (λ h d. change_form (shown_value h) d xs) e d

  shown_members : (v : List ℕ) (s : Shows fs v) → members_of (shown_value (valued v)) ≡ s.js
  unfolding shown_value or_none as_object
  shown_members v s = rw s.is

  module _ (v : List ℕ) (e : (n.values k).held ≡ valued v) (s : Shows fs v) where
    judged_is : judged_at n.values (k, p) xs ≡ worse (member_verdict ns fs s.js ms) (size_verdict ns fs s.js ms)
    judged_is =
        judged_as_lem (valued v) e
        ∙ changed_verdict ns fs xs ms t (shown_value (valued v)) s.js (shown_members v s)
        ∙ verdict_is ns fs s.js ms

    stored_is : stored_at n.values (k, p) xs ≡ form_of (partial ns fs) (Some (Json.object (merged ns fs s.js ms)))
    stored_is = stored_as (valued v) e ∙ changed_form ns fs xs ms t (shown_value (valued v)) s.js (shown_members v s)

    once_and_fit : judged_at n.values (k, p) xs ≡ fits
        → (each_once (field_names fs) (keys (merged ns fs s.js ms)) ≡ true) × (fields_fit fs (merged ns fs s.js ms) ≡ fits)
    once_and_fit f = cond_fits _ _ (worse_both (member_verdict ns fs s.js ms) (size_verdict ns fs s.js ms) (sym judged_is ∙ f)).0

    let_in_lem : GoodPart ns fs ms → length (stored_at n.values (k, p) xs) ≤ 256 → judged_at n.values (k, p) xs ≡ fits
    unfolding in_range
    let_in_lem g l =
        let i : keys s.js ≡ field_names fs = ap keys s.in_order ∙ ordered_keys fs (exchanged fs s.js) in
        judged_is
        ∙ both_worse (rw (good_once ns fs s.js ms s.once s.fit i g) (good_fits ns fs s.js ms s.once s.fit i g))
        (rw (le-leb (length (form_of (partial ns fs) (Some (Json.object (merged ns fs s.js ms))))) 256 (rw stored_is at l)))

    where_shown_lem : WhereShown n k p ns fs xs ms v
    where_shown_lem = record {
      shown = s.js;
      is = s.compact_is;
      let_in = let_in_lem;
      good = λ f. let c = once_and_fit f in good_part ns fs s.js ms c.0 c.1;
      zs = zs ns fs s.js ms;
      stored = stored_is ∙ form_is ns fs s.js ms;
      merged = λ f. let c = once_and_fit f in merged_is ns fs s.js ms s.in_order c.0 c.1;
    }

  whole_as : (h : Held) → (n.values k).held ≡ h → keep_members (is_left_out ns ms) (members_of (shown_value h)) ≡ no_members
      → (judged_at n.values (k, p) xs ≡ verdict p.it.datainfo xs) × (stored_at n.values (k, p) xs ≡ stored_form p.it.datainfo xs)
  whole_as h e q =
      let r = nothing_out ns fs xs ms t (shown_value h) q in
      (judged_as_lem h e ∙ r.0 ∙ ap (λ d. verdict d xs) (sym d), stored_as h e ∙ r.1 ∙ ap (λ d. stored_form d xs) (sym d))

  whole : ((j : List ℕ) → LeftOut fs ms j → ⊥) → (h : Held) → (n.values k).held ≡ h → HeldFits p.it h
      → (judged_at n.values (k, p) xs ≡ verdict p.it.datainfo xs) × (stored_at n.values (k, p) xs ≡ stored_form p.it.datainfo xs)
  unfolding shown_value keep_members
  whole o (valued v) e f =
      let s = shows ns fs v (rw d at f) in
      whole_as (valued v) e
      (ap (keep_members (is_left_out ns ms)) (shown_members v s)
      ∙ all_given ns fs xs ms t s.js (λ j h. named_of (field_names fs) (keys s.js) s.once j h) o)
  whole o (failed f) e g = whole_as (failed f) e refl

  changed_in_part : HeldFits p.it (n.values k).held → ChangedInPart n k p ns fs xs ms
  unfolding shown_value
  changed_in_part f = record {
    where_shown = λ v e. where_shown_lem v e (shows ns fs v (rw d at (held_fits v e)));
    in_error = λ c e j l. judged_as_lem (failed c) e ∙ none_shown ns fs xs ms t j l;
    required = λ j l e. judged_as_lem (n.values k).held refl ∙ required_out ns fs xs ms t (shown_value (n.values k).held) j l e;
    whole = λ o. whole o (n.values k).held refl f;
  }
    where
      held_fits : (v : List ℕ) → (n.values k).held ≡ valued v → is_stored p.it.datainfo v ≡ true
      held_fits v e = rw e at f

-- ## Everything else

same_whole : (shown : Option Json) (d : Datainfo) (xs : List ℕ) → completed_of shown d (text xs) ≡ text xs
    → (change_verdict shown d xs ≡ verdict d xs) × (change_form shown d xs ≡ stored_form d xs)
unfolding change_verdict change_form verdict stored_form
same_whole shown d xs e = (ap (verdict_of d) e, ap (form_of d) e)

no_object : (shown : Option Json) (d : Datainfo) (o : Option Json) → ((ms : Members) → o ≡ Some (Json.object ms) → ⊥) → completed_of shown d o ≡ o
unfolding completed_of as_object
no_object shown d None h = refl
no_object shown d (Some null) h = ap Some (same_scalar shown d null refl)
no_object shown d (Some (boolean b)) h = ap Some (same_scalar shown d (boolean b) refl)
no_object shown d (Some (Json.number t)) h = ap Some (same_scalar shown d (Json.number t) refl)
no_object shown d (Some (Json.string s)) h = ap Some (same_scalar shown d (Json.string s) refl)
no_object shown d (Some (Json.array is)) h = ap Some (same_scalar shown d (Json.array is) refl)
no_object shown d (Some (Json.object ms)) h = absurd (h ms refl)

others : (values : ℕ → Value) (k : ℕ × Placed Parameter) (xs : List ℕ) → (as_partial k.1.it.datainfo ≡ None) ⊎ NoObject xs
    → (judged_at values k xs ≡ verdict k.1.it.datainfo xs) × (stored_at values k xs ≡ stored_form k.1.it.datainfo xs)
others values k xs (inl e) = same_whole _ k.1.it.datainfo xs (sym (Whole.same_other _ k.1.it.datainfo e (text xs)))
others values k xs (inr h) = same_whole _ k.1.it.datainfo xs (no_object _ k.1.it.datainfo (text xs) h)

elsewhere : (ns : List (List ℕ)) (fs : Fields) (ms : Members) (j : List ℕ) → LeftOut fs ms j
    → (fit (partial ns fs) (Json.object ms) ≡ wrongType)
    × ((xs : List ℕ) → text xs ≡ Some (Json.object ms) → verdict (partial ns fs) xs ≡ wrongType)
unfolding verdict
elsewhere ns fs ms j l =
    let z = count_none j (keys ms) l.missing in
    (wrong_value ns fs ms j l.asked z, λ xs t. ap (verdict_of (partial ns fs)) t ∙ wrong_text ns fs ms j l.asked z)

pub parts_are_merged : PartsAreMerged
parts_are_merged = record {
  changes = λ w n s k p h ns fs d xs ms t. changed_in_part n k p ns fs d xs ms t (s.values k p h).0;
  elsewhere = elsewhere;
  others = others;
}
