-- What is stored is in stored form and fits: in table order, what is read back, and the texts. Assumes nothing.
use Rattle.std.specs.Prelude.{Option, Some, None}
use Prim.Native.Nat.{ℕ, ◌≤◌, ◌<◌}
use native.Mathlib.Omega.{arith}
use mathlib.Core.Bool.{Bool, true, false, cond, ◌&&◌, false≢true}
use mathlib.Core.List.{List, [], ◌∷◌}
use mathlib.Core.Path.{◌≡◌, refl, sym, ap, ap₂, ◌∙◌}
use lib.Dec.{leb}
use lib.ListN.{length}
use borrow.Author.Tests.{leb-true}
use Rattle.ascii.specs.Bytes.{is_some, all, same, head, drop_while, is_in}
use Rattle.ascii.specs.Names.{is_name}
use Rattle.ascii.proofs.Lists.{both, same_self, same_is}
use Rattle.decimal.specs.Token.{digits, minus, int, number}
use Rattle.json_text.specs.Json.{Json, null, Members, no_members, member, spaced, bare, scalar, text, compact}
use Rattle.json_text.specs.Readable.{Readable, ReadableMembers}
use Rattle.json_text.proofs.ReadBack.{readable_trees}
use Rattle.datainfo.specs.Datainfo.{Datainfo, partial, struct, Fields, Parts, field_names}
use Rattle.datainfo.specs.Rules.{good_names, names_good, fields_names_good}
use Rattle.fit.specs.Fit as Fit
use Rattle.fit.specs.Fit.{Verdict, fits, wrongType, badJSON, worse, in_range, expect, as_object, keys, each_once, fields_fit, fit}
use Rattle.fit.specs.Fit.{within, on_members, map_members, numbered, numbered_at, as_partial, at_top, ordered, in_order}
use Rattle.fit.specs.Fit.{keep_members, join_members, is_left_out, or_none, members_of, completed, completed_of, change_verdict, change_form}
use Rattle.fit.specs.Fit.{value_verdict, verdict_of, verdict, form_of, stored_form, is_fit, is_stored}
use Rattle.form.specs.Numbers.{if_any, numbers_only}
use Rattle.form.specs.Theorems.{InTable, ReadableShown, StoredForms}
use Rattle.form.proofs.Verdicts.{worse_both, both_worse, in_range_lem, cond_fits, fit_is, is_fit_lem}
use Rattle.form.proofs.Trees.{on_on, on_same, members_readable, map_keys, map_again, map_members_lem}
use Rattle.form.proofs.Short.{Short, read_short}
use Rattle.form.proofs.Exchange.{FitsByNumbers, numbered_twice, at_twice, numbered_readable, at_readable, fits_numbered, good_distinct, at_null}
use Rattle.form.proofs.Ordered.{once_among, among_self, once_self, ordered_keys, order_fit, order_numbers, ordered_twice, ordered_map, ordered_readable}

-- ## Type 11 at the top level, and any other datainfo

by_top : (P : Datainfo → Type 0) → ((d : Datainfo) → as_partial d ≡ None → P d) → ((ns : List (List ℕ)) (fs : Fields) → P (partial ns fs))
    → (d : Datainfo) → P d
unfolding as_partial
by_top P h g (Datainfo.double lo hi) = h (Datainfo.double lo hi) refl
by_top P h g (Datainfo.int lo hi) = h (Datainfo.int lo hi) refl
by_top P h g Datainfo.bool = h Datainfo.bool refl
by_top P h g (Datainfo.enum vs) = h (Datainfo.enum vs) refl
by_top P h g (Datainfo.string lo hi) = h (Datainfo.string lo hi) refl
by_top P h g (Datainfo.array lo hi d) = h (Datainfo.array lo hi d) refl
by_top P h g (Datainfo.tuple ds) = h (Datainfo.tuple ds) refl
by_top P h g (struct fs) = h (struct fs) refl
by_top P h g (Datainfo.scaled s lo hi) = h (Datainfo.scaled s lo hi) refl
by_top P h g (Datainfo.blob lo hi) = h (Datainfo.blob lo hi) refl
by_top P h g (partial ns fs) = g ns fs

pub stored_other : (d : Datainfo) (v : Json) → as_partial d ≡ None → Fit.stored d v ≡ numbered d v
unfolding Fit.stored in_order at_top
stored_other d v e = rw e

-- its members are exchanged and put in order
module _ (ns : List (List ℕ)) (fs : Fields) where
  abbrev exchange : Members → Members
  exchange = map_members (λ k w. numbered_at k fs w)

  pub stored_part : (v : Json) → Fit.stored (partial ns fs) v ≡ on_members (ordered fs) (on_members exchange v)
  unfolding Fit.stored numbered in_order at_top as_partial
  stored_part v = refl

  exchange_order : (ms : Members) → exchange (ordered fs ms) ≡ ordered fs (exchange ms)
  exchange_order ms = sym (ordered_map (λ k w. numbered_at k fs w) (at_null fs) fs ms)

  -- a value that is exchanged and in order stays as it is
  order_stays : (v : Json) → on_members (ordered fs) (on_members exchange (on_members (ordered fs) (on_members exchange v)))
      ≡ on_members (ordered fs) (on_members exchange v)
  order_stays v =
      ap (λ z. on_members (ordered fs) (on_members exchange z)) (on_on (ordered fs) exchange v)
      ∙ ap (on_members (ordered fs)) (on_on exchange (λ ms. ordered fs (exchange ms)) v)
      ∙ on_on (ordered fs) (λ ms. exchange (ordered fs (exchange ms))) v
      ∙ on_same (λ ms. ordered fs (exchange (ordered fs (exchange ms)))) (λ ms. ordered fs (exchange ms)) stays v
      ∙ sym (on_on (ordered fs) exchange v)
    where
      stays : (ms : Members) → ordered fs (exchange (ordered fs (exchange ms))) ≡ ordered fs (exchange ms)
      stays ms =
          ap (ordered fs) (exchange_order (exchange ms))
          ∙ ordered_twice fs (exchange (exchange ms))
          ∙ ap (ordered fs) (map_again (λ k w. numbered_at k fs w) (at_twice fs) ms)

-- ## Once is enough

stored_twice : (d : Datainfo) (v : Json) → Fit.stored d (Fit.stored d v) ≡ Fit.stored d v
stored_twice d v = by_top (λ d. Fit.stored d (Fit.stored d v) ≡ Fit.stored d v)
    (λ d e. stored_other d (Fit.stored d v) e ∙ rw (stored_other d v e) (numbered_twice d v))
    (λ ns fs. rw (stored_part ns fs (Fit.stored (partial ns fs) v), stored_part ns fs v) (order_stays ns fs v))
    d

-- ## It can be read

-- all names are keys of what fits, and keys can be read
order_readable : (n : ℕ) (fs : Fields) (v : Json) → Readable n v → fit (struct fs) v ≡ fits
    → Readable n (on_members (ordered fs) (on_members (map_members (λ k w. numbered_at k fs w)) v))
unfolding fit expect as_object
order_readable n fs v s f =
    let e : List ℕ → Json → Json = λ k w. numbered_at k fs w in
    rw (on_on (ordered fs) (map_members e) v) (members_readable (λ ms. ordered fs (map_members e ms)) n v (λ m ms i q t.
    let c = cond_fits (each_once (field_names fs) (keys ms)) (fields_fit fs ms) (rw q at f) in
    ordered_readable m fs (map_members e ms) (rw (map_keys e ms) (once_among fs (keys ms) c.0))
    (map_members_lem e (λ l k w r. at_readable fs k l w r) m ms t)) s)

stored_readable : (n : ℕ) (d : Datainfo) (v : Json) → Readable n v → fit d v ≡ fits → Readable n (Fit.stored d v)
unfolding fit
stored_readable n d v r = by_top (λ d. fit d v ≡ fits → Readable n (Fit.stored d v))
    (λ d e f. rw (stored_other d v e) (numbered_readable d n v r))
    (λ ns fs f. rw (stored_part ns fs v) (order_readable n fs v r f))
    d

-- ## It fits, with numbers only

order_numbered : (ns : List (List ℕ)) (fs : Fields) → good_names (field_names fs) ≡ true → (u : Json) → FitsByNumbers (partial ns fs) u
    → FitsByNumbers (partial ns fs) (on_members (ordered fs) u)
unfolding fit numbers_only within as_object expect if_any
order_numbered ns fs g null h = h
order_numbered ns fs g (Json.boolean b) h = h
order_numbered ns fs g (Json.number t) h = h
order_numbered ns fs g (Json.string s) h = h
order_numbered ns fs g (Json.array is) h = h
order_numbered ns fs g (Json.object ms) h =
    let c = cond_fits (each_once (field_names fs) (keys ms)) (fields_fit fs ms) h.0 in
    let All-there = among_self fs in (
      rw (ordered_keys fs ms, once_self fs (good_distinct (field_names fs) g), order_fit fs ms fs All-there) c.1,
      rw (order_numbers fs ms fs All-there) h.1,
    )

stored_numbered : (d : Datainfo) (v : Json) → Short d → names_good d ≡ true → fit d v ≡ fits → FitsByNumbers d (Fit.stored d v)
unfolding names_good numbered
stored_numbered d v = by_top (λ d. Short d → names_good d ≡ true → fit d v ≡ fits → FitsByNumbers d (Fit.stored d v))
    (λ d e s g f. rw (stored_other d v e) (fits_numbered d s g v f))
    (λ ns fs s g f. rw (stored_part ns fs v)
    (order_numbered ns fs (both (good_names (field_names fs)) (all is_name ns) (both (good_names (field_names fs) && all is_name ns) (fields_names_good fs) g).0).0 _ (fits_numbered (partial ns fs) s g v f)))
    d

-- ## Verdicts

module _ (d : Datainfo) (v : Json) (e : value_verdict d v ≡ fits) where
  parts : (fit d v ≡ fits) × (in_range (leb (length (compact (Fit.stored d v))) 256) ≡ fits)
  unfolding value_verdict form_of
  parts = worse_both (fit d v) (in_range (leb (length (compact (Fit.stored d v))) 256)) e

  form_short : length (compact (Fit.stored d v)) ≤ 256
  form_short = leb-true (length (compact (Fit.stored d v))) 256 (in_range_lem _ parts.1)

  module _ (i : InTable d) where
    form_numbered : FitsByNumbers d (Fit.stored d v)
    form_numbered = stored_numbered d v (read_short i.levels i.bytes i.left d i.read) i.names parts.0

    form_fits : value_verdict d (Fit.stored d v) ≡ fits
    unfolding value_verdict form_of
    form_fits = rw (stored_twice d v) (both_worse form_numbered.0 parts.1)

-- ## Texts

form_back : (d : Datainfo) (v : Json) → Readable 8 v → fit d v ≡ fits → text (compact (Fit.stored d v)) ≡ Some (Fit.stored d v)
form_back d v r f = readable_trees.read_back (Fit.stored d v) (stored_readable 8 d v r f)

numbers_back_lem : (d : Datainfo) (v : Json) → Readable 8 v → text (compact (numbered d v)) ≡ Some (numbered d v)
numbers_back_lem d v r = readable_trees.read_back (numbered d v) (numbered_readable d 8 v r)

-- the form of what is let in is in stored form
is_stored_lem : (d : Datainfo) (v : Json) → InTable d → Readable 8 v → value_verdict d v ≡ fits → is_stored d (compact (Fit.stored d v)) ≡ true
unfolding is_stored verdict stored_form verdict_of form_of
is_stored_lem d v i r e =
    rw (form_back d v r (parts d v e).0, form_fits d v e i, stored_twice d v) (ap₂ ◌&&◌ (is_fit_lem refl) (same_self (compact (Fit.stored d v))))

module _ (d : Datainfo) (xs : List ℕ) where
  -- a text that fits is a value that fits
  pub fits_value : {S : Type 0} → is_fit (verdict d xs) ≡ true → ((v : Json) → text xs ≡ Some v → fit d v ≡ fits → S) → S
  unfolding verdict verdict_of
  fits_value {S} e f = go (text xs) refl e
    where
      go : (o : Option Json) → text xs ≡ o → is_fit (verdict_of d o) ≡ true → S
      go None q e = let z = fit_is badJSON e in let n : ◌≡◌ {A = ℕ} 0 1 = cc in absurd (omega arith)
      go (Some v) q e = f v q (parts d v (fit_is (value_verdict d v) e)).0

  pub fits_text : is_fit (verdict d xs) ≡ true → is_some (text xs) ≡ true
  fits_text e = fits_value e λ v q f. rw q

  -- its stored form is in stored form
  pub stored : InTable d → is_fit (verdict d xs) ≡ true → is_stored d (stored_form d xs) ≡ true
  unfolding verdict stored_form verdict_of form_of
  stored i e = go (text xs) refl e
    where
      go : (o : Option Json) → text xs ≡ o → is_fit (verdict_of d o) ≡ true → is_stored d (form_of d o) ≡ true
      go None q e = let z = fit_is badJSON e in let n : ◌≡◌ {A = ℕ} 0 1 = cc in absurd (omega arith)
      go (Some v) q e = is_stored_lem d v i (readable_trees.of_texts xs v q) (fit_is (value_verdict d v) e)

  -- and at most 256 bytes
  pub stored_short : is_fit (verdict d xs) ≡ true → length (stored_form d xs) ≤ 256
  unfolding verdict stored_form verdict_of form_of
  stored_short e = go (text xs) e
    where
      go : (o : Option Json) → is_fit (verdict_of d o) ≡ true → length (form_of d o) ≤ 256
      go None e = omega arith
      go (Some v) e = form_short d v (fit_is (value_verdict d v) e)

  -- ## A text in stored form

  module _ (e : is_stored d xs ≡ true) where
    pub stored_fits : is_fit (verdict d xs) ≡ true
    unfolding is_stored
    stored_fits = (both (is_fit (verdict d xs)) (same (stored_form d xs) xs) e).0

    -- it is its own stored form
    pub stored_own : stored_form d xs ≡ xs
    unfolding is_stored
    stored_own = same_is (stored_form d xs) xs (both (is_fit (verdict d xs)) (same (stored_form d xs) xs) e).1

    pub short_stored : length xs ≤ 256
    short_stored = rw stored_own at (stored_short stored_fits)

    -- its value is what is stored of it
    module _ (v : Json) (q : text xs ≡ Some v) where
      own_verdict : value_verdict d v ≡ fits
      unfolding verdict verdict_of
      own_verdict = fit_is (value_verdict d v) (rw q at stored_fits)

      pub own_value_lem : v ≡ Fit.stored d v
      unfolding stored_form form_of
      own_value_lem =
          let f : compact (Fit.stored d v) ≡ xs = rw q at stored_own in
          let b : text xs ≡ Some (Fit.stored d v) = rw f at (form_back d v (readable_trees.of_texts xs v q) (parts d v own_verdict).0) in
          cc

      -- and its text is compact
      pub own_compact : compact v ≡ xs
      unfolding stored_form form_of
      own_compact = ap compact own_value_lem ∙ (rw q at stored_own)

      own_numbers_lem : InTable d → numbers_only d v ≡ true
      own_numbers_lem i = rw own_value_lem (form_numbered d v own_verdict i).1

-- it has one byte at least
pub some_stored : (d : Datainfo) (xs : List ℕ) → is_stored d xs ≡ true → 0 < length xs
unfolding text spaced bare scalar head drop_while number int minus digits is_in
some_stored d [] e = absurd (false≢true (fits_text d [] (stored_fits d [] e)))
some_stored d (x ∷ xs) e = omega arith

-- ## Changes: what is filled in can be read

pub kept_readable : (n : ℕ) (p : List ℕ → Bool) (ms : Members) → ReadableMembers n ms → ReadableMembers n (keep_members p ms)
unfolding keep_members
kept_readable n p no_members r = tt
kept_readable n p (member k v ms) r = go (p k) (kept_readable n p ms r.2)
  where
    go : (b : Bool) → ReadableMembers n (keep_members p ms) → ReadableMembers n (cond b (member k v (keep_members p ms)) (keep_members p ms))
    go true h = (r.0, r.1, h)
    go false h = h

joined_readable : (n : ℕ) (ms ks : Members) → ReadableMembers n ms → ReadableMembers n ks → ReadableMembers n (join_members ms ks)
unfolding join_members
joined_readable n no_members ks r s = s
joined_readable n (member k v ms) ks r s = (r.0, r.1, joined_readable n ms ks r.2 s)

shown_readable : (shown : Option Json) → ReadableShown shown → ReadableMembers 7 (members_of shown)
unfolding or_none as_object
shown_readable None r = tt
shown_readable (Some null) r = tt
shown_readable (Some (Json.boolean b)) r = tt
shown_readable (Some (Json.number t)) r = tt
shown_readable (Some (Json.string s)) r = tt
shown_readable (Some (Json.array is)) r = tt
shown_readable (Some (Json.object ms)) r = r

pub completed_readable : (shown : Option Json) (d : Datainfo) (v : Json) → ReadableShown shown → Readable 8 v → Readable 8 (completed shown d v)
unfolding completed at_top within as_object
completed_readable shown d v p r = go (as_partial d) v r
  where
    go : (o : Option Parts) (v : Json) → Readable 8 v
        → Readable 8 (at_top o (λ m ms. join_members (keep_members (is_left_out m.0 ms) (members_of shown)) ms) v)
    go None v r = r
    go (Some m) null r = r
    go (Some m) (Json.boolean b) r = r
    go (Some m) (Json.number t) r = r
    go (Some m) (Json.string s) r = r
    go (Some m) (Json.array is) r = r
    go (Some m) (Json.object ms) r =
        joined_readable 7 (keep_members (is_left_out m.0 ms) (members_of shown)) ms
        (kept_readable 7 (is_left_out m.0 ms) (members_of shown) (shown_readable shown p)) r

-- a change is judged and stored as the text of what it comes to
module _ (shown : Option Json) (d : Datainfo) (xs : List ℕ) where
  pub change_stored : ReadableShown shown → InTable d → is_fit (change_verdict shown d xs) ≡ true → is_stored d (change_form shown d xs) ≡ true
  unfolding change_verdict change_form completed_of verdict_of form_of
  change_stored p i e = go (text xs) refl e
    where
      go : (o : Option Json) → text xs ≡ o → is_fit (verdict_of d (completed_of shown d o)) ≡ true → is_stored d (form_of d (completed_of shown d o)) ≡ true
      go None q e = let z = fit_is badJSON e in let n : ◌≡◌ {A = ℕ} 0 1 = cc in absurd (omega arith)
      go (Some v) q e =
          is_stored_lem d (completed shown d v) i (completed_readable shown d v p (readable_trees.of_texts xs v q)) (fit_is (value_verdict d (completed shown d v)) e)

  pub change_short : is_fit (change_verdict shown d xs) ≡ true → length (change_form shown d xs) ≤ 256
  unfolding change_verdict change_form completed_of verdict_of form_of
  change_short e = go (text xs) e
    where
      go : (o : Option Json) → is_fit (verdict_of d (completed_of shown d o)) ≡ true → length (form_of d (completed_of shown d o)) ≤ 256
      go None e = omega arith
      go (Some v) e = form_short d (completed shown d v) (fit_is (value_verdict d (completed shown d v)) e)

  -- of a text that is what the change comes to
  module _ (ys : List ℕ) (e : text ys ≡ completed_of shown d (text xs)) where
    pub change_verdict_lem : verdict d ys ≡ change_verdict shown d xs
    unfolding verdict change_verdict
    change_verdict_lem = ap (verdict_of d) e

    pub change_form_lem : stored_form d ys ≡ change_form shown d xs
    unfolding stored_form change_form
    change_form_lem = ap (form_of d) e

pub stored_forms : StoredForms
stored_forms = record {
  read_back = form_back;
  numbers_back = numbers_back_lem;
  again = stored_twice;
  fit = λ d v i e. form_fits d v e i;
  numbers = λ d v i e. (form_numbered d v e i).1;
  forms = stored;
  short = stored_short;
  changes = change_stored;
  short_changes = change_short;
  own = stored_own;
  own_short = short_stored;
  own_value = own_value_lem;
  own_numbers = λ d xs v i e q. own_numbers_lem d xs e v q i;
}
