-- What a change leaves out is filled in from what the parameter shows, in bytes of its own; what comes of it is judged and stored as it is. Assumes
-- nothing.
use Rattle.std.specs.Prelude.{Some, None}
use Prim.Native.Nat.{ℕ, ◌+◌, ◌≤◌, ◌<◌}
use native.Mathlib.Omega.{arith}
use mathlib.Core.Path.{◌≡◌, refl, ap, subst, ◌∙◌}
use mathlib.Core.List.{List, []}
use lib.ListN.{length, get_or, take, drop}
use Rattle.ascii.specs.Bytes.{head, drop_while, is_in}
use Rattle.decimal.specs.Token as Token
use Rattle.json_text.specs.Json as Json
use Rattle.json_text.specs.Json.{Json, text, spaced, bare}
use Rattle.datainfo.specs.Layout.{datainfo_at}
use Rattle.fit.specs.Fit.{completed_of}
use Rattle.form.specs.Clauses.Merged.{ShownBy, ShownAt, Completes}
use Rattle.form.specs.Clauses.Merged as Merged
use Rattle.form.proofs.Stored.{short_stored, change_verdict_lem, change_form_lem}
use Rattle.message.specs.Error.{fault_of}
use Rattle.message.specs.Clauses.Said.{sensor_fault}
use Rattle.message.specs.declared.say.Fault.{Fault}
use Rattle.message.specs.declared.say.Sensor.{Sensor}
use Rattle.message.specs.declared.say.Sensor.TheVariants.{Works, Fails}
use Rattle.table.specs.Clauses.At.{Inside}
use Rattle.table.specs.declared.layout.ParameterAt.{ParameterAt}
use Rattle.table.specs.Layout.{table_of}
use Rattle.table.specs.Table.{Parameter}
use Rattle.table.specs.Search.{Placed, find_parameter}
use Rattle.plain.specs.Node as Node
use Rattle.plain.specs.Answer as Plain
use Rattle.plain.specs.Answer.{shown_value, sets, shows, judging, changes, checks}
use Rattle.sound.specs.Theorems.{ValueHeld}
use Rattle.search.specs.Clauses.Found.{ParameterFound}
use Rattle.state.specs.declared.State.{State}
use Rattle.state.specs.View.{shown_bytes, view}
use Rattle.outcome.specs.Clauses.Ready.{Ready}
use Rattle.outcome.specs.Clauses.Outcome.{OutcomeIs, OfParameter}
use Rattle.outcome.specs.declared.Outcome.{Outcome}
use Rattle.access.specs.Clauses.Whole.{judging_whole, changes_whole, checks_whole, Fillable, Fills}
use Rattle.access.proofs.Finding.{ParameterKnown, parameter_known, info_known, the_parameter}
use Rattle.access.proofs.Showing.{read_lies, holds, is_value, held_fits}

text_none : text [] ≡ None
unfolding text spaced bare Json.scalar head drop_while Token.number Token.int Token.minus Token.digits is_in
text_none = refl

-- ## Filling in

module _ (s : List ℕ) (st : State) (values m a : List ℕ) (k h : ℕ) (q : ParameterAt) (xs whole : List ℕ) (g : Fillable s st values m a k h q xs whole) where
  abbrev p : ParameterKnown s m a k h q
  p = parameter_known s g.ready.lent.accepted m a k h q g.found

  pub fill_low : k < 64
  fill_low = p.low

  pub fill_lies : (Inside s q.initial) × ((k < 64) × ((get_or st.settings.length k 0 ≤ 256) × (16384 ≤ length values)))
  fill_lies = read_lies s st values g.out g.client g.ready m a k h q g.found

  -- of the parameter that the names find
  filled : (shown after : List ℕ) (r : ℕ) → Completes (datainfo_at (drop q.info s)) shown xs whole after r
      → text shown ≡ shown_value ((view s st values).values k).held → Fills s st values m a xs whole after r
  filled shown after r c e =
      record {
        size = c.size;
        within = c.within;
        is =
            the_parameter p
            (λ x. text (take r after) ≡ completed_of (shown_value ((view s st values).values x.0).held) x.1.it.datainfo (text xs))
            (c.is p.info ∙ ap (λ y. completed_of y p.it.it.datainfo (text xs)) e);
      }

  -- nothing is shown where it is in error
  pub none_given : ShownAt s q.info [] × (length xs + length {A = ℕ} [] + 2 ≤ length whole)
  none_given = (record { reads = info_known p; shown = Merged.nothing refl }, omega (arith, g.short, g.room))

  module _ (r : Sensor) (hr : sensor_fault r ≡ fault_of (get_or st.settings.error k 0)) where
    pub none_filled : (e : Fault) → r ≡ Fails e → (after : List ℕ) (end : ℕ) → Completes (datainfo_at (drop q.info s)) [] xs whole after end
        → Fills s st values m a xs whole after end
    unfolding shown_value
    none_filled e z after end c =
        filled [] after end c
        (text_none ∙ rw (holds s st values g.out g.client g.ready m a k h q g.found r hr, z) refl)

    module _ (w : r ≡ Works) (v : List ℕ) (hv : v ≡ shown_bytes s st.settings values k q.initial) where
      is_shown : (view s st values).values k ≡ Node.showing v (get_or st.settings.time k 0)
      is_shown = is_value s st values g.out g.client g.ready m a k h q g.found r hr w v hv

      fits : ValueHeld p.it.it (Node.showing v (get_or st.settings.time k 0))
      fits = subst (ValueHeld p.it.it) is_shown (held_fits s st values g.out g.client g.ready m a k h q g.found)

      pub shown_given : ShownAt s q.info v × (length xs + length v + 2 ≤ length whole)
      shown_given =
          let short = short_stored p.it.it.datainfo v fits.0 in (
            record { reads = record { within = p.within; datainfo = p.it.it.datainfo; left = p.left; is = p.info }; shown = Merged.stored fits.0 },
            omega (arith, short, g.short, g.room),
          )

      pub shown_filled : (after : List ℕ) (end : ℕ) → Completes (datainfo_at (drop q.info s)) v xs whole after end
          → Fills s st values m a xs whole after end
      unfolding shown_value
      shown_filled after end c = filled v after end c (rw is_shown refl)

pub fill_given : (s : List ℕ) (st : State) (values out : List ℕ) (c : ℕ) (m a : List ℕ) (k h : ℕ) (q : ParameterAt) (xs whole : List ℕ) → Ready s st values out c
    → ParameterFound s m a k h q → length xs ≤ 1024 → length whole ≡ 1282 → Fillable s st values m a k h q xs whole
fill_given s st values out c m a k h q xs whole g f l i =
    record { out = out; client = c; ready = g; found = f; short = l; room = omega (arith, i) }

-- ## What it comes to

module _ (s : List ℕ) (st : State) (values m a xs before after : List ℕ) (r : ℕ) (g : Fills s st values m a xs before after r) (c t : ℕ) where
  same_judging : (f : ℕ × Placed Parameter → List ℕ → Plain.Outcome) (x : ℕ × Placed Parameter) → find_parameter (table_of s) m a ≡ Some x
      → judging_whole f (take r after) x ≡ judging (table_of s) (view s st values) c t f xs x
  unfolding judging_whole judging
  same_judging f x e =
      let shown = shown_value ((view s st values).values x.0).held in
      let d = x.1.it.datainfo in
      rw (change_verdict_lem shown d xs (take r after) (g.is x e), change_form_lem shown d xs (take r after) (g.is x e))

  module _ (o : Outcome) (out sent stored : List ℕ) where
    pub change_filled : OfParameter s st values out c t o stored sent m a (λ w n c t. changes_whole w n c t (take r after))
        → OfParameter s st values out c t o stored sent m a (λ w n c t. changes w n c t xs)
    unfolding changes
    change_filled i x e =
        subst (OutcomeIs (table_of s) (view s st values) c t out sent values stored o) (same_judging (sets (table_of s) (view s st values) c t) x e) (i x e)

    pub check_filled : OfParameter s st values out c t o stored sent m a (λ w n c t. checks_whole w n c t (take r after))
        → OfParameter s st values out c t o stored sent m a (λ w n c t. checks w n c t xs)
    unfolding checks
    check_filled i x e =
        subst (OutcomeIs (table_of s) (view s st values) c t out sent values stored o) (same_judging (shows (table_of s) (view s st values) c t) x e) (i x e)
