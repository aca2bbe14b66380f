-- The ways out of a request to change a parameter. Assumes nothing.
use Rattle.std.specs.Prelude.{Result, Ok, Err}
use Prim.Native.Nat.{ℕ, ◌≤◌}
use mathlib.Core.Path.{◌≡◌, refl, sym, subst, ◌∙◌}
use mathlib.Core.List.{List, ◌∷◌, ◌++◌}
use lib.ListN.{length, drop}
use Rattle.ascii.specs.Numbers.{latest}
use Rattle.datainfo.specs.Layout.{datainfo_at}
use Rattle.fit.specs.Fit.{stored_form}
use Rattle.form.proofs.Stored.{stored}
use Rattle.table.specs.declared.layout.ParameterAt.{ParameterAt}
use Rattle.table.specs.Layout.{table_of}
use Rattle.table.specs.Table.{Parameter}
use Rattle.table.specs.Search.{Placed}
use Rattle.search.specs.Clauses.Found.{ParameterFound}
use Rattle.message.specs.Error.{class}
use Rattle.message.specs.Reply.{valued, changed}
use Rattle.message.specs.Clauses.Said.{class_of, report_of}
use Rattle.message.specs.declared.say.Class.{Class}
use Rattle.outbox.specs.Outbox.{order_change}
use Rattle.plain.specs.Node.{client_numbers, updates_to}
use Rattle.plain.specs.Answer as Plain
use Rattle.plain.specs.Answer.{denied, busy, sets}
use Rattle.state.specs.declared.State.{State}
use Rattle.state.specs.View.{client_at, view}
use Rattle.outcome.specs.Clauses.Ready.{Ready}
use Rattle.outcome.specs.Clauses.Outcome.{IsDenied, Stores, OutcomeIs, OfParameter}
use Rattle.outcome.specs.declared.Outcome.{Outcome}
use Rattle.outcome.specs.declared.Outcome.TheVariants.{Denied}
use Rattle.access.specs.Clauses.Busy.{status_updates}
use Rattle.access.specs.Clauses.Set.{set_records, Settable, Accepts, IsSet, IsSetBy}
use Rattle.access.specs.Clauses.Whole.{changes_whole}
use Rattle.access.specs.Clauses.Judged.{JudgesChange}
use Rattle.access.proofs.Finding.{ParameterKnown, parameter_known, the_parameter}
use Rattle.access.proofs.Judgements.{judged_denied, judged_let_in, judged_fits, judged_fitting}
use Rattle.access.proofs.Statuses.{settings_stand, updates_stand, status_holds, area_stands}

module _ (s : List ℕ) (st : State) (values out : List ℕ) (c t : ℕ) (g : Ready s st values out c) (m a xs : List ℕ)
    (k h : ℕ) (q : ParameterAt) (f : ParameterFound s m a k h q) (v : Result Unit Class) (j : JudgesChange (datainfo_at (drop q.info s)) q.readonly xs v) where
  p : ParameterKnown s m a k h q
  p = parameter_known s g.lent.accepted m a k h q f

  abbrev change : ℕ × Placed Parameter → Plain.Outcome
  change x = changes_whole (table_of s) (view s st values) c t xs x

  abbrev setting : Plain.Outcome
  setting = sets (table_of s) (view s st values) c t (k, p.it) (stored_form p.it.it.datainfo xs)

  pub change_denied : (e : Class) → v ≡ Err e → OfParameter s st values out c t (Denied e) values out m a (λ w n c t. changes_whole w n c t xs)
  change_denied e z =
      the_parameter p (λ x. IsDenied (table_of s) (view s st values) c t out out values values (change x) (denied (class (class_of e))))
      (record { is = judged_denied s m a xs k h q p v j _ e z; quiet = refl; area = refl })

  module _ (z : v ≡ Ok tt) where
    is_set : change (k, p.it) ≡ setting
    is_set = judged_let_in s m a xs k h q p v j (sets (table_of s) (view s st values) c t) z

    pub change_settable : t ≤ latest → Settable out k h m a t × Accepts s q.info values xs
    change_settable l = (
      record {
        low = p.low;
        home_low = p.home_low;
        module_name_lem = p.good_module;
        name = p.good_name;
        in_time = l;
        room = g.lent.room;
      },
      record {
        accepted = g.lent.accepted;
        fitting = judged_fitting s m a xs k h q p v j z;
        area = g.area;
      },
    )

    abbrev value : List ℕ
    value = stored_form p.it.it.datainfo xs

    was_set : (stored-values after : List ℕ) (o : Outcome) → (i : IsSet s p.it.it.datainfo st.clients c k h m a xs t values out o stored-values after)
        → Stores (table_of s) (view s st values) c t out after values stored-values (change (k, p.it)) i.first k (length value) i.written
    unfolding sets set_records view
    was_set stored-values after o i =
        let set = settings_stand s m a g.lent.accepted i.first i.finds p.it p.module_named p.named t in
        let told = updates_stand s m a g.lent.accepted i.first i.finds p.it p.module_named p.named st.clients t in
        record {
          text = value;
          status = status_holds s m a g.lent.accepted i.first i.finds p.it p.module_named p.named;
          holds = record { parameter = p.it; there = p.there; fits = stored p.it.it.datainfo xs p.in_table (judged_fits s m a xs k h q p v j z) };
          long = refl;
          carries =
              record {
                records =
                    order_change c k value
                    ∷ (status_updates st.clients i.first m busy t ++ updates_to (client_at st.clients) h (report_of m a (valued value) t) client_numbers);
                reply = changed (report_of m a (valued value) t);
                is = is_set ∙ rw (set, told, p.home, p.module_named, p.named);
                puts = i.puts;
              };
          area = i.area ∙ area_stands values i.first k value t;
        }

    pub change_set : (o : Outcome) (stored-values after : List ℕ)
        → IsSetBy s (datainfo_at (drop q.info s)) st.clients c k h m a xs t values out o stored-values after
        → OfParameter s st values out c t o stored-values after m a (λ w n c t. changes_whole w n c t xs)
    change_set o stored-values after by =
        let i = by.is p.info in
        the_parameter p (λ x. OutcomeIs (table_of s) (view s st values) c t out after values stored-values o (change x))
        (subst (λ (r : Outcome). OutcomeIs (table_of s) (view s st values) c t out after values stored-values r (change (k, p.it))) (sym i.is)
        (was_set stored-values after o i))
