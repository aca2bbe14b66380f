-- The ways out of a command's request. Assumes nothing.
use Rattle.std.specs.Prelude.{Result, Ok, Err}
use Prim.Native.Nat.{ℕ, ◌≤◌}
use mathlib.Core.Path.{◌≡◌, refl, subst, ◌∙◌}
use mathlib.Core.Bool.{false}
use mathlib.Core.List.{List, [], ◌∷◌}
use lib.ListN.{drop}
use Rattle.ascii.specs.Text.{bytes}
use Rattle.ascii.specs.Numbers.{latest}
use Rattle.fit.specs.Fit.{fits, is_fit, severity}
use Rattle.fit.specs.Clauses.Verdict.{meaning}
use Rattle.table.specs.Layout.{argument_at, table_of}
use Rattle.search.specs.Clauses.Found.{CommandFound}
use Rattle.table.specs.declared.layout.CommandAt.{CommandAt}
use Rattle.message.specs.Error.{class}
use Rattle.message.specs.Reply.{valued, done}
use Rattle.message.specs.Clauses.Said.{class_of, report_of}
use Rattle.message.specs.declared.say.Class.{Class}
use Rattle.outbox.specs.Outbox.{order_command}
use Rattle.plain.specs.Node.{Node}
use Rattle.plain.specs.Answer.{Outcome, denied, carried, let_in, argument_verdict, argument_form, does}
use Rattle.outcome.specs.Clauses.Ready.{Lent}
use Rattle.outcome.specs.Clauses.Outcome.{IsDenied, Sends, OfCommand}
use Rattle.outcome.specs.declared.Outcome.TheVariants.{Denied, Sent}
use Rattle.access.specs.Clauses.Argument.{JudgesArgument, Ordered, Reported, order_records, IsOrdered}
use Rattle.access.specs.Clauses.Judged.{Lets}
use Rattle.access.proofs.Finding.{CommandKnown, command_known, the_command}
use Rattle.fit.specs.declared.Misfit.{Misfit}

module _ (s out : List ℕ) (c t : ℕ) (l : Lent s out c) (m a xs : List ℕ) (k h : ℕ) (q : CommandAt) (f : CommandFound s m a k h q)
    (v : Result Unit Misfit) (j : JudgesArgument (argument_at q.argument (drop q.info s)) xs v) (r : Result Unit Class) (d : Lets false (meaning v) r) where
  g : CommandKnown s m a k q
  g = command_known s l.accepted m a k h q f

  judged_is : meaning v ≡ argument_verdict g.it.it.argument xs
  judged_is = j.is g.argument

  abbrev ordered : Node → Outcome
  ordered n = carried n [] (order_command c k (argument_form g.it.it.argument xs) ∷ []) (done (report_of m a (valued (bytes "null")) t))

  let_in_lem : (n : Node) → does (table_of s) n c t xs (k, g.it) ≡ let_in (meaning v) (ordered n)
  unfolding does
  let_in_lem n = rw (judged_is, g.module_named, g.named)

  pub execute_denied : (e : Class) → r ≡ Err e → OfCommand s out c t (Denied e) out m a (λ w n c t. does w n c t xs)
  execute_denied e z n values =
      the_command g (λ x. IsDenied (table_of s) n c t out out values values (does (table_of s) n c t xs x) (denied (class (class_of e))))
      (record { is = let_in_lem n ∙ subst (Lets false (meaning v)) z d (ordered n); quiet = refl; area = refl })

  module _ (z : r ≡ Ok tt) where
    fits_it : meaning v ≡ fits
    fits_it = (subst (Lets false (meaning v)) z d).1

    pub execute_ordered : t ≤ latest → Ordered s q.info out k q.argument xs × Reported m a t
    unfolding is_fit severity
    execute_ordered i = (
      record {
        low = g.low;
        argument =
            record {
              reads = record { within = g.within; argument = g.it.it.argument; left = g.left; is = g.argument };
              fits = rw (← judged_is, fits_it);
            };
        room = l.room;
      },
      record { module_name_lem = g.good_module; name = g.good_name; in_time = i },
    )

    pub execute_sent : (after : List ℕ) (written : ℕ)
        → IsOrdered (argument_at q.argument (drop q.info s)) c k xs m a t out after written
        → OfCommand s out c t (Sent written) after m a (λ w n c t. does w n c t xs)
    unfolding let_in order_records
    execute_sent after written p n values =
        the_command g (λ x. Sends (table_of s) n c t out after values values (does (table_of s) n c t xs x) written)
        (record {
          carries =
              record {
                records = order_command c k (argument_form g.it.it.argument xs) ∷ [];
                reply = done (report_of m a (valued (bytes "null")) t);
                is = let_in_lem n ∙ rw fits_it;
                puts = p.is g.argument;
              };
          unstored = refl;
        })
