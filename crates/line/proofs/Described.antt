-- Laws of `describe`: its record is written in three steps, the start, the report and the line feed. Assumes nothing.
use Prim.Native.Nat.{ℕ, ◌+◌, ◌≤◌, ◌<◌}
use native.Mathlib.Omega.{arith}
use mathlib.Core.Path.{◌≡◌, refl, subst}
use mathlib.Core.List.{List, [], ◌∷◌, ◌++◌}
use lib.ListN.{length, length-append}
use Rattle.ascii.specs.Text.{bytes}
use Rattle.ascii.specs.Numbers.{two_bytes}
use Rattle.ascii.specs.Clauses.Writer.{Puts}
use Rattle.ascii.proofs.Puts.{puts_length, puts_both}
use Rattle.table.specs.Layout.{table_of}
use Rattle.report.specs.Report.{report}
use Rattle.report.proofs.Faults.{accepted_readable}
use Rattle.emit.specs.Clauses.Emitted.{capped}
use Rattle.describe.specs.Clauses.Room.{RoomFor}
use Rattle.message.specs.Reply.{describing}
use Rattle.message.specs.Request as R
use Rattle.outbox.specs.Clauses.Written.{describing_start}
use Rattle.outbox.proofs.Written.{describing_encoded}
use Rattle.plain.specs.Answer.{outcome}
use Rattle.sound.proofs.Accepted.{accepted}
use Rattle.outcome.specs.Clauses.Outcome.{ComesAtAny}
use Rattle.outcome.specs.Clauses.Ready.{Lent}
use Rattle.outcome.specs.declared.Outcome.TheVariants.{Sent}
use Rattle.line.proofs.Carried.{sends}

module _ (table before : List ℕ) (c : ℕ) (given : Lent table before c) (n : ℕ) (e : n ≡ capped (length (report (table_of table)))) where
  abbrev text : List ℕ
  text = report (table_of table)

  size_is : n ≡ length text
  size_is = omega (arith, e, (accepted table given.accepted).short)

  start_length : length (describing_start c n) ≡ 18
  unfolding describing_start two_bytes bytes
  start_length = simp length-append (omega arith)

  pub start_room : (0 + length (describing_start c n) ≤ length before) × (n + 14 ≤ 65535)
  start_room =
      let room = given.room in
      let short = (accepted table given.accepted).short in
      (omega (arith, start_length), omega (arith, size_is))

  module _ (d : List ℕ) (p : ℕ) (x : Puts before 0 (describing_start c n) d p) where
    after_start : p + length text + 1 ≤ length d
    after_start =
        let room = given.room in
        let short = (accepted table given.accepted).short in
        let ends = x.ends in
        omega (arith, start_length, puts_length x)

    pub report_room : RoomFor table p d
    report_room =
        record {
          readable = accepted_readable table given.accepted;
          room = omega (arith, after_start);
        }

    module _ (f : List ℕ) (q : ℕ) (written : Puts d p text f q) where
      pub feed_room : q < length f
      feed_room = let ends = written.ends in omega (arith, after_start, puts_length written)

      pub described : (g : List ℕ) (r : ℕ) → Puts f q (10 ∷ []) g r → (t : ℕ) → ComesAtAny table before c t (Sent r) g R.describe
      unfolding outcome bytes
      described g r z t m values =
          let start : Puts before 0 (describing_start c (length text)) d p = subst (λ (k : ℕ). Puts before 0 (describing_start c k) d p) size_is x in
          let all : Puts before 0 (describing_start c (length text) ++ text ++ (10 ∷ [])) g r = puts_both (puts_both start written) z in
          sends (table_of table) m t values _ (describing text) refl (subst (λ (l : List ℕ). Puts before 0 l g r) (describing_encoded c text) all)
