-- What is played is a history of single calls. Assumes nothing.
use Rattle.std.specs.Prelude.{Option, Some, None}
use Prim.Native.Nat.{ℕ, zero, suc}
use mathlib.Core.List.{List, [], ◌∷◌, ◌++◌}
use mathlib.Core.Path.{◌≡◌, refl, ap, ap₂, ◌∙◌}
use Rattle.plain.specs.Node.{Node}
use Rattle.plain.specs.Calls.{Answer}
use Rattle.plain.specs.History.{step, answers, finish}
use Rattle.lists.proofs.Readings.{answers_append, finish_append}
use Rattle.trace.specs.Trace.{Entry}
use Rattle.replay.specs.Replay.{call_for, rest, Played, first, both, if_some, play_on, play, play_all}
use Rattle.replay.specs.Theorems.{PlayedAsCalls}

-- calls with their answers and the node that they leave
record Answered (table : List ℕ) (n : Node) (p : Played) : Type 0 where
  same : answers table n p.calls ≡ p.answers
  end : finish table n p.calls ≡ p.node

module _ (table : List ℕ) (area room : ℕ) where
  on_answered : (k : ℕ) (n : Node) (o : Option Entry) → Answered table n (play_on table area room k n o)
  unfolding play_on if_some first answers finish
  on_answered zero n o = record { same = refl; end = refl }
  on_answered (suc k) n None = record { same = refl; end = refl }
  on_answered (suc k) n (Some e) =
      let s = step table n (call_for area room e) in
      let q = on_answered k s.0 (rest e s.1.number s.1.used) in
      record { same = ap (λ (l : List Answer). s.1 ∷ l) q.same; end = q.end }

  all_answered : (n : Node) (es : List Entry) → Answered table n (play_all table area room n es)
  unfolding play_all play both answers finish
  all_answered n [] = record { same = refl; end = refl }
  all_answered n (e ∷ es) =
      let p = play table area room n e in
      let a : Answered table n p = unfold play in on_answered _ n (Some e) in
      let q = all_answered p.node es in
      let later = (play_all table area room p.node es).calls in
      record {
        same = answers_append table n p.calls later
            ∙ ap₂ ◌++◌ a.same (ap (λ (m : Node). answers table m later) a.end ∙ q.same);
        end = finish_append table n p.calls later ∙ ap (λ (m : Node). finish table m later) a.end ∙ q.end;
      }

pub played_as_calls : PlayedAsCalls
played_as_calls table area room n es = let a = all_answered table area room n es in (a.same, a.end)
