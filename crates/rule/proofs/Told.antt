-- Kinds of replies, and the modules in scope. Assumes nothing.
use Rattle.std.specs.Prelude.{Option}
use Prim.Native.Nat.{ℕ, ◌≤◌}
use native.Mathlib.Omega.{arith}
use mathlib.Core.Bool.{Bool}
use mathlib.Core.List.{List}
use mathlib.Core.Path.{◌≡◌, refl, sym, ap, fun_ext}
use Rattle.table.specs.Table.{Table}
use Rattle.message.specs.Request.{Request}
use Rattle.message.specs.Reply.{Reply, identification, describing, pong, active, inactive, reply, changed, done, counted, error, checked}
use Rattle.plain.specs.Node.{Node}
use Rattle.plain.proofs.Outcomes.{Tells, by_identify, by_describe, by_ping, by_read, by_count, Scope, of_all, of_one, by_check}
use Rattle.rule.specs.Records.{number_is, in_scope_of}

-- a number for each kind that is told apart, and one for the others
abbrev pub kind : Reply → ℕ
kind (error a s x) = 0
kind (changed r) = 1
kind (active m) = 2
kind (done r) = 3
kind (reply r) = 4
kind (inactive m) = 5
kind (identification e) = 5
kind (describing r) = 5
kind (pong x t) = 5
kind (checked r) = 5
kind (counted x n t) = 5

pub apart : {A : Type 0} (x y : Reply) → (kind x ≡ kind y → ⊥) → x ≡ y → A
apart x y h e = absurd (h (ap kind e))

-- a reply that comes alone
pub told_kind : {w : Table} {n : Node} {c now : ℕ} {q : Request} {r : Reply} → Tells w n c now q r → 4 ≤ kind r
told_kind by_identify = omega arith
told_kind by_describe = omega arith
told_kind by_ping = omega arith
told_kind (by_read k e v t i) = omega arith
told_kind (by_check k v l e) = omega arith
told_kind by_count = omega arith

-- the modules that an activation is about
pub scope_is : {w : Table} {s : Option (List ℕ)} {f : ℕ → Bool} → Scope w s f → f ≡ in_scope_of w s
unfolding in_scope_of number_is
scope_is of_all = refl
scope_is (of_one x e) = fun_ext (λ i. ap (λ o. number_is o i) (sym e))
