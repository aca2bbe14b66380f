-- `base64::blob_size` meets its contract: n bytes were counted, and those from i on are to come. Assumes nothing.
use Prim.Native.Nat.{◌-◌, ◌≤◌}
use mathlib.Core.Path.{◌≡◌}
use lib.ListN.{length, drop}
use Rattle.base64_text.specs.Base64.{more, blob_size}
use Rattle.base64_text.proofs.blob_size.Given as goal

abbrev pub invariant-loop-i : goal.invariant-loop-i
invariant-loop-i l = (l.i ≤ length l.t) × (l.n ≤ l.i) × (blob_size l.t ≡ more l.n (blob_size (drop l.i l.t)))

abbrev pub decreases-loop-i : goal.decreases-loop-i
decreases-loop-i l = length l.t - l.i
