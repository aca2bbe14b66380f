-- `ascii::byte` meets its contract: the byte is the head of what is left; past the end there is none. Assumes nothing.
use Rattle.std.proofs.Common.{◌≡◌, ℕ, ◌<◌, ◌≤◌, ◌-◌, ◌*◌, List, length, get_or, arith, refl, ltb, sym, ◌∙◌, Bool, true, false, Bor}
use Rattle.std.specs.Prelude.{Option, Some, None}
use Rattle.std.specs.Option.{unwrap_or, option_copied, is_some, IfSome}
use Rattle.std.proofs.lemmas.Bool.{ltb-true, ltb-false}
use Rattle.std.proofs.lemmas.List.{get_or_past, get_or_default}
use Rattle.ascii.proofs.Bytes.{head_drop}
use Rattle.ascii.proofs.byte.Goals as goal

-- the byte that `get` lends, or 0
got : (s : List ℕ) (at : ℕ) (r : Option (Bor ℕ)) → is_some r ≡ ltb at (length s) → IfSome r (λ x. x.now ≡ get_or s at x.now) → unwrap_or (option_copied r) 0 ≡ get_or s at 0
got s at None n f = sym (get_or_past s at 0 (ltb-false at (length s) (sym n)))
got s at (Some x) n f = f ∙ get_or_default s at x.now 0 (ltb-true at (length s) (sym n))

-- a byte above 0 stands within
within : (s : List ℕ) (at b : ℕ) → b ≡ get_or s at 0 → get_or s at 0 < 256 → b ≤ 255 * (length s - at)
within s at b e l = go (ltb at (length s)) refl
  where
    go : (t : Bool) → ltb at (length s) ≡ t → b ≤ 255 * (length s - at)
    go true h = let k = ltb-true at (length s) h in omega arith
    go false h = let k = get_or_past s at 0 (ltb-false at (length s) h) in omega arith

pub returns : goal.returns
returns c = let s = c.args.s.now in
    let is = c.unwrap_or.ensures ∙ rw c.copied.ensures (got s _ _ c.get.ensures.lookup.0 c.get.ensures.lookup.1) in
    record { is = simp head_drop is; low = within s c.args.at c.unwrap_or.result is (c.type_inv.s c.args.at).fits }
