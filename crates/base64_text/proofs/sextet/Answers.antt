-- `base64::sextet` meets its contract. Assumes nothing.
use native.Mathlib.Omega.{arith}
use mathlib.Core.Path.{◌∙◌, sym}
use Rattle.ascii.proofs.Bytes.{in_high}
use Rattle.base64_text.proofs.Sizes.{digit, not_digit, in_low, sextet_upper, sextet_lower, sextet_digit, sextet_plus, sextet_slash, sextet_none}
use Rattle.base64_text.proofs.sextet.Goals as goal

pub overflow_sub-result : goal.overflow_sub-result
overflow_sub-result c = search in_low

pub returns-then-is_in : goal.returns-then-is_in
returns-then-is_in c = let h = in_high 65 90 c.args.b (sym c.is_in.ensures ∙ c.if-is_in.true) in digit _ _ (search sextet_upper) (omega arith)

pub overflow_sub-result-then-is_in-2 : goal.overflow_sub-result-then-is_in-2
overflow_sub-result-then-is_in-2 c = let h = in_low 97 122 _ c.is_in-2.ensures c.if-is_in-2.true in omega arith

pub returns-then-is_in-2 : goal.returns-then-is_in-2
returns-then-is_in-2 c = let h = in_high 97 122 c.args.b (sym c.is_in-2.ensures ∙ c.if-is_in-2.true) in digit _ _ (search sextet_lower) (omega arith)

pub overflow_add-result : goal.overflow_add-result
overflow_add-result c = let h = in_high _ _ _ (sym c.is_digit.ensures ∙ c.if-is_digit.true) in omega arith

pub returns-then-is_digit : goal.returns-then-is_digit
returns-then-is_digit c = let h = in_high _ _ _ (sym c.is_digit.ensures ∙ c.if-is_digit.true) in digit _ _ (search sextet_digit) (omega arith)

pub returns-then-b-eq43 : goal.returns-then-b-eq43
returns-then-b-eq43 c = digit _ _ (search sextet_plus) (omega arith)

pub returns-then-b-eq47 : goal.returns-then-b-eq47
returns-then-b-eq47 c = digit _ _ (search sextet_slash) (omega arith)

pub returns : goal.returns
returns c = not_digit _ (search sextet_none)
