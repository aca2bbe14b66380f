-- `base64::is_whole` meets its contract: past the end there is no digit. Assumes nothing.
use Rattle.base64_text.proofs.Sizes.{whole_first, whole_second, whole_third, whole_all}
use Rattle.base64_text.proofs.is_whole.Goals as goal

pub returns-then-is_sextet-3 : goal.returns-then-is_sextet-3
returns-then-is_sextet-3 c = search whole_all

pub returns-then-is_sextet-2 : goal.returns-then-is_sextet-2
returns-then-is_sextet-2 c = search whole_third

pub returns-then-is_sextet : goal.returns-then-is_sextet
returns-then-is_sextet c = search whole_second

pub returns : goal.returns
returns c = search whole_first
