-- `decimal::compare::token` meets its contract: its limits leave room for its digits and its power. Assumes nothing.
use Rattle.decimal.proofs.Values.{exponent_fits, significand_fits, fraction_fits, written_fits, token_is}
use Rattle.decimal.proofs.compare.token.Goals as goal

pub digits_value-written-requires : goal.digits_value-written-requires
digits_value-written-requires c = search exponent_fits

pub token_power-power-requires : goal.token_power-power-requires
token_power-power-requires c = (search written_fits, search fraction_fits)

pub digits_value-size-requires : goal.digits_value-size-requires
digits_value-size-requires c = search significand_fits

pub returns : goal.returns
returns c = search token_is
