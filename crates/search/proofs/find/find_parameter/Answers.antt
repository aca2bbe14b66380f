use Rattle.search.proofs.Finds.{counted_parameters, sought_start, parameter_missing, parameter_is, parameter_on}
use Rattle.search.proofs.find.find_parameter.Goals as goal

pub loop-q-init : goal.loop-q-init
loop-q-init c = search (sought_start, counted_parameters)

pub returns-then-are_named : goal.returns-then-are_named
returns-then-are_named c = search parameter_is

pub loop-q-preserved : goal.loop-q-preserved
loop-q-preserved c = search parameter_on

pub returns : goal.returns
returns c = search parameter_missing
