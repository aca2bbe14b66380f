-- `line::request::identify` meets its contract. Assumes nothing.
use Rattle.table.specs.Clauses.At.{bytes_of}
use Rattle.report.proofs.Faults.{accepted_readable}
use Rattle.line.proofs.Carried.{given_order, given_within, identification_room, edition_room, identified_first, identified_given}
use Rattle.line.proofs.request.identify.Goals as goal

pub edition_of-requires : goal.edition_of-requires
edition_of-requires c = search accepted_readable

pub put_final_identification-requires : goal.put_final_identification-requires
put_final_identification-requires c = search identification_room

pub slice_bounds-put_final_edition-count : goal.slice_bounds-put_final_edition-count
slice_bounds-put_final_edition-count c = search given_order

pub slice_bounds-put_final_edition-start : goal.slice_bounds-put_final_edition-start
slice_bounds-put_final_edition-start c = search given_order

pub slice_bounds-put_final_edition-end : goal.slice_bounds-put_final_edition-end
slice_bounds-put_final_edition-end c = search given_within

pub put_final_edition-requires : goal.put_final_edition-requires
unfolding bytes_of
put_final_edition-requires c = search edition_room

pub returns-in-None : goal.returns-in-None
returns-in-None c = search identified_first

pub returns-in-Some : goal.returns-in-Some
unfolding bytes_of
returns-in-Some c = search identified_given
