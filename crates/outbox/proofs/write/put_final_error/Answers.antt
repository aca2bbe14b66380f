use native.Mathlib.Omega.{arith}
use Rattle.outbox.proofs.Written.{error_names}
use Rattle.ascii.specs.Text.{bytes}
use Rattle.outbox.proofs.Written.{final_0, final_1, final_2, final_3, final_all}
use Rattle.outbox.proofs.write.put_final_error.Goals as goal

pub error_length-size-requires : goal.error_length-size-requires
error_length-size-requires c = search error_names

pub overflow_add-size : goal.overflow_add-size
overflow_add-size c = omega (arith, final_0 _ _ _ _ _ c.error_length-size.ensures c.requires)

pub put_header-line-requires : goal.put_header-line-requires
unfolding bytes
put_header-line-requires c = (search final_1, search final_0)

pub put_error-end-requires : goal.put_error-end-requires
unfolding bytes
put_error-end-requires c = search final_2

pub put_byte-requires : goal.put_byte-requires
unfolding bytes
put_byte-requires c = search final_3

pub returns : goal.returns
unfolding bytes
returns c = search final_all
