-- `summary::put_line` meets its contract. Assumes nothing.
use native.Mathlib.Omega.{arith}
use Rattle.ascii.proofs.Puts.{puts_both}
use Rattle.summary.proofs.Texts.{line_length, line_parts}
use Rattle.message.specs.Clauses.Said.{held_by}
use Rattle.summary.specs.Summary.{held_text}
use borrow.Author.Rules.{rules}
use Rattle.summary.proofs.put_line.Goals as goal

pub put-colon-requires : goal.put-colon-requires
put-colon-requires c = omega (
  arith,
  c.requires,
  line_length c.args.«module».now c.args.name.now
      (held_text (held_by c.args.sensor c.args.value.now)),
)

pub put_byte-second-requires : goal.put_byte-second-requires
put_byte-second-requires c = omega (
  arith,
  c.requires,
  line_length c.args.«module».now c.args.name.now
      (held_text (held_by c.args.sensor c.args.value.now)),
)

pub put-space-requires : goal.put-space-requires
put-space-requires c = omega (
  arith,
  c.requires,
  line_length c.args.«module».now c.args.name.now
      (held_text (held_by c.args.sensor c.args.value.now)),
)

pub put_byte-third-requires : goal.put_byte-third-requires
put_byte-third-requires c = omega (
  arith,
  c.requires,
  line_length c.args.«module».now c.args.name.now
      (held_text (held_by c.args.sensor c.args.value.now)),
)

pub put_held-feed-requires : goal.put_held-feed-requires
put_held-feed-requires c = omega (
  arith,
  c.requires,
  line_length c.args.«module».now c.args.name.now
      (held_text (held_by c.args.sensor c.args.value.now)),
)

pub put_byte-requires : goal.put_byte-requires
put_byte-requires c = omega (
  arith,
  c.requires,
  line_length c.args.«module».now c.args.name.now
      (held_text (held_by c.args.sensor c.args.value.now)),
)

pub returns : goal.returns
returns c = let named = puts_both (puts_both (puts_both c.put-colon.ensures c.put_byte-second.ensures) c.put-space.ensures) c.put_byte-third.ensures in
    rw (line_parts c.args.«module».now c.args.name.now (held_text (held_by c.args.sensor c.args.value.now)))
    (puts_both (puts_both named c.put_held-feed.ensures) c.put_byte.ensures)
