-- `accepted::pieces::whole_line` meets its contract. Assumes nothing.
use Prim.Native.Nat.{◌-◌, ◌≤◌}
use native.Mathlib.Omega.{arith}
use mathlib.Core.Path.{◌≡◌}
use lib.ListN.{length, get_or}
use borrow.Author.Rules.{rules}
use Rattle.state.specs.Clauses.Bare.{with_lines}
use Rattle.accepted.proofs.Joins.{line_dropped, line_over, own_within, own_room, rest_room, line_short, line_whole}
use Rattle.accepted.proofs.pieces.whole_line.Goals as goal

pub returns-then-overlong-c-ne0 : goal.returns-then-overlong-c-ne0
returns-then-overlong-c-ne0 c = (omega arith, search line_dropped)

pub returns-then-size-bytes : goal.returns-then-size-bytes
returns-then-size-bytes c = (omega arith, search line_over)

pub slice_bounds-put-end : goal.slice_bounds-put-end
slice_bounds-put-end c = own_within (with_lines c.args.clients c.args.lines.now) c.args.c c.args.bytes.now (search rules) c.requires.1.0 (search rules)
    c.requires.0 c.requires.1.1.0

pub put-end-requires : goal.put-end-requires
put-end-requires c = own_room (with_lines c.args.clients c.args.lines.now) c.args.c c.args.bytes.now (search rules) c.requires.1.0 (search rules)
    c.requires.0 c.requires.1.1.0 c.args.line.now c.requires.1.1.1

pub put-requires : goal.put-requires
put-requires c = rest_room (with_lines c.args.clients c.args.lines.now) c.args.c c.args.bytes.now (search rules) c.requires.1.0 (search rules)
    c.requires.0 c.requires.1.1.0 c.args.line.now c.requires.1.1.1 _ _ c.put-end.ensures

pub returns : goal.returns
returns c = let s = with_lines c.args.clients c.args.lines.now in
    let whole : get_or c.args.clients.overlong c.args.c 0 ≡ 0 = search rules in
    let short : length c.args.bytes.now ≤ 1024 - get_or c.args.clients.length c.args.c 0 = search rules in (
      line_short s c.args.c c.args.bytes.now whole c.requires.1.0 short c.requires.0 c.requires.1.1.0 c.args.line.now c.requires.1.1.1 _ _
          c.put-end.ensures _ _ c.put.ensures,
      line_whole s c.args.c c.args.bytes.now whole c.requires.1.0 short c.requires.0 c.requires.1.1.0 c.args.line.now c.requires.1.1.1 _ _
          c.put-end.ensures _ _ c.put.ensures,
    )
