-- `node::pieces::jihfasul_piece` meets its contract. Assumes nothing.
use mathlib.Core.Path.{sym}
use borrow.Author.Rules.{rules}
use Rattle.state.proofs.Becomes.{clients_sized, lines_sized}
use Rattle.node.proofs.Taken.{piece_lent, piece_high, piece_closed, piece_ready, piece_timely, piece_unshort, piece_good}
use Rattle.node.proofs.pieces.jihfasul_piece.Goals as goal

pub slice_bounds-bare_number-end : goal.slice_bounds-bare_number-end
slice_bounds-bare_number-end c = sym (lines_sized c.args.state.clients c.well_formed.1.1.1.0.1.1.0)

pub bare_number-number-requires : goal.bare_number-number-requires
bare_number-number-requires c = lines_sized c.args.state.clients c.well_formed.1.1.1.0.1.1.0

pub returns-then-number-ne0 : goal.returns-then-number-ne0
returns-then-number-ne0 c = search piece_lent

pub returns-then-client-gt-LAST_CLIENT : goal.returns-then-client-gt-LAST_CLIENT
returns-then-client-gt-LAST_CLIENT c = search piece_high

pub returns-then-not-is_open : goal.returns-then-not-is_open
returns-then-not-is_open c = search piece_closed

pub slice_bounds-take_piece-end : goal.slice_bounds-take_piece-end
slice_bounds-take_piece-end c = sym (lines_sized c.args.state.clients c.well_formed.1.1.1.0.1.1.0)

pub take_piece-done-requires : goal.take_piece-done-requires
take_piece-done-requires c = let lent = c.bare_number-number.ensures in (
  piece_ready _ c.args.state _ _ _ _ c.args.time c.args.bytes.now c.bare_of-bare.ensures lent c.if-number-ne0.false (search rules)
      c.is_open.ensures (search rules),
  (piece_timely _ _ _ _ _ _ lent c.if-number-ne0.false, lines_sized c.args.state.clients c.well_formed.1.1.1.0.1.1.0),
)

pub returns : goal.returns
returns c = let z = clients_sized c.args.state.clients c.well_formed.1.1.1.0.1.1.0 in
    let lent = c.bare_number-number.ensures in
    let unshort = piece_unshort _ _ _ _ _ _ lent c.if-number-ne0.false in
    piece_good _ c.args.state _ _ _ _ _ c.args.bytes.now c.bare_of-bare.ensures
    (piece_ready _ c.args.state _ _ _ _ c.args.time c.args.bytes.now c.bare_of-bare.ensures lent c.if-number-ne0.false (search rules)
    c.is_open.ensures (search rules))
    unshort
    (piece_timely _ _ _ _ _ _ lent c.if-number-ne0.false)
    z
    c.take_piece-done.ensures c.done_by.ensures
