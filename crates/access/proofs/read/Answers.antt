-- `access::read` meets its contract. Assumes nothing.
use Rattle.state.specs.Clauses.Bare.{unlined}
use Rattle.access.proofs.Showing.{read_lies, read_low, read_fails, read_room, read_sent}
use borrow.Author.Rules.{rules}
use Rattle.access.proofs.read.Goals as goal

pub bounds-times-k : goal.bounds-times-k
bounds-times-k c = read_low _ (unlined c.args.state) _ _ _ c.requires.0 _ _ _ _ _ c.requires.1

pub offset_bounds-times-k : goal.offset_bounds-times-k
offset_bounds-times-k c = let low = read_low _ (unlined c.args.state) _ _ _ c.requires.0 _ _ _ _ _ c.requires.1 in search rules

pub sensor_at-requires : goal.sensor_at-requires
sensor_at-requires c = read_low _ (unlined c.args.state) _ _ _ c.requires.0 _ _ _ _ _ c.requires.1

pub shown-value-requires : goal.shown-value-requires
shown-value-requires c = read_lies _ (unlined c.args.state) _ _ _ c.requires.0 _ _ _ _ _ c.requires.1

pub put_final_report-requires : goal.put_final_report-requires
put_final_report-requires c = read_room _ (unlined c.args.state) _ _ _ c.requires.0 _ _ _ _ _ c.requires.1 _ c.sensor_at.ensures c.in-Works.is _ c.shown-value.ensures

pub returns-in-Fails : goal.returns-in-Fails
returns-in-Fails c = read_fails _ (unlined c.args.state) _ _ _ c.requires.0 _ _ _ _ _ c.requires.1 _ c.sensor_at.ensures _ c.in-Fails.is

pub returns-in-Works : goal.returns-in-Works
returns-in-Works c = read_sent _ (unlined c.args.state) _ _ _ c.requires.0 _ _ _ _ _ c.requires.1 _ c.sensor_at.ensures c.in-Works.is _ c.shown-value.ensures _ _ c.put_final_report.ensures
