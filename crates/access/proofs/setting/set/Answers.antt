-- `access::setting::set` meets its contract. Assumes nothing.
use mathlib.Core.Path.{refl}
use Rattle.ascii.specs.Text.{bytes}
use Rattle.plain.specs.Answer.{busy}
use Rattle.access.proofs.Sets.{value_settable, set_is}
use borrow.Author.Rules.{rules}
use Rattle.access.proofs.setting.set.Goals as goal

pub status_of-status-requires : goal.status_of-status-requires
unfolding busy bytes
status_of-status-requires c = (search rules, refl)

pub put_set-written-requires : goal.put_set-written-requires
unfolding busy bytes
put_set-written-requires c = value_settable _ _ _ _ _ _ c.requires.0 _ _ _ _ c.requires.1 _ c.status_of-status.ensures _ c.store_status.ensures
    _ _ c.put_form-end.ensures

pub returns : goal.returns
unfolding busy bytes
returns c = set_is _ _ _ _ _ _ c.requires.0 _ _ _ _ c.requires.1 _ c.status_of-status.ensures _ c.store_status.ensures
    _ _ c.put_form-end.ensures _ _ _ _ c.put_set-written.ensures
