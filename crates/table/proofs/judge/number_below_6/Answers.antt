-- `table::judge::number_below_6` meets its contract. Assumes nothing.
use Rattle.table.proofs.Whole.{number_unread, number_2, number_3, number_4, number_5, number_0}
use Rattle.table.proofs.judge.number_below_6.Goals as goal

pub returns-then-not-is_readable : goal.returns-then-not-is_readable
returns-then-not-is_readable c = search number_unread

pub returns-then-not-counts_good : goal.returns-then-not-counts_good
returns-then-not-counts_good c = search number_2

pub returns-then-not-names_good : goal.returns-then-not-names_good
returns-then-not-names_good c = search number_3

pub returns-then-not-datainfos_good : goal.returns-then-not-datainfos_good
returns-then-not-datainfos_good c = search number_4

pub returns-then-not-initials_good : goal.returns-then-not-initials_good
returns-then-not-initials_good c = search number_5

pub returns : goal.returns
returns c = number_0 _ _ c.is_readable.ensures c.if-not-is_readable.false-raw
    _ c.counts_good.ensures c.if-not-counts_good.false-raw
    _ c.names_good.ensures c.if-not-names_good.false-raw
    _ c.datainfos_good.ensures c.if-not-datainfos_good.false-raw
    _ c.initials_good.ensures c.if-not-initials_good.false-raw
