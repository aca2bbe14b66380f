-- The examples, by computing. Assumes nothing.
use mathlib.Core.Path.{refl}
use Rattle.report.specs.Notes.{note_member, noted_members, noted_value, noted_report}
use Rattle.examples.specs.Demo.{demo, noted, stage, one_module, reported, on_off, kelvin, initial, small, counted, value_and_target, ramp, staged, edited, around, percent, heated}
use Rattle.examples.specs.Theorems.{examples, exchanges, changing, failing, talking, piece_calls, replies_to, last_written, ExamplesAreRight, FiveMilliseconds, WholeReport, NotedReport, TablesAreGood, OutboxExample, BrokenSensor, WhoTalks, ExchangesAreRight, ramping, Ramps, replies_of, visiting, NextEdition, heating, PartOfAStruct}
use Rattle.examples.proofs.Computed.{computed}

pub examples_are_right : ExamplesAreRight
unfolding computed stage staged value_and_target around one_module kelvin initial small counted examples piece_calls replies_of replies_to
examples_are_right =
    (refl, (refl, (refl, (refl, (refl, (refl, (refl, (refl, (refl, (refl, (refl, (refl, tt))))))))))))

pub exchanges_are_right : ExchangesAreRight
unfolding computed stage staged value_and_target around one_module kelvin initial small counted exchanges piece_calls replies_of replies_to
exchanges_are_right = (refl, (refl, (refl, (refl, (refl, (refl, (refl, (refl, (refl, tt)))))))))

pub five_milliseconds : FiveMilliseconds
unfolding computed
five_milliseconds = refl

pub whole_report : WholeReport
unfolding computed demo around one_module reported on_off kelvin initial small counted
whole_report = refl

pub noted_report_lem : NotedReport
unfolding computed note_member noted_members noted_value noted_report noted around one_module reported on_off kelvin initial small counted
noted_report_lem = (refl, refl)

pub tables_are_good : TablesAreGood
unfolding computed demo noted stage staged ramp edited value_and_target heated percent around one_module reported on_off kelvin initial small counted
tables_are_good = (refl, refl, refl, refl, refl, refl, refl)

pub outbox_example : OutboxExample
unfolding computed stage staged value_and_target around one_module kelvin initial small counted changing last_written
outbox_example = refl

pub broken_sensor : BrokenSensor
unfolding computed stage staged value_and_target around one_module kelvin initial small counted failing last_written
broken_sensor = refl

pub ramps : Ramps
unfolding computed stage staged ramp value_and_target around one_module kelvin initial small counted changing ramping last_written
ramps = (refl, refl)

pub next_edition : NextEdition
unfolding computed stage edited staged value_and_target around one_module kelvin initial small counted visiting piece_calls replies_of
next_edition = (refl, refl)

pub who_talks : WhoTalks
unfolding computed stage staged value_and_target around one_module kelvin initial small counted talking last_written
who_talks = refl

pub part_of_a_struct : PartOfAStruct
unfolding computed heated percent around on_off kelvin initial small counted heating last_written
part_of_a_struct = refl
