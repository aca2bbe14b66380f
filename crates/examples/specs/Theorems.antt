-- Document 01's examples to prove, and worked examples of document 01 and of SECoP 1.0. Assumes nothing.
use Rattle.std.specs.Prelude.{ℕ, List, [], ◌∷◌, ◌++◌, map, ◌≡◌, drop, pos, negsuc}
use Rattle.ascii.specs.Text.{bytes}
use Rattle.ascii.specs.Numbers.{seconds}
use Rattle.datainfo.specs.Datainfo.{Datainfo, double}
use Rattle.fit.specs.Fit.{Verdict, fits, rangeError, wrongType, badJSON, verdict}
use Rattle.message.specs.Reply.{reply_line}
use Rattle.table.specs.Layout.{table_of}
use Rattle.report.specs.Report.{report}
use Rattle.report.specs.Notes.{noted_report}
use Rattle.report.specs.Judge.{table_number}
use Rattle.plain.specs.Node.{begin}
use Rattle.plain.specs.Calls.{Open, Piece, Reading, Unreadable, Call, with_area, with_outbox}
use Rattle.plain.specs.History.{answers, sent, sent_bytes}
use Rattle.rule.specs.Records.{replies_for}
use Rattle.examples.specs.Demo.{demo, noted, stage, ramp, edited, heated}
use Rattle.examples.specs.Told.{AllAsDue}
use Rattle.examples.specs.Histories.{histories}

-- ## E1 to E12: one list, one statement over it

-- A text that is judged by a datainfo; or pieces of one client, with the lines of the replies to it.
pub data Example : Type 0 where
  judged : (datainfo : Datainfo) (text : List ℕ) (due : Verdict) → Example
  replied : (pieces : List (List ℕ)) (due : List (List ℕ)) → Example

-- "Double 0 to 300"; "max 250 power -2"
abbrev pub to300 : Datainfo
to300 = double (record { whole = pos 0; power = pos 0 }) (record { whole = pos 300; power = pos 0 })

abbrev pub to2_50 : Datainfo
to2_50 = double (record { whole = pos 0; power = pos 0 }) (record { whole = pos 250; power = negsuc 1 })

-- E1 to E12 in their order; `docs/RULES.md` has them with the rules that they show
unfoldable pub examples : List Example
examples =
    judged to300 (bytes "300") fits
    ∷ judged to300 (bytes "3e2") fits
    ∷ judged to300 (bytes "300.0000000000000000001") rangeError
    ∷ judged to300 (bytes "-0") fits
    ∷ judged to300 (bytes "\"1\"") wrongType
    ∷ judged to300 (bytes "01") badJSON
    ∷ judged to300 (bytes "0e100") rangeError
    ∷ judged to2_50 (bytes "25e-1") fits
    ∷ replied (bytes "activate t1:x\n" ∷ []) (bytes "active t1" ∷ [])
    ∷ replied (bytes "ping\n" ∷ []) (bytes "pong  [null,{\"t\":1.500}]" ∷ [])
    ∷ replied (bytes "\n" ∷ []) (bytes "error_  [\"ProtocolError\",\"malformed or unknown request\",{}]" ∷ [])
    ∷ replied (bytes "ping x\r" ∷ bytes "\n" ∷ []) (bytes "pong x [null,{\"t\":1.500}]" ∷ [])
    ∷ []

-- a client opens and sends the pieces, at 1500, to a node
unfoldable pub piece_calls : List (List ℕ) → List Call
piece_calls ps = with_area (Open 2 0) 16384 ∷ map (λ p. with_outbox (Piece 2 p 1500) 16384 32768) ps

unfoldable pub replies_of : List ℕ → List (List ℕ) → List (List ℕ)
replies_of table ps = map reply_line (replies_for 2 (sent (answers table (begin (table_of table) 0) (piece_calls ps))))

-- the node of the outbox example
unfoldable pub replies_to : List (List ℕ) → List (List ℕ)
replies_to ps = replies_of stage ps

abbrev pub Right : Example → Type 0
Right (judged d x v) = verdict d x ≡ v
Right (replied ps ls) = replies_to ps ≡ ls

abbrev pub AllRight : List Example → Type 0
AllRight [] = Unit {0}
AllRight (e ∷ es) = Right e × AllRight es

abbrev pub ExamplesAreRight : Type 0
ExamplesAreRight = AllRight examples

-- ## Times

abbrev pub FiveMilliseconds : Type 0
FiveMilliseconds = seconds 5 ≡ bytes "0.005"

-- ## Reports

abbrev pub WholeReport : Type 0
WholeReport = report (table_of demo) ≡ bytes "{\"modules\":{\"t1\":{\"interface_classes\":[],\"description\":\"stage\",\"accessibles\":{\"value\":{\"description\":\"reading\",\"readonly\":true,\"datainfo\":{\"type\":\"double\",\"min\":0,\"max\":300}},\"mode\":{\"description\":\"heater\",\"readonly\":false,\"datainfo\":{\"type\":\"enum\",\"members\":{\"off\":0,\"on\":1}}},\"stop\":{\"description\":\"stop\",\"datainfo\":{\"type\":\"command\"}}}}},\"equipment_id\":\"demo\",\"description\":\"one stage\"}"

-- a note is left out (M-109); before, it stood after the module's description
abbrev pub NotedReport : Type 0
NotedReport =
    (report (table_of noted) ≡ bytes "{\"modules\":{\"t1\":{\"interface_classes\":[],\"description\":\"stage\",\"accessibles\":{\"value\":{\"description\":\"reading\",\"readonly\":true,\"datainfo\":{\"type\":\"double\",\"min\":0,\"max\":300}},\"mode\":{\"description\":\"heater\",\"readonly\":false,\"datainfo\":{\"type\":\"enum\",\"members\":{\"off\":0,\"on\":1}}},\"stop\":{\"description\":\"stop\",\"datainfo\":{\"type\":\"command\"}}}}},\"equipment_id\":\"demo\",\"description\":\"one stage\"}")
    × (noted_report (table_of noted) ≡ bytes "{\"modules\":{\"t1\":{\"interface_classes\":[],\"description\":\"stage\",\"_note\":\"mind the gap\",\"accessibles\":{\"value\":{\"description\":\"reading\",\"readonly\":true,\"datainfo\":{\"type\":\"double\",\"min\":0,\"max\":300}},\"mode\":{\"description\":\"heater\",\"readonly\":false,\"datainfo\":{\"type\":\"enum\",\"members\":{\"off\":0,\"on\":1}}},\"stop\":{\"description\":\"stop\",\"datainfo\":{\"type\":\"command\"}}}}},\"equipment_id\":\"demo\",\"description\":\"one stage\"}")

-- the tables of the examples are accepted
abbrev pub TablesAreGood : Type 0
TablesAreGood =
    (table_number demo ≡ 0) × (table_number noted ≡ 0) × (table_number stage ≡ 0) × (table_number (ramp 14) ≡ 0) × (table_number (ramp 13) ≡ 0)
    × (table_number edited ≡ 0)
    × (table_number heated ≡ 0)

-- ## The outbox example: "client 2 sends `change t1:target 12` at 1500"

unfoldable pub changing : List Call
changing =
    with_area (Open 2 0) 16384
    ∷ with_area (Open 5 0) 16384
    ∷ with_outbox (Piece 2 (bytes "activate t1\n") 0) 16384 32768
    ∷ with_outbox (Piece 5 (bytes "activate t1\n") 0) 16384 32768
    ∷ with_outbox (Piece 2 (bytes "change t1:target 12\n") 1500) 16384 32768
    ∷ []

-- what the calls after the first four write, on a table
unfoldable pub last_written : List ℕ → List Call → List ℕ
last_written table h = sent_bytes (drop 4 (answers table (begin (table_of table) 0) h))

abbrev pub OutboxExample : Type 0
OutboxExample = last_written stage changing
    ≡ (0x44 ∷ 0x52 ∷ 0x02 ∷ 0x00 ∷ 0x03 ∷ 0x01 ∷ 0x31 ∷ 0x32 ∷ [])
    ++ (0x55 ∷ 0x50 ∷ 0x02 ∷ 0x00 ∷ 0x22 ∷ [])
    ++ bytes "update t1:target [12,{\"t\":1.500}]\n"
    ++ (0x55 ∷ 0x50 ∷ 0x05 ∷ 0x00 ∷ 0x22 ∷ [])
    ++ bytes "update t1:target [12,{\"t\":1.500}]\n"
    ++ (0x52 ∷ 0x50 ∷ 0x02 ∷ 0x00 ∷ 0x23 ∷ [])
    ++ bytes "changed t1:target [12,{\"t\":1.500}]\n"

-- ## A broken sensor (M-102): client 5 is told since it has the module active, client 2 by its `read`, and "the specifier there is as sent"; "The next
-- value stored clears it."

unfoldable pub failing : List Call
failing =
    with_area (Open 2 0) 16384
    ∷ with_area (Open 5 0) 16384
    ∷ with_outbox (Piece 5 (bytes "activate t1\n") 0) 16384 32768
    ∷ with_outbox (Piece 2 (bytes "ping\n") 0) 16384 32768
    ∷ with_outbox (Unreadable 0 1 1500) 16384 32768
    ∷ with_outbox (Piece 2 (bytes "read t1:value:x\n") 2000) 16384 32768
    ∷ with_outbox (Reading 0 (bytes "12") 2500) 16384 32768
    ∷ with_outbox (Piece 2 (bytes "read t1:value\n") 3000) 16384 32768
    ∷ []

abbrev pub BrokenSensor : Type 0
BrokenSensor = last_written stage failing
    ≡ (0x55 ∷ 0x50 ∷ 0x05 ∷ 0x00 ∷ 0x44 ∷ [])
    ++ bytes "error_update t1:value [\"HardwareError\",\"HardwareError\",{\"t\":1.500}]\n"
    ++ (0x52 ∷ 0x50 ∷ 0x02 ∷ 0x00 ∷ 0x44 ∷ [])
    ++ bytes "error_read t1:value:x [\"HardwareError\",\"HardwareError\",{\"t\":1.500}]\n"
    ++ (0x55 ∷ 0x50 ∷ 0x05 ∷ 0x00 ∷ 0x21 ∷ [])
    ++ bytes "update t1:value [12,{\"t\":2.500}]\n"
    ++ (0x52 ∷ 0x50 ∷ 0x02 ∷ 0x00 ∷ 0x20 ∷ [])
    ++ bytes "reply t1:value [12,{\"t\":2.500}]\n"

-- ## Busy before changed (M-100): the outbox example where the module has a status, whose string may have 14 characters; and where it may have
-- 13, "status stays as it is"

unfoldable pub ramping : List Call
ramping = changing ++ (with_outbox (Piece 5 (bytes "read t1:status\n") 2000) 16384 32768 ∷ [])

abbrev pub Ramp : Type 0
Ramp = last_written (ramp 14) ramping
    ≡ (0x44 ∷ 0x52 ∷ 0x02 ∷ 0x00 ∷ 0x03 ∷ 0x01 ∷ 0x31 ∷ 0x32 ∷ [])
    ++ (0x55 ∷ 0x50 ∷ 0x02 ∷ 0x00 ∷ 0x36 ∷ [])
    ++ bytes "update t1:status [[300,\"target changed\"],{\"t\":1.500}]\n"
    ++ (0x55 ∷ 0x50 ∷ 0x05 ∷ 0x00 ∷ 0x36 ∷ [])
    ++ bytes "update t1:status [[300,\"target changed\"],{\"t\":1.500}]\n"
    ++ (0x55 ∷ 0x50 ∷ 0x02 ∷ 0x00 ∷ 0x22 ∷ [])
    ++ bytes "update t1:target [12,{\"t\":1.500}]\n"
    ++ (0x55 ∷ 0x50 ∷ 0x05 ∷ 0x00 ∷ 0x22 ∷ [])
    ++ bytes "update t1:target [12,{\"t\":1.500}]\n"
    ++ (0x52 ∷ 0x50 ∷ 0x02 ∷ 0x00 ∷ 0x23 ∷ [])
    ++ bytes "changed t1:target [12,{\"t\":1.500}]\n"
    ++ (0x52 ∷ 0x50 ∷ 0x05 ∷ 0x00 ∷ 0x35 ∷ [])
    ++ bytes "reply t1:status [[300,\"target changed\"],{\"t\":1.500}]\n"

abbrev pub NoRamp : Type 0
NoRamp = last_written (ramp 13) ramping
    ≡ (0x44 ∷ 0x52 ∷ 0x02 ∷ 0x00 ∷ 0x03 ∷ 0x01 ∷ 0x31 ∷ 0x32 ∷ [])
    ++ (0x55 ∷ 0x50 ∷ 0x02 ∷ 0x00 ∷ 0x22 ∷ [])
    ++ bytes "update t1:target [12,{\"t\":1.500}]\n"
    ++ (0x55 ∷ 0x50 ∷ 0x05 ∷ 0x00 ∷ 0x22 ∷ [])
    ++ bytes "update t1:target [12,{\"t\":1.500}]\n"
    ++ (0x52 ∷ 0x50 ∷ 0x02 ∷ 0x00 ∷ 0x23 ∷ [])
    ++ bytes "changed t1:target [12,{\"t\":1.500}]\n"
    ++ (0x52 ∷ 0x50 ∷ 0x05 ∷ 0x00 ∷ 0x27 ∷ [])
    ++ bytes "reply t1:status [[100,\"\"],{\"t\":0.000}]\n"

abbrev pub Ramps : Type 0
Ramps = Ramp × NoRamp

-- ## The next edition (M-107): the same lines to two tables, of which one has an `ED` record

unfoldable pub visiting : List (List ℕ)
visiting = bytes "*IDN?\n" ∷ bytes "check t1:target:x  12 \n" ∷ bytes "check t1:target 301\n" ∷ bytes "check t1:value 1\n" ∷ bytes "read t1:target\n" ∷ []

abbrev pub NextEdition : Type 0
NextEdition =
    (replies_of edited visiting
    ≡ bytes "ISSE,SECoP,V2021-02-17,v2.0"
    ∷ bytes "checked t1:target [12,{\"t\":1.500}]"
    ∷ bytes "error_check t1:target [\"RangeError\",\"value is out of range\",{}]"
    ∷ bytes "error_check t1:value [\"ReadOnly\",\"parameter is read only\",{}]"
    ∷ bytes "reply t1:target [0,{\"t\":0.000}]"
    ∷ [])
    × (replies_of stage visiting
    ≡ bytes "ISSE&SINE2020,SECoP,V2019-09-16,v1.0"
    ∷ bytes "error_check t1:target:x [\"ProtocolError\",\"malformed or unknown request\",{}]"
    ∷ bytes "error_check t1:target [\"ProtocolError\",\"malformed or unknown request\",{}]"
    ∷ bytes "error_check t1:value [\"ProtocolError\",\"malformed or unknown request\",{}]"
    ∷ bytes "reply t1:target [0,{\"t\":0.000}]"
    ∷ [])

-- ## Who talks how much (M-108): client 2 has completed a read, which was an error, and `_count` itself; client 5 an `activate` of two parameters, which
-- are two updates, was told of the broken sensor, and has one module active

unfoldable pub talking : List Call
talking =
    with_area (Open 2 0) 16384
    ∷ with_area (Open 5 0) 16384
    ∷ with_outbox (Piece 5 (bytes "activate t1\n") 0) 16384 32768
    ∷ with_outbox (Unreadable 0 1 1500) 16384 32768
    ∷ with_outbox (Piece 2 (bytes "read t1:value\n") 2000) 16384 32768
    ∷ with_outbox (Piece 2 (bytes "_count x\n") 2000) 16384 32768
    ∷ with_outbox (Piece 5 (bytes "_count\n") 2500) 16384 32768
    ∷ []

abbrev pub WhoTalks : Type 0
WhoTalks = last_written stage talking
    ≡ (0x52 ∷ 0x50 ∷ 0x02 ∷ 0x00 ∷ 0x42 ∷ [])
    ++ bytes "error_read t1:value [\"HardwareError\",\"HardwareError\",{\"t\":1.500}]\n"
    ++ (0x52 ∷ 0x50 ∷ 0x02 ∷ 0x00 ∷ 0x23 ∷ [])
    ++ bytes "_counted . [[2,1,0,0],{\"t\":2.000}]\n"
    ++ (0x52 ∷ 0x50 ∷ 0x05 ∷ 0x00 ∷ 0x23 ∷ [])
    ++ bytes "_counted . [[2,0,3,1],{\"t\":2.500}]\n"

-- ## Part of a struct (M-113): two settings are checked and then changed, and the others "keep what is shown now"; the mode is required; "where the
-- parameter is in error, such a change is WrongType", and a change that leaves nothing out ends the error and is stored in table order

unfoldable pub heating : List Call
heating =
    with_area (Open 2 0) 16384
    ∷ with_area (Open 5 0) 16384
    ∷ with_outbox (Piece 5 (bytes "activate t1\n") 0) 16384 32768
    ∷ with_outbox (Piece 2 (bytes "ping\n") 0) 16384 32768
    ∷ with_outbox (Piece 2 (bytes "check t1:heater {\"i\":6,\"mode\":\"on\"}\n") 1000) 16384 32768
    ∷ with_outbox (Piece 2 (bytes "change t1:heater { \"i\" : 6, \"mode\" : \"on\" }\n") 1500) 16384 32768
    ∷ with_outbox (Piece 2 (bytes "change t1:heater {\"i\":7}\n") 2000) 16384 32768
    ∷ with_outbox (Unreadable 0 1 2500) 16384 32768
    ∷ with_outbox (Piece 2 (bytes "change t1:heater {\"mode\":0}\n") 3000) 16384 32768
    ∷ with_outbox (Piece 2 (bytes "change t1:heater {\"name\":\"\",\"limit\":1e1,\"i\":7,\"p\":0,\"mode\":0}\n") 3500) 16384 32768
    ∷ []

abbrev pub PartOfAStruct : Type 0
PartOfAStruct = last_written heated heating
    ≡ (0x52 ∷ 0x50 ∷ 0x02 ∷ 0x00 ∷ 0x51 ∷ [])
    ++ bytes "checked t1:heater [{\"mode\":1,\"p\":20,\"i\":6,\"limit\":300,\"name\":\"a b\"},{\"t\":1.000}]\n"
    ++ (0x44 ∷ 0x52 ∷ 0x02 ∷ 0x00 ∷ 0x31 ∷ 0x00 ∷ [])
    ++ bytes "{\"mode\":1,\"p\":20,\"i\":6,\"limit\":300,\"name\":\"a b\"}"
    ++ (0x55 ∷ 0x50 ∷ 0x05 ∷ 0x00 ∷ 0x50 ∷ [])
    ++ bytes "update t1:heater [{\"mode\":1,\"p\":20,\"i\":6,\"limit\":300,\"name\":\"a b\"},{\"t\":1.500}]\n"
    ++ (0x52 ∷ 0x50 ∷ 0x02 ∷ 0x00 ∷ 0x51 ∷ [])
    ++ bytes "changed t1:heater [{\"mode\":1,\"p\":20,\"i\":6,\"limit\":300,\"name\":\"a b\"},{\"t\":1.500}]\n"
    ++ (0x52 ∷ 0x50 ∷ 0x02 ∷ 0x00 ∷ 0x43 ∷ [])
    ++ bytes "error_change t1:heater [\"WrongType\",\"value has the wrong type\",{}]\n"
    ++ (0x55 ∷ 0x50 ∷ 0x05 ∷ 0x00 ∷ 0x45 ∷ [])
    ++ bytes "error_update t1:heater [\"HardwareError\",\"HardwareError\",{\"t\":2.500}]\n"
    ++ (0x52 ∷ 0x50 ∷ 0x02 ∷ 0x00 ∷ 0x43 ∷ [])
    ++ bytes "error_change t1:heater [\"WrongType\",\"value has the wrong type\",{}]\n"
    ++ (0x44 ∷ 0x52 ∷ 0x02 ∷ 0x00 ∷ 0x2D ∷ 0x00 ∷ [])
    ++ bytes "{\"mode\":0,\"p\":0,\"i\":7,\"limit\":1e1,\"name\":\"\"}"
    ++ (0x55 ∷ 0x50 ∷ 0x05 ∷ 0x00 ∷ 0x4C ∷ [])
    ++ bytes "update t1:heater [{\"mode\":0,\"p\":0,\"i\":7,\"limit\":1e1,\"name\":\"\"},{\"t\":3.500}]\n"
    ++ (0x52 ∷ 0x50 ∷ 0x02 ∷ 0x00 ∷ 0x4D ∷ [])
    ++ bytes "changed t1:heater [{\"mode\":0,\"p\":0,\"i\":7,\"limit\":1e1,\"name\":\"\"},{\"t\":3.500}]\n"

-- ## Exchanges of SECoP 1.0, with document 01's error texts and times

unfoldable pub exchanges : List Example
exchanges =
    replied (bytes "*IDN?\n" ∷ []) (bytes "ISSE&SINE2020,SECoP,V2019-09-16,v1.0" ∷ [])
    ∷ replied (bytes "read t1:value\n" ∷ []) (bytes "reply t1:value [295.13,{\"t\":0.000}]" ∷ [])
    ∷ replied
    (bytes "do t1:stop\n" ∷ bytes "do t1:stop null\n" ∷ [])
    (bytes "done t1:stop [null,{\"t\":1.500}]" ∷ bytes "done t1:stop [null,{\"t\":1.500}]" ∷ [])
    ∷ replied (bytes "read tx:target\n" ∷ []) (bytes "error_read tx:target [\"NoSuchModule\",\"no such module\",{}]" ∷ [])
    ∷ replied (bytes "change t1:level 12\n" ∷ []) (bytes "error_change t1:level [\"NoSuchParameter\",\"no such parameter\",{}]" ∷ [])
    ∷ replied (bytes "change t1:target -9\n" ∷ []) (bytes "error_change t1:target [\"RangeError\",\"value is out of range\",{}]" ∷ [])
    ∷ replied (bytes "meas:volt?\n" ∷ []) (bytes "error_meas:volt?  [\"ProtocolError\",\"malformed or unknown request\",{}]" ∷ [])
    ∷ replied (bytes "change t1:value 1\n" ∷ []) (bytes "error_change t1:value [\"ReadOnly\",\"parameter is read only\",{}]" ∷ [])
    ∷ replied (bytes "ping 123\r\n" ∷ []) (bytes "pong 123 [null,{\"t\":1.500}]" ∷ [])
    ∷ []

abbrev pub ExchangesAreRight : Type 0
ExchangesAreRight = AllRight exchanges

-- ## Histories that the reference program generated

abbrev pub HistoriesAreAsDue : Type 0
HistoriesAreAsDue = AllAsDue histories
