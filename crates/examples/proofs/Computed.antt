-- Every definition of the layers below, opened at once, for what is shown by computing. Assumes nothing.
use Prim.Native.Nat.{ℕ}
use Rattle.ascii.specs.Text as ascii-Text
use Rattle.ascii.specs.Bytes as ascii-Bytes
use Rattle.ascii.specs.Names as ascii-Names
use Rattle.ascii.specs.Numbers as ascii-Numbers
use Rattle.decimal.specs.Token as decimal-Token
use Rattle.decimal.specs.Decimal as decimal-Decimal
use Rattle.json_text.specs.Json as json-Json
use Rattle.json_text.specs.Characters as json-Characters
use Rattle.base64_text.specs.Base64 as base64-Base64
use Rattle.datainfo.specs.Datainfo as datainfo-Datainfo
use Rattle.datainfo.specs.Layout as datainfo-Layout
use Rattle.datainfo.specs.Rules as datainfo-Rules
use Rattle.fit.specs.Fit as fit-Fit
use Rattle.table.specs.Layout as table-Layout
use Rattle.table.specs.Rules as table-Rules
use Rattle.table.specs.Search as table-Search
use Rattle.hash.specs.Hash as hash-Hash
use Rattle.index.specs.Index as index-Index
use Rattle.index.specs.Search as index-Search
use Rattle.index.specs.Accessibles as index-Accessibles
use Rattle.report.specs.Report as report-Report
use Rattle.report.specs.Judge as report-Judge
use Rattle.message.specs.Line as message-Line
use Rattle.message.specs.Request as message-Request
use Rattle.message.specs.Error as message-Error
use Rattle.message.specs.Reply as message-Reply
use Rattle.outbox.specs.Outbox as outbox-Outbox
use Rattle.outbox.specs.Sent as outbox-Sent
use Rattle.plain.specs.Node as plain-Node
use Rattle.plain.specs.Answer as plain-Answer
use Rattle.plain.specs.Calls as plain-Calls
use Rattle.plain.specs.History as plain-History
use Rattle.rule.specs.Records as rule-Records

unfoldable pub computed : ℕ
unfolding ascii-Text.bytes ascii-Bytes.all ascii-Bytes.any ascii-Bytes.count ascii-Bytes.take_while ascii-Bytes.drop_while ascii-Bytes.same ascii-Bytes.pairs ascii-Bytes.looked ascii-Bytes.head ascii-Bytes.tail ascii-Bytes.after ascii-Bytes.part ascii-Bytes.is_in ascii-Bytes.is_letter ascii-Names.is_name_byte ascii-Names.is_name ascii-Names.is_text_byte ascii-Names.is_text ascii-Names.lower ascii-Names.lowercase ascii-Names.distinct ascii-Names.unique ascii-Numbers.big_endian_from ascii-Numbers.big_endian ascii-Numbers.twos_complement ascii-Numbers.unsigned ascii-Numbers.signed ascii-Numbers.two_bytes ascii-Numbers.digit ascii-Numbers.digits_in ascii-Numbers.decimal ascii-Numbers.integer ascii-Numbers.seconds decimal-Token.digits decimal-Token.minus decimal-Token.int decimal-Token.frac decimal-Token.sign decimal-Token.exp decimal-Token.number decimal-Token.is_whole decimal-Decimal.excess decimal-Decimal.in_power decimal-Decimal.at_most decimal-Decimal.between decimal-Decimal.numeral_from decimal-Decimal.numeral decimal-Decimal.significand decimal-Decimal.exponent decimal-Decimal.fraction decimal-Decimal.written_power decimal-Decimal.exactly decimal-Decimal.is_within_limits json-Json.is_hex json-Json.is_escape json-Json.hex json-Json.hex4 json-Json.escape json-Json.char json-Json.chars json-Json.string_end json-Json.up_to json-Json.inside json-Json.scalar json-Json.spaced json-Json.items json-Json.array_end json-Json.key json-Json.members json-Json.object_end json-Json.bare json-Json.text json-Json.quoted json-Json.compact json-Characters.hex_digit json-Characters.hex_from json-Characters.escaped json-Characters.character json-Characters.extra json-Characters.characters_after json-Characters.characters datainfo-Datainfo.element_count datainfo-Datainfo.field_names datainfo-Layout.counted datainfo-Layout.limit datainfo-Layout.double_at datainfo-Layout.int_at datainfo-Layout.variants datainfo-Layout.enum_at datainfo-Layout.string_at datainfo-Layout.array_at datainfo-Layout.elements datainfo-Layout.tuple_at datainfo-Layout.fields datainfo-Layout.struct_at datainfo-Layout.typed datainfo-Layout.datainfo_in datainfo-Rules.good_names datainfo-Rules.names_good datainfo-Rules.power_good datainfo-Rules.is_between datainfo-Rules.same_integer datainfo-Rules.values_unique datainfo-Rules.rules_kept fit-Fit.severity fit-Fit.worse fit-Fit.in_range fit-Fit.expect fit-Fit.as_number fit-Fit.as_boolean fit-Fit.as_string fit-Fit.as_array fit-Fit.as_object fit-Fit.double_fit fit-Fit.whole_fit fit-Fit.between_integers fit-Fit.is_variant fit-Fit.string_fit fit-Fit.item_count fit-Fit.worst_item fit-Fit.keys fit-Fit.each_once fit-Fit.value_at fit-Fit.fit fit-Fit.value_verdict fit-Fit.verdict_of fit-Fit.verdict fit-Fit.form_of fit-Fit.stored_form fit-Fit.is_fit fit-Fit.is_stored table-Layout.begins table-Layout.parameter_at table-Layout.argument_at table-Layout.command_at table-Layout.accessibles_at table-Layout.marked_at table-Layout.module_at table-Layout.modules_at table-Layout.head_at table-Layout.whole_table table-Layout.read_table table-Layout.or_empty table-Layout.table_of table-Rules.accessible_name table-Rules.if_any table-Rules.accessible_count table-Rules.counts_good table-Rules.note_good table-Rules.accessible_names_good table-Rules.module_names_good table-Rules.edition_good table-Rules.names_good table-Rules.rules_kept table-Rules.initial_good table-Rules.datainfos_good table-Rules.initials_good table-Search.parameters_of table-Search.commands_of table-Search.placed_from table-Search.parameters table-Search.commands table-Search.first_from table-Search.first table-Search.find_module table-Search.find_parameter table-Search.find_command report-Report.decimal_text report-Report.variant_values report-Report.datainfo_value report-Report.argument_member report-Report.accessible_member report-Report.accessible_members report-Report.module_members report-Report.report_value report-Report.report report-Report.name_items report-Judge.first_fault report-Judge.tree_number report-Judge.number_of report-Judge.table_number message-Line.with_byte message-Line.without_return message-Line.printable message-Line.content message-Line.before_space message-Line.after_space message-Line.parts_of message-Request.module_part message-Request.accessible_part message-Request.scoped message-Request.named message-Request.or_null message-Request.request message-Error.class_name message-Error.class_text message-Reply.data_report message-Reply.report_text message-Reply.optionally message-Reply.identity message-Reply.reply_line message-Reply.update_line outbox-Outbox.mark outbox-Outbox.client outbox-Outbox.body outbox-Outbox.encode outbox-Outbox.encode_all plain-Node.put plain-Node.is_open plain-Node.line_of plain-Node.is_active plain-Node.receive plain-Node.emptied plain-Node.activated plain-Node.initially plain-Node.begin plain-Node.updates_to plain-Node.updates_of plain-Answer.found plain-Answer.let_in plain-Answer.null_verdict plain-Answer.argument_verdict plain-Answer.argument_form plain-Answer.activates plain-Answer.deactivates plain-Answer.in_scope plain-Answer.reads plain-Answer.sets plain-Answer.shows plain-Answer.judging plain-Answer.changes plain-Answer.checks plain-Answer.does plain-Answer.outcome plain-Answer.conclude plain-Answer.answer_parts plain-Answer.answer plain-Calls.reading_verdict plain-Calls.start_number plain-Calls.started plain-Calls.sends plain-Calls.is_small plain-Calls.lent_faults plain-Calls.own_faults plain-Calls.call_number plain-Calls.before_feed plain-Calls.has_feed plain-Calls.used_of plain-Calls.ended plain-Calls.piece_effect plain-Calls.reading_effect plain-Calls.effect plain-Calls.settle plain-Calls.step_if plain-History.step plain-History.answers plain-History.finish plain-History.sent plain-History.sent_bytes plain-History.mark_of plain-History.item_of plain-History.cons_if plain-History.own plain-History.marks plain-History.piece_items plain-History.items_of plain-History.items plain-History.if_accepted plain-History.taken plain-History.standing rule-Records.updates_for rule-Records.replies_for rule-Records.feed_count base64-Base64.sextet base64-Base64.is_sextet base64-Base64.is_whole base64-Base64.padded base64-Base64.more base64-Base64.blob_size datainfo-Layout.scaled_at datainfo-Layout.blob_at datainfo-Layout.flag datainfo-Layout.flagged datainfo-Layout.entry datainfo-Layout.joined datainfo-Layout.partial_at datainfo-Rules.scale_good fit-Fit.blob_fit fit-Fit.expect_or fit-Fit.member_number fit-Fit.within fit-Fit.map_items fit-Fit.map_members fit-Fit.exchanged fit-Fit.numbered fit-Fit.as_partial fit-Fit.at_top fit-Fit.keep_members fit-Fit.join_members fit-Fit.is_left_out fit-Fit.or_none fit-Fit.completed fit-Fit.ordered fit-Fit.in_order fit-Fit.stored fit-Fit.completed_of fit-Fit.change_verdict fit-Fit.change_form message-Error.fault_name message-Error.fault_number message-Error.fault_of message-Reply.error_report message-Reply.fault_report message-Reply.held_report message-Reply.class_report message-Reply.update_word plain-Answer.tells plain-Calls.driver_effect plain-Calls.unreadable_effect rule-Records.feeds_used plain-Answer.busy plain-Answer.admitting plain-Answer.status_of plain-Answer.busy_settings plain-Answer.busy_updates plain-Answer.shown_value message-Reply.counts_text message-Reply.begins message-Reply.is_error outbox-Sent.error_to outbox-Sent.update_to outbox-Sent.errors_sent outbox-Sent.updates_sent plain-Node.below plain-Node.active_count hash-Hash.wrapping_product hash-Hash.hash_byte hash-Hash.hash_from hash-Hash.hash hash-Hash.start_place index-Index.is_free index-Index.empty index-Index.around index-Index.passed index-Index.place_from index-Index.entered index-Index.filled_from index-Index.filled index-Search.offered index-Search.looked index-Search.walked_from index-Search.walked index-Search.searched index-Accessibles.accessibles index-Accessibles.find_accessible index-Accessibles.index_of index-Accessibles.sought index-Accessibles.seek_steps index-Accessibles.parameter_in index-Accessibles.command_in plain-Answer.request_steps plain-Answer.line_steps plain-Calls.is_short plain-Calls.ended_steps plain-Calls.event_steps
computed = 0
