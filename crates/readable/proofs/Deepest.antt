-- The example, by computing. Assumes nothing.
use mathlib.Core.Path.{refl}
use Rattle.ascii.specs.Text.{bytes}
use Rattle.ascii.specs.Bytes.{all, any, same, head, tail, drop_while, after, part, is_in, is_letter}
use Rattle.ascii.specs.Names.{is_name_byte, is_name, is_text_byte, is_text, lower, lowercase, distinct, unique}
use Rattle.ascii.specs.Numbers.{big_endian_from, big_endian, twos_complement, unsigned, signed, digit, digits_in, decimal, integer}
use Rattle.decimal.specs.Token as Token
use Rattle.json_text.specs.Json.{is_hex, is_escape, hex, hex4, escape, char, chars, string_end, up_to, inside, scalar, spaced, items, array_end, key, members, object_end}
use Rattle.json_text.specs.Json.{bare, quoted, compact}
use Rattle.datainfo.specs.Datainfo.{element_count}
use Rattle.datainfo.specs.Layout.{counted, variants, enum_at, elements, tuple_at, typed, datainfo_in, flag}
use Rattle.datainfo.specs.Rules as Datainfo
use Rattle.datainfo.specs.Rules.{good_names, is_between, same_integer, values_unique}
use Rattle.table.specs.Layout.{begins, argument_at, command_at, accessibles_at, marked_at, module_at, modules_at, head_at, whole_table, read_table, or_empty, table_of}
use Rattle.table.specs.Rules.{accessible_name, if_any, accessible_count, counts_good, note_good, accessible_names_good, module_names_good, edition_good, names_good}
use Rattle.table.specs.Rules.{rules_kept, initial_good, datainfos_good, initials_good}
use Rattle.report.specs.Report.{variant_values, datainfo_value, argument_member, accessible_member, accessible_members, module_members, report_value, report}
use Rattle.report.specs.Judge.{first_fault, tree_number, number_of, table_number}
use Rattle.readable.specs.Theorems.{deepest, FewerAreTooFew}

pub fewer_are_too_few : FewerAreTooFew
unfolding bytes all any same head tail drop_while after part is_in is_letter is_name_byte is_name is_text_byte is_text lower lowercase distinct unique big_endian_from big_endian twos_complement unsigned signed digit digits_in decimal integer Token.digits Token.minus Token.int Token.frac Token.sign Token.exp Token.number is_hex is_escape hex hex4 escape char chars string_end up_to inside scalar spaced items array_end key members object_end bare quoted compact element_count counted variants enum_at elements tuple_at typed datainfo_in flag Datainfo.names_good Datainfo.rules_kept good_names is_between same_integer values_unique begins argument_at command_at accessibles_at marked_at module_at modules_at head_at whole_table read_table or_empty table_of accessible_name if_any accessible_count counts_good note_good accessible_names_good module_names_good edition_good names_good rules_kept initial_good datainfos_good initials_good variant_values datainfo_value argument_member accessible_member accessible_members module_members report_value report first_fault tree_number number_of table_number deepest
fewer_are_too_few = record { accepted = refl; refused = refl }
