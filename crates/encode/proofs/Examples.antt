-- The examples, by computing. Assumes nothing.
use mathlib.Core.Path.{refl}
use Rattle.ascii.specs.Text.{bytes}
use Rattle.ascii.specs.Bytes.{after, part, same}
use Rattle.ascii.specs.Numbers.{big_endian_from, big_endian, unsigned}
use Rattle.datainfo.specs.Datainfo.{element_count, field_names}
use Rattle.datainfo.specs.Layout.{counted, flag, flagged, entry, joined, fields, partial_at, typed, datainfo_in}
use Rattle.table.specs.Layout.{begins, parameter_at, command_at, accessibles_at, marked_at, module_at, modules_at, head_at, whole_table, read_table}
use Rattle.encode.specs.Encode.{unsigned_bytes, signed_bytes, flag_byte, text_bytes, limit_bytes, variants_bytes, is_next, after_next, datainfo_bytes}
use Rattle.encode.specs.Encode.{before_initial, parameter_bytes, argument_bytes, command_bytes, accessible_bytes, accessibles_bytes, marked_bytes}
use Rattle.encode.specs.Encode.{heading_bytes, module_bytes, modules_bytes, head_bytes, encode}
use Rattle.encode.specs.Examples.{demo, demo_bytes, rich, rich_bytes, doubled, ExamplesAreEncoded, RepeatedNamesAreReadAlike}

pub examples_are_encoded : ExamplesAreEncoded
unfolding bytes same element_count field_names unsigned_bytes signed_bytes flag_byte text_bytes limit_bytes variants_bytes is_next after_next datainfo_bytes before_initial parameter_bytes argument_bytes command_bytes accessible_bytes accessibles_bytes marked_bytes heading_bytes module_bytes modules_bytes head_bytes encode demo demo_bytes rich rich_bytes
examples_are_encoded = (refl, refl)

pub repeated_names_are_read_alike : RepeatedNamesAreReadAlike
unfolding bytes after part big_endian_from big_endian unsigned counted flag flagged entry joined fields partial_at typed datainfo_in begins parameter_at command_at accessibles_at marked_at module_at modules_at head_at whole_table read_table doubled
repeated_names_are_read_alike = (refl, refl)
