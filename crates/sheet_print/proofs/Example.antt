-- What the definitions of the form `print` give for the example's figures, computed.
use mathlib.Core.Path.{refl}
use Rattle.definitions.specs.Records.{word, note_of, note_of_record}
use Rattle.std.specs.Fmt.{digits}
use Rattle.page.specs.Texts.{aligned, aligned_left}
use Rattle.sheet.specs.Sheet.{field_count, named_fields}
use Rattle.sheet_print.specs.Print.{line_of_count, three, line_of_last_beat, print_heads, line_of_tally, lines_of_tally, head_of_tally, print_tallies, entry_of_density, head_of_densities, head_of_held, print_of}
use Rattle.sheet_print.specs.Example.{PrintExample}

pub print-example : PrintExample
unfolding print_of print_heads print_tallies line_of_count three line_of_last_beat line_of_tally lines_of_tally head_of_tally entry_of_density head_of_densities head_of_held digits aligned aligned_left named_fields note_of_record note_of word field_count
print-example = refl
