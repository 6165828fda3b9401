-- What the definitions of the form `json` give for the example's figures, computed.
use mathlib.Core.Path.{refl}
use Rattle.definitions.specs.Records.{word, note_of, note_of_record}
use Rattle.std.specs.Fmt.{digits}
use Rattle.page.specs.Texts.{number_field}
use Rattle.sheet.specs.Sheet.{field_count, named_fields}
use Rattle.sheet_json.specs.Json.{named, figure, last_beat_of, json_heads, member, members, json_tallies, entry_of_density, entry_of_spacing, value_of_note, entry_of_record, json_lists, json_of}
use Rattle.sheet_json.specs.Example.{JsonExample}

pub json-example : JsonExample
unfolding json_of named last_beat_of json_heads json_tallies json_lists figure member members entry_of_density entry_of_spacing entry_of_record value_of_note digits number_field named_fields note_of_record note_of word field_count
json-example = refl
