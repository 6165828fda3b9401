-- What the examples say, as statements.
use Rattle.std.specs.Prelude.{◌≡◌, true, map}
use Rattle.definitions.specs.Damage.{Differ, DamageStays, rows_above, open_in}
use Rattle.definitions.specs.DamageExample.{old_text, new_text, parts, parts_of_old, parts_of_new}
use Rattle.definitions.specs.Objects.{last48, last_beat_of}
use Rattle.definitions.specs.Examples as texts
use Rattle.definitions.specs.RuleExamples as rules
use Rattle.definitions.specs.TallyExamples as tallies
use Rattle.definitions.specs.RequestExamples as requests
use Rattle.definitions.specs.DroppedExamples as lists
use Rattle.definitions.specs.WrittenExamples as charts
use Rattle.definitions.specs.PressExamples as presses
use Rattle.beats.specs.Vectors.{all_right, results}
use Rattle.sheet.specs.Card.{card}

-- of each example of the specification: the figures that the definitions give are those that the table says
abbrev pub ExamplesHold : Type 0
ExamplesHold = map texts.given_by_definitions texts.table ≡ map texts.said texts.table

-- of each example that pins a rule, too
abbrev pub RuleExamplesHold : Type 0
RuleExamplesHold = map texts.given_by_definitions rules.table ≡ map texts.said rules.table

-- of each example of keysounds, of six lanes and of missing flags
abbrev pub TallyExamplesHold : Type 0
TallyExamplesHold = map texts.given_by_definitions tallies.table ≡ map texts.said tallies.table

-- of each example of the requests: the answer that the definitions give is the one that the table says
abbrev pub RequestExamplesHold : Type 0
RequestExamplesHold =
    map (λ (e : requests.Example). requests.sm_told (texts.bytes e.file) e.k) requests.table
    ≡ map (λ (e : requests.Example). e.answer) requests.table

-- of each example of the list of dropped heads, the same
abbrev pub DroppedExamplesHold : Type 0
DroppedExamplesHold = map lists.told_of lists.table ≡ map (λ (e : lists.Example). e.list) lists.table

-- of each example of a written chart, the same
abbrev pub WrittenExamplesHold : Type 0
WrittenExamplesHold = map charts.told_of charts.table ≡ map (λ (e : charts.Example). e.answer) charts.table

-- of each example of pad traces, the same
abbrev pub PressExamplesHold : Type 0
PressExamplesHold = map presses.told_of presses.table ≡ map (λ (e : presses.Example). e.answer) presses.table

-- what the card prints for its example; `|` is byte 10
abbrev pub CardExample : Type 0
CardExample =
    card (texts.bytes "1000|0000|0100|0000|;|")
    ≡ texts.bytes "measures 1|rows 2|arrows 2|steps 2|keys 0|notes 2|last 96|m 0 2 1|n 0 0 0 -|n 1 1 0 -|"

-- of each computed result: the row beat and the last beat that the definitions give have its bits
abbrev pub BeatsRight : Type 0
BeatsRight = all_right results ≡ true

-- The two texts of the damage theorem's example differ only in lines of measure 1, and the rest stays. The head in row 1 and column 3 is open where
-- measure 1 begins, and each part of the theorem has notes to speak of.
abbrev pub DamageMet : Type 0
DamageMet =
    Differ 4 1 old_text new_text
    × DamageStays 4 1 old_text new_text
    × (open_in (rows_above 4 1 old_text) 1 3 ≡ true)
    × (parts old_text ≡ parts_of_old)
    × (parts new_text ≡ parts_of_new)

-- and so does their last beat, as a float and in 48ths
abbrev pub LastBeatStays : Type 0
LastBeatStays = (last_beat_of 4 old_text ≡ last_beat_of 4 new_text) × (last48 4 old_text ≡ last48 4 new_text)
