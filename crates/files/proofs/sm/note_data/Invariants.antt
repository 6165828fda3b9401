-- `files::sm::note_data` meets its contract: the data is what follows the fields that are still to end.
use Rattle.std.proofs.Common.{◌≡◌, ◌-◌}
use Rattle.files.specs.Sm.{data_part}
use Rattle.files.proofs.Fields.{part_from}
use Rattle.files.proofs.sm.note_data.Given as goal

abbrev pub invariant-loop : goal.invariant-loop
invariant-loop l = data_part l.text ≡ part_from (5 - l.counter) l.rest
