-- `note_records::limited_note` meets its contract: a record that keeps the limits is read.
use mathlib.Core.Path.{ap, sym, ◌∙◌}
use mathlib.Core.Bool.{true≢false}
use Rattle.std.specs.Prelude.{is_err}
use Rattle.note_records.proofs.limited_note.Goals as goal

pub unreachable-requires : goal.unreachable-requires
unreachable-requires c = true≢false (ap is_err (sym c.in-Err.is ∙ c.note_of_ten.ensures) ∙ c.requires)
