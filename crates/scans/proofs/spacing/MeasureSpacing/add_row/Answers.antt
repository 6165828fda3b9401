-- `spacing::MeasureSpacing::add_row` meets its contract: a lost measure stays lost, and any other row adds its step and takes its number's doublings.
use mathlib.Core.Path.{ap, sym, ◌∙◌}
use Rattle.definitions.specs.Lists.{number_of_bool}
use Rattle.scans.proofs.Spaces.{lost-test, hope-test, spaces-lost, spaces-zero, spaces-other}
use Rattle.scans.proofs.spacing.MeasureSpacing.add_row.Goals as goal

pub returns-then-self-number : goal.returns-then-self-number
returns-then-self-number c =
    let lost = lost-test _ _ _ c.if-self-number.true in
    λ cur x. spaces-lost _ cur x _ lost.0 lost.1

pub returns-else-not-is_all_zero : goal.returns-else-not-is_all_zero
returns-else-not-is_all_zero c =
    λ cur x.
    spaces-zero _ cur x (hope-test _ _ _ c.if-self-number.false) _ _
    (c.from.ensures ∙ ap number_of_bool c.row_has_note-has_note.ensures)
    (sym c.is_all_zero.ensures ∙ c.if-not-is_all_zero.false)

pub returns-then-not-is_all_zero : goal.returns-then-not-is_all_zero
returns-then-not-is_all_zero c =
    λ cur x.
    spaces-other _ cur x (hope-test _ _ _ c.if-self-number.false) _ _
    (c.from.ensures ∙ ap number_of_bool c.row_has_note-has_note.ensures)
    _ c.min-self.ensures (sym c.is_all_zero.ensures ∙ c.if-not-is_all_zero.true)
