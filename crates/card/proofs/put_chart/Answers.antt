-- The call accepts, since each slice is as long as a text of 4,095 bytes asks for, and leaves the sheet of the text.
use Rattle.std.specs.Prelude.{◌≡◌, Ok}
use Rattle.chart_sheet.specs.Entry.{places_of_sheet, sheet_answer}
use Rattle.card.proofs.Sheet.{taken, not-refused, answer_is}
use Rattle.card.proofs.put_chart.Goals as goal
use Rattle.card.proofs.put_chart.Goals.{After-chart_sheet}

accepted : (c : After-chart_sheet) → sheet_answer 4 0 c.args.data.now c.zeros-text.result c.zeros-densities.result c.zeros-spacing.result
    c.zeros-beats.result c.zeros-work.result c.zeros-notes.result c.args.out.now ≡ Ok (places_of_sheet 0 4 c.args.data.now)
accepted c =
    answer_is _ _ _ _ _ _ _ _ c.requires.text_length
    c.zeros-text.ensures c.zeros-densities.ensures c.zeros-spacing.ensures c.zeros-beats.ensures
    c.zeros-work.ensures c.zeros-notes.ensures c.requires.room

pub unreachable-requires : goal.unreachable-requires
unreachable-requires c =
    not-refused _ _ _ _ _ _ _ _ (accepted (goal.at.unreachable-requires c).After-chart_sheet) c.chart_sheet.ensures.value c.in-Err.is

pub returns : goal.returns
returns c =
    let all = taken _ _ _ _ _ _ _ _ (accepted (goal.at.returns c).After-chart_sheet) c.chart_sheet.ensures.value c.chart_sheet.ensures.sheet_after c.in-Ok.is c.chart_sheet.auto.sheet in
    record { within = all.0; written = all.1 }
