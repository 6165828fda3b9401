use Rattle.chart_sheet.proofs.Answering.{sheet-room}
use Rattle.laws.proofs.sheet_has_room.Goals as goal

pub returns : goal.returns
returns c = sheet-room
