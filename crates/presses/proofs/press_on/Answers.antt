-- `presses::press_on` meets its contract.
use Rattle.presses.proofs.Read.{on-note}
use Rattle.presses.proofs.press_on.Goals as goal

pub returns : goal.returns
returns c = on-note c.args.bytes.now _ _ c.get_word-row.ensures c.from.ensures
