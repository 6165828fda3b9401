-- `presses::is_played` meets its contract.
use Rattle.presses.proofs.Read.{played-note}
use Rattle.presses.proofs.is_played.Goals as goal

pub returns : goal.returns
returns c = played-note c.args.bytes.now
