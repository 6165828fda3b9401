use Rattle.definitions.proofs.OwnRows.{main-kept-agree}
use Rattle.laws.proofs.main_kept_agree.Goals as goal

pub returns : goal.returns
returns c = main-kept-agree
