-- `objects::LastScan::end_measure` meets its contract.
use Rattle.objects.proofs.LastHeld.{held-none, held_at}
use Rattle.objects.proofs.LastScan.end_measure.Goals as goal

pub returns-in_default-clause-held : goal.returns-in_default-clause-held
returns-in_default-clause-held c = λ done cur x. held-none _ done cur x c.in_default.not-Some

pub returns-in-Some-clause-held : goal.returns-in-Some-clause-held
returns-in-Some-clause-held c = λ done cur x. held_at _ done cur x _ c.in-Some.is c.requires.rows_few c.requires.measures_few
