-- `measures::chart_measures` meets its contract: nothing is read yet.
use mathlib.Core.Path.{refl}
use Rattle.measures.proofs.Reading.{read-start}
use Rattle.measures.proofs.chart_measures.Goals as goal

pub returns : goal.returns
returns c = λ text. read-start refl refl c.chart_lines.ensures refl refl refl
