-- The loop's invariant: the densities of the measures that have ended are stored, and `steps` is that of the open one.
use Rattle.definitions.specs.Figures.{density}
use Rattle.reader.proofs.ChartLoops.{Holds}
use Rattle.scans.proofs.Filling.{Filling}
use Rattle.scans.proofs.Steps.{Steps}
use Rattle.scans.proofs.densities.fill_at.Given as goal

abbrev pub invariant-loop-line : goal.invariant-loop-line
invariant-loop-line g l = Holds g.row.L l.data (Filling density (Steps l.steps) l.m l.densities) l.yielded l.line-iterator
