-- The loop's invariant: the spacing of the measures that have ended is stored, and `measure` holds what counts of the open one.
use Rattle.scans.specs.Spaces.{Spaces}
use Rattle.reader.proofs.ChartLoops.{Holds}
use Rattle.scans.proofs.Filling.{Filling}
use Rattle.scans.proofs.Spaces.{spaced_in}
use Rattle.scans.proofs.spacing.fill_at.Given as goal

abbrev pub invariant-loop-line : goal.invariant-loop-line
invariant-loop-line g l = Holds g.row.L l.data (Filling spaced_in (Spaces l.measure) l.m l.spacing) l.yielded l.line-iterator
