-- `last_beat::scan_at` meets its contract. The loop's invariant: what is held is what counts of the lines that have come.
use Rattle.reader.proofs.ChartLoops.{Holds}
use Rattle.objects.specs.LastHeld.{LastHeld}
use Rattle.scans.proofs.last_beat.scan_at.Given as goal

abbrev pub invariant-loop-line : goal.invariant-loop-line
invariant-loop-line g l = Holds g.row.L l.data (LastHeld l.last) l.yielded l.line-iterator
