-- `lines::skip_ws` meets its contract: the line from i on has the same rest without leading blanks as the whole line. Assumes nothing.
use Rattle.std.proofs.Common.{◌≡◌, ◌-◌, ◌≤◌, length, drop}
use Rattle.definitions.specs.Lines.{trim}
use Rattle.lines.proofs.skip_ws.Given as goal

abbrev pub invariant-loop-i : goal.invariant-loop-i
invariant-loop-i l = (l.i ≤ length l.line) × (trim l.line ≡ trim (drop l.i l.line))

abbrev pub decreases-loop-i : goal.decreases-loop-i
decreases-loop-i l = length l.line - l.i
