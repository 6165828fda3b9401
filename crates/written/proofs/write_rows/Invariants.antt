-- `write_rows` meets its contract. The loop's invariant: so many measures are written, with `,` between them.
use mathlib.Core.List.{[]}
use lib.ListN.{length}
use Rattle.written.proofs.Texts.{TextHere}
use Rattle.written.proofs.write_rows.Given as goal

abbrev pub invariant-loop-i : goal.invariant-loop-i
invariant-loop-i l = TextHere l.lanes.count [] l.counts (length l.fn.text) l.i l.at l.text
