-- `beats::append_steps` meets its contract. The loop's invariant: the slice is as it was, with the first r beats pasted in at `at`.
use Rattle.definitions.specs.Beats.{row_beats}
use Rattle.beats.proofs.Beats.{Appended}
use Rattle.beats.proofs.append_steps.Given as goal

abbrev pub invariant-loop-r : goal.invariant-loop-r
invariant-loop-r l = Appended l.initial.beats l.beats l.at (row_beats l.midx l.rows 0 l.rows) l.rows l.r
