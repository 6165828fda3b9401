-- `beats::note_row_to_beat` meets its contract. Assumes nothing.
use Rattle.std.proofs.Common.{refl}
use lib.Ieee.{of_int, of_bits}
use Rattle.definitions.specs.Beats.{row_to_beat}
use Rattle.beats.proofs.note_row_to_beat.Goals as goal

pub returns : goal.returns
unfolding row_to_beat of_bits of_int
returns c = refl
