-- `beats::step_of` meets its contract.
use Rattle.std.proofs.Common.{refl}
use lib.Ieee.{of_bits, of_int}
use Rattle.definitions.specs.Beats.{step}
use Rattle.beats.proofs.step_of.Goals as goal

pub returns : goal.returns
unfolding step of_bits of_int
returns c = refl
