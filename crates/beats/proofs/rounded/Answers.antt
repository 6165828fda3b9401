-- `beats::rounded` meets its contract. Assumes nothing.
use Rattle.std.proofs.Common.{◌-◌, refl, arith}
use lib.Ieee.{of_bits}
use Rattle.beats.proofs.Values.{halves}
use Rattle.beats.proofs.rounded.Goals as goal

pub returns : goal.returns
unfolding of_bits
returns c =
    λ k K U. halves k (149 - k) (omega arith) c.args.unit _ U refl c.args.x c.requires
