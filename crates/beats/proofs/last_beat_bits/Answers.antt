-- `beats::last_beat_bits` meets its contract. Assumes nothing.
use Rattle.std.proofs.Common.{not, T, sym, subst}
use lib.Ieee.{Float, is_nan}
use Rattle.beats.proofs.Placed.{placed-number}
use Rattle.beats.proofs.last_beat_bits.Goals as goal

pub float_to_bits-result : goal.float_to_bits-result
float_to_bits-result c =
    subst (λ (x : Float). T (not (is_nan x))) (sym c.calc_last_beat.ensures) (placed-number c.args.last c.requires)
