-- `beats::beat_to_note_row` meets its contract. Assumes nothing.
use Rattle.std.proofs.Common.{◌≡◌, ℕ, ◌^◌, refl, ◌∙◌}
use lib.Ieee.{Float, binary64, add, mul, div, of_int, of_bits}
use Rattle.definitions.specs.Beats.{f64, beat, whole, last_row}
use Rattle.beats.specs.Places.{Inside}
use Rattle.beats.specs.Upto.{Upto}
use Rattle.beats.proofs.Last.{scaled-upto}
use Rattle.beats.proofs.beat_to_note_row.Goals as goal

-- what the code hands on: 4 and 48 are float literals
abbrev four : Float
four = of_bits binary64 4616189618054758400

abbrev code : ℕ → ℕ → ℕ → Float
code m r n = mul binary64 (add binary64 (mul binary64 (f64 m) four) (div binary64 (mul binary64 four (f64 r)) (f64 n))) (of_bits binary64 4631952216750555136)

code-upto : (m r n : ℕ) → Inside m r n → Upto (code m r n) (2 ^ 38)
unfolding beat of_bits of_int
code-upto m r n i = scaled-upto m r n i

code_is : (m r n : ℕ) → whole (code m r n) ≡ last_row m r n
unfolding last_row beat of_bits of_int
code_is m r n = refl

pub lrint_f64-requires : goal.lrint_f64-requires
lrint_f64-requires c =
    code-upto c.args.m c.args.r c.args.n c.requires

pub returns : goal.returns
returns c =
    record { value = c.lrint_f64.ensures.value ∙ code_is c.args.m c.args.r c.args.n; few = c.lrint_f64.ensures.few }
