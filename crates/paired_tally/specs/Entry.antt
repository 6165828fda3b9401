-- A row's entry in the work slice, and its parts.
use Rattle.std.specs.Prelude.{Bool, true, false, ℕ, ◌+◌, ◌*◌, ◌/◌, ◌%◌, ◌==◌, nat_le}
use Rattle.definitions.specs.Lists.{number_of_bool}
use Rattle.definitions.specs.declared.RowSum.{RowSum}

-- The entry of a row with so many arrows and paired heads by its sum: in a plain tally with its tails, in a judged one with the pairs of judged heads
-- that end there, and of a judged row whether it has a mine or fake, and that it is judged.
abbrev pub entry_of : Bool → Bool → RowSum → ℕ → ℕ
entry_of true judged s ends = s.arrows + 16 * (s.holds + s.rolls) + 256 * s.tails
entry_of false true s ends = s.arrows + 16 * (s.holds + s.rolls) + 256 * ends + 4096 * number_of_bool (nat_le 1 (s.mines + s.fakes)) + 8192
entry_of false false s ends = 256 * ends

-- its parts: arrows, paired heads, tails or pairs that end, whether it has a mine or fake, and whether it is judged
abbrev pub arrows_of : ℕ → ℕ
arrows_of entry = entry % 16

abbrev pub heads_of : ℕ → ℕ
heads_of entry = entry / 16 % 16

abbrev pub ends_of : ℕ → ℕ
ends_of entry = entry / 256 % 16

abbrev pub others_of : ℕ → ℕ
others_of entry = entry / 4096 % 2

abbrev pub is_judged : ℕ → Bool
is_judged entry = entry / 8192 == 1
