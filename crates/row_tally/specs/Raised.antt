-- A tally that is raised cell by cell, and then by the row's end.
use Rattle.std.specs.Prelude.{Bool, ◌&&◌, ℕ, ◌+◌, ◌-◌, nat_le}
use Rattle.definitions.specs.Lists.{number_of_bool}
use Rattle.definitions.specs.declared.RowSum.{RowSum}
use Rattle.definitions.specs.declared.ArrowStats.{ArrowStats}

-- The tally t with cells of a row that add up to s. Steps, jumps, hands and what is held are told at the row's end.
unfoldable pub with_cells : ArrowStats → RowSum → ArrowStats
with_cells t s =
    record t {
      total_arrows = t.total_arrows + s.arrows;
      left = t.left + s.left;
      down = t.down + s.down;
      up = t.up + s.up;
      right = t.right + s.right;
      mines = t.mines + s.mines;
      holds = t.holds + s.holds;
      rolls = t.rolls + s.rolls;
      lifts = t.lifts + s.lifts;
      fakes = t.fakes + s.fakes;
      keysounds = t.keysounds + s.keysounds;
      up_left = t.up_left + s.up_left;
      up_right = t.up_right + s.up_right;
    }

-- a step of so many arrows
abbrev pub step_counted : ArrowStats → ℕ → ArrowStats
step_counted t arrows = record t { total_steps = t.total_steps + 1; jumps = t.jumps + number_of_bool (nat_le 2 arrows) }

-- The end of a row of so many arrows, where `hand` says whether it is a hand and `holding` what is held after it: together with the row's cells
-- this is tally_with_sum.
unfoldable pub with_end : ArrowStats → ℕ → Bool → ℕ → ArrowStats
with_end t arrows hand holding =
    record t {
      total_steps = t.total_steps + number_of_bool (nat_le 1 arrows);
      jumps = t.jumps + number_of_bool (nat_le 2 arrows);
      hands = t.hands + number_of_bool hand;
      holding = holding;
    }

-- the end of a row with so many arrows, heads and tails, as tally_with_row has it
abbrev pub row_end : ArrowStats → ℕ → ℕ → ℕ → ArrowStats
row_end t arrows heads tails = with_end t arrows (nat_le 1 arrows && nat_le 3 (arrows + t.holding)) (t.holding + heads - tails)

-- the end of a judged tally's row with so many arrows, and so many mines and fakes, as judge_row has it
abbrev pub judged_row_end : ArrowStats → Bool → ℕ → ℕ → ℕ → ArrowStats
judged_row_end t judged arrows others held = with_end t arrows (judged && (nat_le 1 (arrows + others) && nat_le 3 (arrows + held))) 0
