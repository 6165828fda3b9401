-- A row of taps alone, told by its mask: whatever row has that mask.
use Rattle.std.specs.Prelude.{◌≡◌, Bool, ℕ}
use Rattle.definitions.specs.Lines.{Row}
use Rattle.definitions.specs.Tally.{row_sum, tally_with_row}
use Rattle.definitions.specs.Judged.{judged_sum, judge_row}
use Rattle.definitions.specs.declared.ArrowStats.{ArrowStats}
use Rattle.taps.specs.Taps.{mask_of_line}
use Rattle.row_tally.specs.Raised.{with_cells}
use Rattle.taps.specs.declared.Taps.TheVariants.{Mask}

-- the tally r is t with the row
abbrev pub TapsCounted : ℕ → ArrowStats → ArrowStats → Type 0
TapsCounted mask t r = (row : Row) → mask_of_line row ≡ Mask mask → r ≡ tally_with_row t (row_sum row)

-- the judged tally r is t with the row, before which `held` holds are open
abbrev pub TapsJudged : Bool → ℕ → ℕ → ArrowStats → ArrowStats → Type 0
TapsJudged judged held mask t r = (row : Row) → mask_of_line row ≡ Mask mask → r ≡ judge_row t judged held (judged_sum judged row)

-- r is t with the row's cells, whose arrows are so many, and the row's end is yet to be told
pub record TapsAdded (t r : ArrowStats) (arrows : ℕ) (row : Row) : Type 0 where
  pub stats : r ≡ with_cells t (row_sum row)
  pub few : arrows ≡ (row_sum row).arrows
