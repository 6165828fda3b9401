-- What the main call's pass is lent and leaves.
use Rattle.std.specs.Prelude.{◌≡◌, List, [], ℕ, ◌≤◌}
use Rattle.measure_tally.specs.Counted.{Counted}
use Rattle.row_walk.specs.Columns.{Ten}
use Rattle.tap_walk.specs.Noted.{Noted}
use Rattle.measure_walk.specs.declared.Walk.{Walk}
use Rattle.measure_walk.specs.Views.{counting, noting}
use Rattle.kept_pass.specs.declared.Kept.{Kept}
use Rattle.chart_pass.specs.declared.Minimised.{Minimised}

-- a walk over no measure
pub record NothingWalked (w : Walk) : Type 0 where
  pub counted : (L : ℕ) → L ≤ 10 → Counted L (counting w) [] []
  pub noted : (L : ℕ) (slots : List ℕ) → Noted L (noting w) slots []
  pub ten : Ten w.run.columns
  pub row : w.run.row ≡ 0

-- what is written and counted, as the kept-row pass has it
abbrev pub kept_of : Walk → Minimised → Kept
kept_of w m = record { counting = counting w; bytes = m.bytes; measures = m.measures }
