-- What a walk holds of a measure of which some rows are walked, as what is counted and noted.
use Rattle.std.specs.Prelude.{ℕ, ◌-◌, nat_lt, Option, Some, None, if◌then◌else◌}
use Rattle.beats.specs.declared.RowPlace.{RowPlace}
use Rattle.row_walk.specs.Cells.{notes_of}
use Rattle.row_walk.specs.Rows.{objects_of}
use Rattle.row_walk.specs.declared.cell_walk.Run.{Run}
use Rattle.measure_tally.specs.declared.Counting.{Counting}
use Rattle.tap_walk.specs.Noted.{Noting}

-- What a walk leaves as it is: the steps before the measure, the last object row of the measures before, and the measure's number.
pub record Rest : Type 0 where
  pub before : ℕ
  pub found : Option RowPlace
  pub midx : ℕ

abbrev pub counting_of : Rest → Run → Counting
counting_of q r = record { stats = r.stats; phantoms = r.columns.phantoms; rows = r.row; before = q.before; busy = r.columns.busy }

-- the measure's last object row, where `first` rows stand before the measure
abbrev pub row_at : ℕ → ℕ → Option ℕ
row_at first last = if nat_lt first last then Some (last - 1 - first) else None

abbrev pub noting_of : ℕ → Rest → Run → Noting
noting_of first q r = record {
  scratch = notes_of r;
  last = record { depths = objects_of r; busy = r.columns.busy; found = q.found; row = row_at first r.last; rows = r.row - first; midx = q.midx };
}
