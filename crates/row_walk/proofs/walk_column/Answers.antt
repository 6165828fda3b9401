-- `row_walk::walk_column` meets its contract: a `0` does nothing.
use mathlib.Core.Path.{refl}
use Rattle.definitions.specs.Tracker.{hold_at}
use Rattle.definitions.specs.Objects.{object_at}
use Rattle.definitions.specs.Notes.{effect_at}
use Rattle.row_walk.specs.Rows.{more}
use Rattle.row_walk.proofs.Effects.{walked-zero, counted-zero}
use Rattle.row_walk.proofs.Rows.{reached-fits}
use Rattle.row_walk.proofs.walk_column.Goals as goal

pub walk_cell-requires : goal.walk_cell-requires
walk_cell-requires c = reached-fits _ _ _ _ c.requires.reached c.requires.inside

pub returns-then-b-eq48 : goal.returns-then-b-eq48
returns-then-b-eq48 c r₀ l₀ before =
    let column = (reached-fits _ _ _ _ c.requires.reached c.requires.inside).column in
    more before
    (record {
      walked = walked-zero _ _ _ _ c.if-b-eq48.true column.ten column.free;
      counted = counted-zero _ c.args.column _ c.args.run.now c.if-b-eq48.true;
      size = refl;
    })

pub returns : goal.returns
unfolding hold_at object_at effect_at
returns c r₀ l₀ before =
    more before
    (record {
      walked = c.walk_cell.ensures.walked;
      counted = c.walk_cell.ensures.counted;
      size = c.walk_cell.auto.slots;
    })
