-- `tap_walk::add_row` meets its contract.
use mathlib.Core.Path.{refl}
use Rattle.taps.proofs.Masks.{below-at, fits-table}
use Rattle.taps.proofs.Free.{free-told}
use Rattle.row_walk.specs.Cells.{notes_of}
use Rattle.tap_walk.proofs.Runs.{added-cells, added-taps}
use Rattle.tap_walk.proofs.add_row.Goals as goal

pub add_taps-requires : goal.add_taps-requires
add_taps-requires c =
    let free = free-told c.free_taps.ensures c.in-Mask.is in
    let R = c.requires.ready in
    record {
      few = R.few;
      rows = c.requires.rows_few;
      fits = fits-table c.args.table.now _ (below-at _ _ _ c.requires.width free.mask);
      ready = record {
        scratch = notes_of c.args.run.now;
        cells = c.args.row.now;
        fits = record {
          row = refl;
          count = refl;
          room = R.room;
          heads = record { busy = c.args.run.now.columns.busy; mask = c.in-Mask.mask; taps = free; free = R.free.heads };
          mask = free.mask;
        };
      };
    }

pub returns-in-Mask : goal.returns-in-Mask
returns-in-Mask c = added-taps _ _ _ c.requires.ready _ _ _ c.add_taps.ensures (free-told c.free_taps.ensures c.in-Mask.is)

pub returns-in-Other : goal.returns-in-Other
returns-in-Other c = added-cells _ _ _ c.requires.ready _ _ c.walk_cells.ensures
