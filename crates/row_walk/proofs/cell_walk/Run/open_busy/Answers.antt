-- `cell_walk::Run::open_busy` meets its contract.
use mathlib.Core.Path.{refl, ap, ◌∙◌}
use native.Mathlib.Numerals.{add-one}
use lib.ListN.{set}
use Rattle.row_notes.proofs.Steps.{step-head}
use Rattle.row_walk.proofs.cell_walk.Run.open_busy.Goals as goal

pub returns-clause-walked : goal.returns-clause-walked
returns-clause-walked c =
    let put = c.open.ensures in
    record {
      phantoms = put.phantoms;
      object_depth = put.object_depths ∙ ap (set c.args.self.now.columns.object_depths c.args.column) (add-one _);
      ten = put.ten;
      free = put.free;
      last = refl;
      noted = step-head _ _ _ c.requires.note _ _ _ c.args.kind refl (record { bytes = c.put_note.ensures; heads = put.heads; count = refl; row = refl; invalid = refl });
    }
