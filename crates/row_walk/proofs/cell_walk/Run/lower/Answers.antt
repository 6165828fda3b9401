-- `cell_walk::Run::lower` meets its contract.
use mathlib.Core.Path.{refl}
use Rattle.row_notes.proofs.Steps.{step-single}
use Rattle.row_walk.proofs.cell_walk.Run.lower.Goals as goal

pub returns-clause-walked : goal.returns-clause-walked
returns-clause-walked c =
    let put = c.drop_head.ensures in
    record {
      phantoms = put.phantoms;
      object_depth = put.object_depths;
      ten = put.ten;
      free = put.free;
      last = refl;
      noted = step-single _ _ _ c.requires.note _ _ _ c.args.kind refl (record { bytes = c.put_note.ensures; heads = put.heads; count = refl; row = refl; invalid = refl });
    }
