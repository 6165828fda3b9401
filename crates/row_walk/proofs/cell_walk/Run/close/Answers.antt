-- `cell_walk::Run::close` meets its contract.
use mathlib.Core.Path.{refl}
use Rattle.row_notes.proofs.Steps.{step-closes}
use Rattle.row_walk.proofs.cell_walk.Run.close.Goals as goal

pub returns-clause-walked : goal.returns-clause-walked
returns-clause-walked c =
    let put = rw c.end_object.ensures at c.close.ensures in
    rw c.end_object.ensures
    (record {
      phantoms = put.phantoms;
      object_depth = put.object_depths;
      ten = put.ten;
      free = put.free;
      last = refl;
      noted = step-closes _ _ _ c.requires.note _ _ _ refl (record { bytes = c.end_note.ensures; heads = put.heads; count = refl; row = refl; invalid = refl });
    })
