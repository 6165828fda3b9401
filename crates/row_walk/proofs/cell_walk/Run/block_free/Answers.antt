-- `cell_walk::Run::block_free` meets its contract: the column has the depths 0 and no open head.
use mathlib.Core.Path.{◌≡◌, refl, sym}
use mathlib.Core.Bool.{or-false}
use lib.ListN.{get_or}
use Rattle.row_notes.specs.Writer.{no_head}
use Rattle.row_notes.proofs.Steps.{step-single}
use Rattle.row_walk.proofs.Places.{set-same, block-none}
use Rattle.row_walk.proofs.cell_walk.Run.block_free.Goals as goal

pub returns-clause-walked : goal.returns-clause-walked
returns-clause-walked c =
    let i = c.args.column in
    let k = c.args.self.now.columns in
    let free = c.requires.fits.column.free in
    let inside = c.requires.fits.column.inside in
    let head : get_or k.hold_heads i 0 ≡ no_head = free.heads i inside c.requires.free in
    record {
      phantoms = block-none k.phantoms i (free.depths i inside c.requires.free);
      object_depth = set-same k.object_depths i 0 (free.object_depths i inside c.requires.free);
      ten = c.requires.fits.column.ten;
      free = free;
      last = refl;
      noted = step-single _ _ _ c.requires.fits.note _ _ _ c.args.kind refl
          (record {
            bytes = rw head c.put_note.ensures;
            heads = set-same k.hold_heads i no_head head;
            count = refl;
            row = refl;
            invalid = rw head (sym (or-false c.args.self.now.invalid));
          });
    }
