-- `cell_walk::Run::open_free` meets its contract: the column has no open head.
use mathlib.Core.Path.{◌≡◌, refl, ap, sym, ◌∙◌}
use mathlib.Core.Bool.{or-false}
use native.Mathlib.Numerals.{add-one}
use lib.ListN.{get_or, set}
use Rattle.row_notes.specs.Writer.{no_head}
use Rattle.row_notes.proofs.Steps.{step-head}
use Rattle.row_walk.proofs.cell_walk.Run.open_free.Goals as goal

pub returns-clause-walked : goal.returns-clause-walked
returns-clause-walked c =
    let i = c.args.column in
    let k = c.args.self.now.columns in
    let column = c.requires.fits.column in
    let head : get_or k.hold_heads i 0 ≡ no_head = column.free.heads i column.inside c.requires.free in
    let put = c.open.ensures in
    record {
      phantoms = put.phantoms;
      object_depth = put.object_depths ∙ ap (set k.object_depths i) (add-one _);
      ten = put.ten;
      free = put.free;
      last = refl;
      noted = step-head _ _ _ c.requires.fits.note _ _ _ c.args.kind refl
          (record {
            bytes = rw head c.put_note.ensures;
            heads = put.heads;
            count = refl;
            row = refl;
            invalid = rw head (sym (or-false c.args.self.now.invalid));
          });
    }
