-- `reduction::reduce_rows` meets its contract: the rows stand as far apart as they are wide. Assumes nothing.
use native.Mathlib.Nat.{add-zero}
use Rattle.reduction.proofs.Forms.{back-to-back, form-reduced}
use Rattle.reduction.proofs.reduce_rows.Goals as goal

pub returns : goal.returns
returns c rs h = form-reduced (back-to-back c.args.lanes) h (rw add-zero at c.reduce_measure.ensures.value, rw add-zero at c.reduce_measure.ensures.text_after)
