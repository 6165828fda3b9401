-- `reduction::reduce_output_measure` meets its contract: the rows stand a byte more than their width apart. Assumes nothing.
use Rattle.reduction.proofs.Forms.{in-text, form-reduced}
use Rattle.reduction.proofs.reduce_output_measure.Goals as goal

pub returns : goal.returns
returns c rs h = form-reduced (in-text c.args.lanes) h (c.reduce_measure.ensures.value, c.reduce_measure.ensures.text_after)
