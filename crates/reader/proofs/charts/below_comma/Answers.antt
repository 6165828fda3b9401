-- `reader::charts::below_comma` meets its contract: the newline stands one byte past the comma, or two.
use Rattle.std.proofs.Common.{sym, ◌∙◌, arith}
use Rattle.lines.proofs.Trims.{part-all}
use Rattle.reader.proofs.Plain.{below-past, below-twice}
use Rattle.reader.proofs.charts.below_comma.Goals as goal

pub returns-then-bare : goal.returns-then-bare
returns-then-bare c = rw part-all (below-twice 0 c.args.text.now (omega (arith, c.if-text-lt3.false)) (λ e. omega (arith, c.requires.comma, e)) c.if-bare.true)

pub returns-then-past_one : goal.returns-then-past_one
returns-then-past_one c =
    rw part-all
    (below-twice 1 c.args.text.now (omega (arith, c.if-text-lt3.false)) c.if-bare.false c.if-past_one.true
    ∙ sym (below-past 0 c.args.text.now c.requires.some (λ e. omega (arith, c.requires.comma, e))))
