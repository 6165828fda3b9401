-- `stored::figures` meets its contract: the first 256 bytes, and the others.
use Rattle.std.proofs.Common.{rules, ap, ◌∙◌, length, length-take-le}
use Rattle.stored.proofs.Joined.{first_part}
use Rattle.stored.proofs.figures.Goals as goal

pub returns-clause-value : goal.returns-clause-value
returns-clause-value c = first_part _ _ _ 256 c.in_ok-figures.ensures.cases.0 c.in_ok-figures.ensures.cases.1

pub returns-clause-size : goal.returns-clause-size
returns-clause-size c = ap length c.in_ok-figures.ensures.cases.0 ∙ length-take-le 256 _ (search rules)
