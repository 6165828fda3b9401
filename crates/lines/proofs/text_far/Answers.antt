-- `lines::text_far` meets its contract: the search from `start` on tells where the next line begins. Assumes nothing.
use Rattle.std.proofs.Common.{◌<◌, length, sym, ◌∙◌, arith}
use Rattle.lines.proofs.Search.{below-found, below-none}
use Rattle.lines.proofs.Trims.{part-all}
use Rattle.lines.proofs.text_far.Goals as goal
use Rattle.lines.proofs.text_far.Goals.{In-Some}

within : (c : In-Some) → c.in-Some.at < length c.args.«data».now
within c = (below-found 10 _ c.args.start _ c.requires (sym c.find_long.ensures ∙ c.in-Some.is)).0

pub overflow_add-result : goal.overflow_add-result
overflow_add-result c = omega (arith, within c)

pub slice_bounds-result-count : goal.slice_bounds-result-count
slice_bounds-result-count c = omega (arith, within (goal.at.slice_bounds-result-count c).In-Some)

pub slice_bounds-result-start : goal.slice_bounds-result-start
slice_bounds-result-start c = omega (arith, within (goal.at.slice_bounds-result-start c).In-Some)

pub returns-in-Some : goal.returns-in-Some
returns-in-Some c =
    rw part-all (below-found 10 _ c.args.start _ c.requires (sym c.find_long.ensures ∙ c.in-Some.is)).1

pub returns-in-None : goal.returns-in-None
returns-in-None c = below-none 10 _ c.args.start (sym c.find_long.ensures ∙ c.in-None.is)
