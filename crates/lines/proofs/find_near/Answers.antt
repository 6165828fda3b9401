-- `lines::find_near` meets its contract: what the search of the rest finds is what the search of the whole finds. Assumes nothing.
use Rattle.std.proofs.Common.{◌≡◌, ◌<◌, length, sym, ◌∙◌, arith}
use Rattle.lines.proofs.Search.{found-position, found_from, find-hit, find-miss}
use Rattle.lines.proofs.find_near.Goals as goal

pub returns-then-slice-place : goal.returns-then-slice-place
returns-then-slice-place c =
    let inside : c.loop-place.place < length c.args.slice.now = omega (arith, c.requires) in
    found-position c.args.needle c.args.slice.now ∙ c.loop-place.invariant.1 ∙ find-hit _ _ _ inside c.if-slice-place.true

pub loop-place-preserved : goal.loop-place-preserved
loop-place-preserved c =
    let inside : c.loop-place.place < length c.args.slice.now = omega (arith, c.requires) in
    (omega arith, c.loop-place.invariant.1 ∙ find-miss _ _ _ inside c.if-slice-place.false)

pub returns : goal.returns
returns c =
    let last : c.loop-place.place ≡ c.args.near = omega (arith, c.loop-place.invariant.0) in
    found-position c.args.needle c.args.slice.now ∙ c.loop-place.invariant.1 ∙ rw last (sym (found_from c.args.needle c.args.near _))
