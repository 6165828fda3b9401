-- `dropped_list::list_heads_last` meets its contract. The loop's invariant: the rows from number `row` on are listed, and the text's first `at` bytes are left.
use mathlib.Core.Path.{sym, ◌∙◌, subst}
use native.Mathlib.Omega.{arith}
use Rattle.dropped_list.proofs.Walk.{Reading, walk-start, some-line, walk-comma, some-row, row-room, walk-row, reading-end}
use Rattle.dropped_list.proofs.list_heads_last.Goals as goal

pub loop-at-init : goal.loop-at-init
loop-at-init c = walk-start _ c.args.lanes.within _ _ _ c.requires.list_length

pub ends_comma-requires-clause-some_line : goal.ends_comma-requires-clause-some_line
ends_comma-requires-clause-some_line c = some-line c.args.lanes.within c.loop-at.invariant c.requires.minimised c.loop-at-test.true

pub overflow_sub-at : goal.overflow_sub-at
overflow_sub-at c = some-line c.args.lanes.within c.loop-at.invariant c.requires.minimised c.loop-at-test.true

pub loop-at-preserved-then-ends_comma : goal.loop-at-preserved-then-ends_comma
loop-at-preserved-then-ends_comma c = walk-comma c.args.lanes.within c.loop-at.invariant c.requires.minimised c.loop-at-test.true (sym c.ends_comma.ensures ∙ c.if-ends_comma.true)

pub overflow_sub-start : goal.overflow_sub-start
overflow_sub-start c = (some-row c.args.lanes.within c.loop-at.invariant c.requires.minimised c.loop-at-test.true (sym c.ends_comma.ensures ∙ c.if-ends_comma.false)).fits

pub overflow_sub-row : goal.overflow_sub-row
overflow_sub-row c = (some-row c.args.lanes.within c.loop-at.invariant c.requires.minimised c.loop-at-test.true (sym c.ends_comma.ensures ∙ c.if-ends_comma.false)).some

pub list_row-requires-clause-some_room : goal.list_row-requires-clause-some_room
list_row-requires-clause-some_room c = row-room c.args.lanes.within c.loop-at.invariant c.requires.minimised c.loop-at-test.true (sym c.ends_comma.ensures ∙ c.if-ends_comma.false)

pub loop-at-preserved : goal.loop-at-preserved
loop-at-preserved c =
    walk-row c.args.lanes.within c.loop-at.invariant c.requires.minimised c.loop-at-test.true (sym c.ends_comma.ensures ∙ c.if-ends_comma.false)
    _ _ c.list_row.ensures.fewer c.list_row.ensures.few_records c.list_row.ensures.same_length c.list_row.ensures.listed

pub returns-clause-list_after : goal.returns-clause-list_after
returns-clause-list_after c =
    λ chart x.
    reading-end _ c.args.lanes.within.0 _ _ _ _ _
    (subst (λ n. Reading c.args.lanes.count chart c.args.text.now n c.loop-at.row c.loop-at.listing c.loop-at.list) (omega (arith, c.loop-at-test.false)) (c.loop-at.invariant.reading chart x))
