-- `dropped_list::list_heads` meets its contract: the list at the slice's end is moved to its front.
use mathlib.Core.Path.{◌∙◌}
use mathlib.Core.List.{[]}
use native.Mathlib.Omega.{arith}
use Rattle.dropped_list.proofs.Front.{listed-count, moved-answer}
use Rattle.dropped_list.proofs.list_heads.Goals as goal

pub returns-clause-value : goal.returns-clause-value
returns-clause-value c =
    λ chart x.
    let l = c.list_heads_last-first.ensures in
    listed-count _ [] _ _ _ (omega (arith, l.same_length, c.list_heads_last-first.auto.list)) l.in_list (l.list_after chart x)

pub returns-clause-list_after : goal.returns-clause-list_after
returns-clause-list_after c =
    λ chart x.
    let l = c.list_heads_last-first.ensures in
    c.zero_past.ensures
    ∙ moved-answer _ _ _ _ _ (omega (arith, l.same_length, c.list_heads_last-first.auto.list)) l.in_list (l.list_after chart x) _ _ c.copy_within.ensures.after (search arith) c.requires.list_room
