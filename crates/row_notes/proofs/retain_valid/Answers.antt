-- A record whose tail says that it was dropped is none of the notes; any other is moved behind those that were moved before it.
use Rattle.std.proofs.Common.{sym, ◌∙◌}
use Rattle.row_notes.proofs.Retaining.{retain-start, retain-gone, retain-stays, retain_end}
use Rattle.row_notes.proofs.retain_valid.Goals as goal
use Rattle.row_notes.proofs.retain_valid.Goals.{then-tail, else-tail}

pub loop-k-init : goal.loop-k-init
loop-k-init c = retain-start _ _ _

pub loop-k-preserved : goal.loop-k-preserved
loop-k-preserved c =
    let at = c.loop-k.invariant in
    let inside = c.loop-k-test.true in
    let tail = c.get_word-tail.ensures in
    elim c.if-tail.branch [
      | then-tail w ↦ rw w.stay-is (retain-stays _ _ _ c.requires _ _ _ at c.if-tail.notes inside (λ e. w.if-tail.true (tail ∙ e)) (w.notes-is ∙ w.move_record.ensures))
      | else-tail w ↦ rw (w.notes-is, w.stay-is) (retain-gone _ _ _ c.requires _ _ _ at inside (sym tail ∙ w.if-tail.false))
    ]

pub returns : goal.returns
returns c = retain_end _ _ _ c.requires _ _ _ c.loop-k.invariant c.loop-k-test.false
