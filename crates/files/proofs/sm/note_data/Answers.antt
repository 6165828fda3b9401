-- `files::sm::note_data` meets its contract: the data is what follows the fields that are still to end.
use Rattle.std.proofs.Common.{◌≡◌, ◌+◌, ◌-◌, suc, sym, ap, ◌∙◌, arith, option_copied}
use Rattle.files.proofs.Fields.{part_from, part-all, part-few, part-next}
use Rattle.files.proofs.sm.note_data.Goals as goal

pub loop-init : goal.loop-init
loop-init c = part-all _

pub returns-in_err-rest : goal.returns-in_err-rest
returns-in_err-rest c =
    ap option_copied c.from_residual.ensures
    ∙ sym (c.loop.invariant ∙ part-few (5 - c.loop.counter) _ (omega arith) (sym c.after_byte.ensures ∙ ap option_copied (c.in_err-rest.was)))

pub loop-preserved : goal.loop-preserved
loop-preserved c =
    let one : 5 - c.loop.counter ≡ suc (5 - (c.loop.counter + 1)) = omega arith in
    c.loop.invariant
    ∙ ap (λ n. part_from n c.loop.rest.now) one
    ∙ part-next _ _ _ (sym c.after_byte.ensures ∙ ap option_copied (c.in_ok-rest.was))
