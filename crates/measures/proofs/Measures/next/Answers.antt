-- `measures::Measures::next` meets its contract: the measure that the lines begin with is the first of those that were left.
use mathlib.Core.Path.{refl, ap, ◌∙◌}
use mathlib.Core.Bool.{not}
use native.Mathlib.Omega.{arith}
use Rattle.measures.proofs.Reading.{read-few, lines-fit, rows-fit, minimised-there, end-room, measure-read}
use Rattle.measures.proofs.Measures.next.Goals as goal

pub write_rows-found-requires : goal.write_rows-found-requires
write_rows-found-requires c = lines-fit _ _ c.requires

pub minimise-rows-requires : goal.minimise-rows-requires
minimise-rows-requires c = rows-fit _ _ c.requires _ c.write_rows-found.ensures.count c.write_rows-found.auto.text

pub overflow_mul-end : goal.overflow_mul-end
overflow_mul-end c =
    let w = c.write_rows-found in
    let x = minimised-there _ _ c.requires _ w.ensures.count w.auto.text w.ensures.text_after c.minimise-rows.ensures in
    rw c.width.ensures (omega (arith, end-room _ _ c.requires _ x.0))

pub overflow_add-end : goal.overflow_add-end
overflow_add-end c =
    let w = c.write_rows-found in
    let x = minimised-there _ _ c.requires _ w.ensures.count w.auto.text w.ensures.text_after c.minimise-rows.ensures in
    rw c.width.ensures (omega (arith, end-room _ _ c.requires _ x.0))

pub put_end-self-requires : goal.put_end-self-requires
put_end-self-requires c =
    let w = c.write_rows-found in
    let x = minimised-there _ _ c.requires _ w.ensures.count w.auto.text w.ensures.text_after c.minimise-rows.ensures in
    rw c.width.ensures (omega (arith, rw (← w.ensures.comma) at (end-room _ _ c.requires _ x.0), w.auto.text, c.minimise-rows.auto.text))

pub overflow_add-self : goal.overflow_add-self
overflow_add-self c = omega (arith, read-few _ _ c.requires)

pub returns : goal.returns
returns c =
    let w = c.write_rows-found in
    let r = c.minimise-rows in
    let p = c.put_end-self in
    let x = minimised-there _ _ c.requires _ w.ensures.count w.auto.text w.ensures.text_after r.ensures in
    measure-read _ _ c.requires _ x.0 c.if-self.false _ _ (r.auto.text ∙ w.auto.text) x.1 (rw (c.width.ensures, w.ensures.comma) at p.ensures.text_after) p.auto.text
    _ refl refl w.ensures.lines_after (rw (c.width.ensures, w.ensures.comma) at p.ensures.value) refl (ap not w.ensures.comma)
