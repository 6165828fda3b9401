-- `measures::write_rows` meets its contract.
use mathlib.Core.Path.{ap, ◌∙◌}
use mathlib.Core.List.{◌∷◌}
use native.Mathlib.Omega.{arith}
use Rattle.reader.specs.ChartLines.{mark_of}
use Rattle.measures.specs.Lines.{first_rows}
use Rattle.measures.proofs.Writing.{fits-row, row-written, rows-are, bytes-are}
use Rattle.measures.proofs.write_rows.Goals as goal

pub put_row-requires : goal.put_row-requires
put_row-requires c =
    let e = c.in-Some.ensures.steps ∙ ap (λ l. mark_of l ∷ c.next.new.self) c.in-Row.is in
    let x = fits-row (rw e at c.rows.invariant.fits) c.args.form in
    omega (arith, x.0, x.1.room_for)

pub rows-preserved : goal.rows-preserved
rows-preserved c =
    let e = c.in-Some.ensures.steps ∙ ap (λ l. mark_of l ∷ c.next.new.self) c.in-Row.is in
    let x = row-written c.args.form c.args.lanes.count _ _ _ _ _ _ _ e c.rows.invariant.fits c.put_row.ensures c.put_row.auto.text (omega (arith, c.width-width.ensures)) in
    record { made = x.0 ∙ c.rows.invariant.made; fits = x.1 }

pub returns-in-Comma-clause-count : goal.returns-in-Comma-clause-count
returns-in-Comma-clause-count c =
    let e = c.in-Some.ensures.steps ∙ ap (λ l. mark_of l ∷ c.next.new.self) c.in-Comma.is in
    rw c.width-width.ensures (rows-are _ _ _ _ _ _ _ _ c.rows.invariant.made (ap first_rows e) c.args.lanes.within.0)

pub returns-in-Comma-clause-text_after : goal.returns-in-Comma-clause-text_after
returns-in-Comma-clause-text_after c =
    let e = c.in-Some.ensures.steps ∙ ap (λ l. mark_of l ∷ c.next.new.self) c.in-Comma.is in
    rw c.width-width.ensures (bytes-are _ _ _ _ _ _ _ _ c.rows.invariant.made (ap first_rows e) c.args.lanes.within.0)

pub returns-clause-count : goal.returns-clause-count
returns-clause-count c = rw c.width-width.ensures (rows-are _ _ _ _ _ _ _ _ c.rows.invariant.made (ap first_rows c.in_default.ensures.steps.0) c.args.lanes.within.0)

pub returns-clause-text_after : goal.returns-clause-text_after
returns-clause-text_after c = rw c.width-width.ensures (bytes-are _ _ _ _ _ _ _ _ c.rows.invariant.made (ap first_rows c.in_default.ensures.steps.0) c.args.lanes.within.0)
