-- `write_zeros` meets its contract. The loop's invariant: so many rows are written.
use mathlib.Core.Path.{◌≡◌, refl, ap, sym, ◌∙◌}
use mathlib.Core.List.{List, ◌++◌}
use Prim.Native.Nat.{◌+◌}
use native.Mathlib.Omega.{arith}
use lib.ListN.{take, replicate}
use Rattle.std.proofs.lemmas.List.{take-replicate}
use Rattle.definitions.specs.Figures.{row_text}
use Rattle.definitions.specs.Lines.{Row}
use Rattle.written.proofs.Putting.{zero-row, zero-rows}
use Rattle.written.proofs.Texts.{measure-next, more-room}
use Rattle.written.proofs.write_zeros.Goals as goal

pub loop-row-preserved : goal.loop-row-preserved
loop-row-preserved c =
    let x = c.loop-row.invariant in
    measure-next x _ (take-replicate c.args.lanes.count 10 48 c.args.lanes.within.1 ∙ sym (zero-row (0 + c.loop-row._row) 0 c.args.lanes.count))
    (omega (arith, x.size, x.same_length, more-room c.args.lanes.count c.args.at c.loop-row._row c.args.count _ c.loop-row-test.true c.requires.text_room))
    _ c.put_line.ensures _ refl

pub returns-clause-written : goal.returns-clause-written
returns-clause-written c =
    let e : c.loop-row._row ≡ c.args.count = omega (arith, c.loop-row-test.false, c.loop-row.auto._row-end) in
    c.loop-row.invariant.written
    ∙ ap (λ (r : List Row). take c.args.at c.args.text.now ++ row_text r) (zero-rows c.args.lanes.count 0 c.loop-row._row)
    ∙ ap (λ k. take c.args.at c.args.text.now ++ row_text (replicate k (replicate c.args.lanes.count 48))) e
