-- `write_rows` meets its contract. The loop's invariant: so many measures are written, with `,` between them.
use mathlib.Core.Path.{ap, sym, ◌∙◌}
use mathlib.Core.List.{List, [], ◌∷◌, ◌++◌}
use native.Mathlib.Omega.{arith}
use Prim.Native.Nat.{◌+◌}
use lib.ListN.{length, take, get_or}
use Rattle.definitions.specs.Figures.{row_text}
use Rattle.definitions.specs.Lines.{Row}
use Rattle.written.proofs.Sizes.{sum-few, first-few, first-room}
use Rattle.written.proofs.Texts.{text-first, text-next, text-end, comma-room, measure-room, measure-few, placed-length}
use Rattle.written.proofs.Putting.{zero-rows}
use Rattle.written.proofs.write_rows.Goals as goal

pub write_zeros-at-requires-clause-few : goal.write_zeros-at-requires-clause-few
write_zeros-at-requires-clause-few c = omega (arith, sum-few c.args.lanes.count c.args.counts.now c.args.lanes.within.0 c.requires.short, first-few c.args.counts.now)

pub write_zeros-at-requires-clause-text_room : goal.write_zeros-at-requires-clause-text_room
write_zeros-at-requires-clause-text_room c = first-room c.args.lanes.count c.args.counts.now _ c.requires.text_room

pub loop-i-init : goal.loop-i-init
loop-i-init c =
    let x = c.write_zeros-at.ensures in
    let n = get_or c.args.counts.now 0 0 in
    record {
      first = n;
      here =
          text-first c.args.counts.now c.requires.some_count
          (record {
            written = x.written ∙ ap (λ (r : List Row). take 0 c.args.text.now ++ row_text r) (sym (zero-rows c.args.lanes.count 0 n));
            size = x.size;
            same_length = x.same_length;
          });
    }

pub put_comma-requires : goal.put_comma-requires
put_comma-requires c = comma-room c.loop-i.invariant.here c.loop-i-test.true c.requires.text_room

pub write_zeros-at-requires-in-loop-i-clause-few : goal.write_zeros-at-requires-in-loop-i-clause-few
write_zeros-at-requires-in-loop-i-clause-few c =
    omega (
      arith,
      measure-few c.loop-i.invariant.here c.loop-i-test.true c.requires.text_room (sum-few c.args.lanes.count c.args.counts.now c.args.lanes.within.0 c.requires.short),
    )

pub write_zeros-at-requires-in-loop-i-clause-text_room : goal.write_zeros-at-requires-in-loop-i-clause-text_room
write_zeros-at-requires-in-loop-i-clause-text_room c =
    omega (
      arith,
      measure-room c.loop-i.invariant.here c.loop-i-test.true c.requires.text_room,
      ap length c.put_comma.ensures,
      placed-length c.loop-i.text (44 ∷ 10 ∷ []) c.loop-i.at (comma-room c.loop-i.invariant.here c.loop-i-test.true c.requires.text_room),
    )

pub loop-i-preserved : goal.loop-i-preserved
loop-i-preserved c =
    let x = c.write_zeros-at-in-loop-i.ensures in
    let y = c.loop-i.invariant in
    let n = get_or c.args.counts.now c.loop-i.i 0 in
    record {
      first = y.first + n;
      here =
          text-next y.here c.loop-i-test.true c.requires.text_room _ c.put_comma.ensures _ _
          (x.written ∙ ap (λ (r : List Row). take (c.loop-i.at + 2) c.put_comma.new.text ++ row_text r) (sym (zero-rows c.args.lanes.count y.first n)))
          x.size x.same_length;
    }

pub returns-clause-written : goal.returns-clause-written
returns-clause-written c = (text-end c.loop-i.invariant.here c.loop-i-test.false).0

pub returns-clause-size : goal.returns-clause-size
returns-clause-size c = (text-end c.loop-i.invariant.here c.loop-i-test.false).1
