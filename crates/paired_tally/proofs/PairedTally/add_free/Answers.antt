-- `PairedTally::add_free` meets its contract: the row's sum is that of its mask, which has no head and no tail.
use mathlib.Core.Path.{refl, ap, sym, ◌∙◌}
use mathlib.Core.Bool.{true, false}
use Prim.Native.Nat.{◌+◌, ◌*◌}
use lib.ListN.{set}
use Rattle.row_tally.specs.Raised.{with_cells}
use Rattle.paired_tally.proofs.TapRows.{entry-stays, judged-row, plain-entry, judged-entry, no-taps-stats, no-taps-entry, no-taps-plain}
use Rattle.paired_tally.proofs.PairedTally.add_free.Goals as goal

pub returns-then-not-plain : goal.returns-then-not-plain
returns-then-not-plain c r e =
    rw c.if-not-plain.true
    (record {
      tracker = refl;
      stats = no-taps-stats r e c.if-mask-eq0.true false c.args.judged c.args.self.now.stats;
      entry = ap (set c.args.work.now c.args.row) (c.taps_entry.ensures ∙ sym (no-taps-entry r e c.if-mask-eq0.true c.args.judged));
    })

pub returns-else-not-plain : goal.returns-else-not-plain
returns-else-not-plain c r e =
    rw c.if-not-plain.false
    (record {
      tracker = refl;
      stats = no-taps-stats r e c.if-mask-eq0.true true c.args.judged c.args.self.now.stats;
      entry =
          entry-stays c.args.work.now c.args.row c.requires.entry_clear
          ∙ ap (set c.args.work.now c.args.row) (sym (no-taps-plain r e c.if-mask-eq0.true c.args.judged));
    })

pub returns-then-plain : goal.returns-then-plain
returns-then-plain c r e =
    let x = c.add_taps-arrows.ensures.value r e in
    rw c.if-plain.true
    (record {
      tracker = refl;
      stats = x.stats;
      entry = ap (set c.args.work.now c.args.row) (c.taps_entry-then-plain.ensures ∙ ap (λ n. n + 8192 * 0) x.few ∙ sym (plain-entry r e c.args.judged));
    })

pub returns-then-judged : goal.returns-then-judged
returns-then-judged c r e =
    let x = c.add_taps-arrows-then-judged.ensures.value r e in
    rw (c.if-plain.false, c.if-judged.true)
    (record {
      tracker = refl;
      stats = x.stats ∙ ap (with_cells c.args.self.now.stats) (sym (judged-row r e));
      entry = ap (set c.args.work.now c.args.row) (c.taps_entry-then-judged.ensures ∙ ap (λ n. n + 8192 * 1) x.few ∙ sym (judged-entry r e));
    })

pub returns : goal.returns
returns c r e =
    rw (c.if-plain.false, c.if-judged.false)
    (record {
      tracker = refl;
      stats = c.add_fakes.ensures r e;
      entry = entry-stays c.args.work.now c.args.row c.requires.entry_clear;
    })
