-- `reduction::compact_output_rows` meets its contract: each row that stays is moved from within the rows to a place before it, and with the exponent 0 all
-- rows stay where they are.
use Prim.Native.Nat.{ℕ, ◌<◌, ◌^◌, ◌/◌, ◌%◌}
use mathlib.Core.Path.{◌≡◌, sym, ◌∙◌, ap}
use Rattle.std.proofs.Common.{Fits, w64}
use native.Mathlib.Omega.{arith}
use native.Mathlib.Nat.{div-one, div-le_self}
use Rattle.reduction.specs.Rows.{compacted}
use Rattle.definitions.proofs.Reduction.{below_power}
use Rattle.reduction.proofs.Compaction.{
  moved-start,
  moved-next,
  moved-size,
  moved-step,
  moved-end,
  one-stays,
  power-fits,
  shifted_one,
  left-times,
}
use Rattle.reduction.proofs.Moves.{moved-within}
use Rattle.reduction.proofs.compact_output_rows.Goals as goal

-- the exponent is below the number of bits, since its power divides the rows, which are some
shift_fits : (shift rows : ℕ) → 0 < rows → rows % 2 ^ shift ≡ 0 → Fits w64 rows → shift < 64
shift_fits shift rows some even f = power-fits shift rows some f.fits even

pub overflow_shl-step : goal.overflow_shl-step
overflow_shl-step c = shift_fits c.args.shift c.args.rows c.requires.some c.requires.divides c.ranges.rows

pub overflow_shr-left : goal.overflow_shr-left
overflow_shr-left c = shift_fits c.args.shift c.args.rows c.requires.some c.requires.divides c.ranges.rows

pub loop-row-init : goal.loop-row-init
loop-row-init c =
    let e = shifted_one c.args.shift (shift_fits c.args.shift c.args.rows c.requires.some c.requires.divides c.ranges.rows) in (
      e,
      moved-start _ _ _ _ _ _
          (rw e (omega (arith, below_power c.args.shift, c.if-shift-eq0.false)))
          (left-times c.args.rows c.args.shift _ e c.requires.divides)
          c.requires.some
          c.requires.in_text,
    )

pub overflow_mul-row : goal.overflow_mul-row
overflow_mul-row c = omega (arith, moved-next c.loop-row.invariant.1 c.loop-row-test.true)

pub move_row-requires : goal.move_row-requires
move_row-requires c =
    let next = moved-next c.loop-row.invariant.1 c.loop-row-test.true in
    record { apart = next.1; from_within = omega (arith, next, moved-size c.loop-row.invariant.1) }

pub overflow_add-row : goal.overflow_add-row
overflow_add-row c = omega (arith, div-le_self c.args.rows (2 ^ c.args.shift))

pub loop-row-preserved : goal.loop-row-preserved
loop-row-preserved c = (c.loop-row.invariant.0, moved-step c.loop-row.invariant.1 c.loop-row-test.true _ (c.move_row.ensures ∙ sym (moved-within c.loop-row.text _ _ c.args.width)))

pub returns-then-shift-eq0 : goal.returns-then-shift-eq0
returns-then-shift-eq0 c =
    record {
      value = sym (ap (λ (k : ℕ). c.args.rows / 2 ^ k) c.if-shift-eq0.true ∙ div-one c.args.rows);
      text_after =
          one-stays c.args.width c.args.rows c.args.start c.args.text.now c.requires.in_text
          ∙ ap (λ (k : ℕ). compacted c.args.width c.args.rows (2 ^ k) c.args.start c.args.text.now) (sym c.if-shift-eq0.true);
    }

pub returns-clause-text_after : goal.returns-clause-text_after
returns-clause-text_after c =
    moved-end c.loop-row.invariant.1 c.loop-row-test.false
    ∙ ap (λ (k : ℕ). compacted c.args.width c.args.rows k c.args.start c.args.text.now) c.loop-row.invariant.0
