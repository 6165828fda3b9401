-- `lines::count_byte` meets its contract: what is counted and the count of the rest make the count of the whole. Assumes nothing.
use Rattle.std.proofs.Common.{◌≡◌, ◌+◌, drop, arith}
use lib.Count.{ones}
use Rattle.lines.specs.Search.{count_of}
use Rattle.lines.proofs.Search.{count-hit, count-miss, count-end, count-le}
use Rattle.lines.proofs.SliceWords.{of_word, word_count}
use Rattle.lines.proofs.count_byte.Goals as goal
use Rattle.lines.proofs.count_byte.Goals.{then-slice-i, else-slice-i}

-- the bits of the mask are as many as such bytes of the word: they are counted once in the rest
told : (c : goal.After-byte_match_mask-mask) → count_of c.args.needle (drop c.loop-i.i c.args.slice.now) ≡ ones c.byte_match_mask-mask.result + count_of c.args.needle (drop (c.loop-i.i + 8) c.args.slice.now)
told c =
    let read = of_word c.args.needle c.args.slice.now c.loop-i.i c.loop-i-test.true c.word_at.result (λ k. (c.type_inv.slice k).fits) c.word_at.ensures in
    rw (c.byte_match_mask-mask.ensures, read)
    (word_count c.args.needle c.args.slice.now c.loop-i.i c.loop-i-test.true)

pub overflow_add-n : goal.overflow_add-n
overflow_add-n c = omega (arith, told c, c.loop-i.invariant.1, count-le c.args.needle c.args.slice.now)

pub loop-i-preserved : goal.loop-i-preserved
loop-i-preserved c = (c.loop-i-test.true, omega (arith, told c, c.loop-i.invariant.1))

pub overflow_add-n-then-slice-i : goal.overflow_add-n-then-slice-i
overflow_add-n-then-slice-i c =
    omega (arith, count-hit c.args.needle c.args.slice.now c.loop-i-2.i c.loop-i-2-test.true c.if-slice-i.true, c.loop-i-2.invariant.1, count-le c.args.needle c.args.slice.now)

pub loop-i-2-preserved : goal.loop-i-2-preserved
loop-i-2-preserved c = (
  omega arith,
  elim c.if-slice-i.branch [
    | then-slice-i w ↦ omega (arith, count-hit c.args.needle c.args.slice.now c.loop-i-2.i c.loop-i-2-test.true w.if-slice-i.true, c.loop-i-2.invariant.1)
    | else-slice-i w ↦ omega (arith, count-miss c.args.needle c.args.slice.now c.loop-i-2.i c.loop-i-2-test.true w.if-slice-i.false, c.loop-i-2.invariant.1)
  ],
)

pub returns : goal.returns
returns c =
    omega (arith, c.loop-i-2.invariant.1, count-end c.args.needle c.args.slice.now c.loop-i-2.i c.loop-i-2-test.false)
