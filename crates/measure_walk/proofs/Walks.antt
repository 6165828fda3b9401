-- Rows of a measure, walked one after the other: what one more asks.
use mathlib.Core.Path.{◌≡◌}
use mathlib.Core.List.{List}
use Prim.Native.Nat.{ℕ, ◌≤◌, ◌<◌}
use native.Mathlib.Omega.{arith}
use lib.ListN.{length, take, length-append}
use lib.Seq.{length-take-le}
use Rattle.definitions.specs.Sizes.{measures_bound, row_count_bound}
use Rattle.definitions.specs.Lists.{joined}
use Rattle.definitions.specs.Lines.{Row}
use Rattle.measure_tally.specs.declared.Counting.{Counting}
use Rattle.measure_tally.specs.Counted.{Few, Counted}
use Rattle.tap_walk.specs.Noted.{Noting, NotedRows, RowReady}
use Rattle.tap_walk.proofs.Rows.{row_number, row-ready, one-room}
use Rattle.tap_walk.specs.Walked.{Walking}

-- the walk goes on
pub walked_on : (L : ℕ) (c c' : Counting) (n n' : Noting) (l l' : List ℕ) (ms : List Row) (i j : ℕ) → Walking L c n l ms i → length l' ≡ length l
    → ((done : List (List Row)) → Counted L c done (take i ms) → Counted L c' done (take j ms))
    → ((done : List (List Row)) → NotedRows L n l done (take i ms) → NotedRows L n' l' done (take j ms)) → Walking L c' n' l' ms j
walked_on L c c' n n' l l' ms i j W e f g = record {
  done = W.done;
  counted = f W.done W.counted;
  noted = g W.done W.noted;
  few = W.few;
  room = omega (arith, W.room, e);
  midx = W.midx;
}

module _ (L : ℕ) (c : Counting) (n : Noting) (l : List ℕ) (ms : List Row) (i : ℕ) (W : Walking L c n l ms i) (h : i < length ms) where
  many : length (take i ms) ≡ i
  many = length-take-le i ms (omega arith)

  pub count-few : (c.rows < row_count_bound) × Few c
  count-few = (omega (arith, W.counted.rows, length-append (joined W.done) (take i ms), many, W.few), W.counted.few)

  pub note-ready : (row : Row) → length row ≡ L → L ≤ 10 → RowReady n row l
  note-ready row w narrow =
      let number = row_number L n l W.done (take i ms) W.noted in
      row-ready L n l W.done (take i ms) W.noted row w narrow (omega (arith, number, many, W.few))
      (one-room n.scratch.row_index (length (joined W.done)) (length ms) L (length l) (omega (arith, number, many)) W.room)

-- the measure can end
pub measure-ready : (L : ℕ) (c : Counting) (n : Noting) (l : List ℕ) (ms : List Row) (i : ℕ) → Walking L c n l ms i → i ≤ length ms → (n.last.rows < row_count_bound) × (n.last.midx ≤ measures_bound)
measure-ready L c n l ms i W h =
    (omega (arith, W.noted.last.rows, length-take-le i ms h, W.few), omega (arith, W.noted.last.midx, W.midx))
