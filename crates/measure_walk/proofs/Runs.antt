-- What a walk holds while it goes over a measure, and what one more row asks.
use mathlib.Core.Path.{◌≡◌, refl, sym, ◌∙◌, subst}
use mathlib.Core.List.{List, []}
use Prim.Native.Nat.{ℕ, ◌+◌, ◌*◌, ◌≤◌, ◌<◌}
use native.Mathlib.Omega.{arith}
use lib.ListN.{length, take}
use lib.Seq.{take_all}
use Rattle.definitions.specs.Sizes.{count_bound, row_count_bound}
use Rattle.definitions.specs.Lines.{Row}
use Rattle.row_tally.proofs.Bounds.{below_more}
use Rattle.phantoms.proofs.Loop.{low-more}
use Rattle.reduction.specs.Rows.{rows_of}
use Rattle.reduction.proofs.RowsAt.{rows-length}
use Rattle.reduction.proofs.Powers.{next-at}
use Rattle.row_walk.specs.Columns.{Ten}
use Rattle.row_walk.specs.Rows.{CellsReady}
use Rattle.measure_tally.specs.Counted.{Counted}
use Rattle.measure_tally.proofs.Places.{part, row-wide, row_more}
use Rattle.tap_walk.specs.Noted.{NotedRows}
use Rattle.tap_walk.specs.Held.{noting_of}
use Rattle.tap_walk.specs.Walked.{Walking, RowAdded}
use Rattle.measure_walk.proofs.Walks.{walked_on, count-few, note-ready}
use Rattle.measure_walk.specs.Views.{rest, counting, noting}
use Rattle.row_walk.specs.declared.cell_walk.Run.{Run}
use Rattle.measure_walk.specs.declared.Walk.{Walk}

-- From a walk between two measures the first i rows of the measure ms are walked, which has `rows` and stands from start on; the next one stands at `at`.
pub record RowsWalked (L start rows : ℕ) (ms : List Row) (w : Walk) (l : List ℕ) (w' : Walk) (l' : List ℕ) (i at : ℕ) : Type 0 where
  pub inside : i ≤ rows
  pub stands : at ≡ start + i * (L + 1)
  pub number : w'.run.row ≡ w.run.row + i
  pub same : length l' ≡ length l
  pub ten : Ten w'.run.columns
  pub counted : (done : List (List Row)) → Counted L (counting w) done [] → Counted L (counting w') done (take i ms)
  pub noted : (done : List (List Row)) → NotedRows L (noting w) l done [] → NotedRows L (noting_of w.run.row (rest w') w'.run) l' done (take i ms)

-- no row is walked yet
pub walked-none : (L start rows : ℕ) (ms : List Row) (w : Walk) (l : List ℕ) → Ten w.run.columns → RowsWalked L start rows ms w l w l 0 start
walked-none L start rows ms w l ten = record {
  inside = omega arith;
  stands = omega arith;
  number = omega arith;
  same = refl;
  ten = ten;
  counted = λ done x. x;
  noted = λ done x. x;
}

-- of a text's rows
module _ (L rows : ℕ) (text : List ℕ) (start : ℕ) (fits : start + rows * (L + 1) ≤ length text) (narrow : L ≤ 10)
    (w : Walk) (l : List ℕ) (w' : Walk) (l' : List ℕ) (i at : ℕ) (X : RowsWalked L start rows (rows_of L rows text start) w l w' l' i at)
    (W : Walking L (counting w) (noting w) l (rows_of L rows text start) 0) where
  now : Walking L (counting w') (noting_of w.run.row (rest w') w'.run) l' (rows_of L rows text start) i
  now = walked_on L _ _ _ _ l l' _ 0 i W X.same X.counted X.noted

  -- all are walked
  pub all-ready : i ≤ length (rows_of L rows text start)
  all-ready = rw rows-length X.inside

  -- one is left
  module _ (h : i < rows) where
    here : i < length (rows_of L rows text start)
    here = rw rows-length h

    pub width : length (part L text at) ≡ L
    width = row-wide L rows text start fits i at h X.stands

    pub rows-few : w'.run.row < row_count_bound
    rows-few = (count-few L _ _ l' _ i now here).0

    pub row-asked : CellsReady (part L text at) w'.run l'
    row-asked =
        let few = (count-few L _ _ l' _ i now here).1 in
        let ready = note-ready L _ _ l' _ i now here (part L text at) width narrow in
        record {
          few = below_more (10 * w'.run.row) count_bound w'.run.stats (omega (arith, rows-few)) few.stats;
          ten = X.ten;
          free = record { depths = now.counted.free; object_depths = now.noted.last.free; heads = now.noted.free };
          phantoms = low-more (10 * w'.run.row) count_bound _ (omega (arith, rows-few)) few.phantoms;
          objects = ready.low;
          room = ready.room;
        }

    -- and one more is walked
    pub walked-next : (r : Run) (m : List ℕ) → length m ≡ length l' → RowAdded (part L text at) w'.run l' r m
        → RowsWalked L start rows (rows_of L rows text start) w l (record w' { run = r }) m (i + 1) (at + L + 1)
    walked-next r m e A =
        let ms = rows_of L rows text start in
        let more = sym (row_more L rows text start fits i at h X.stands) in
        record {
          inside = omega arith;
          stands = next-at at start i L X.stands;
          number = omega (arith, A.number, X.number);
          same = e ∙ X.same;
          ten = A.ten;
          counted = λ done x. subst (Counted L _ done) more (A.counted (rest w') L done (take i ms) (omega (arith, width)) narrow (X.counted done x));
          noted = λ done x. subst (NotedRows L _ m done) more
              (A.noted (rest w') L w.run.row done (take i ms) (omega (arith, X.number)) (omega (arith, width)) (X.noted done x));
        }

  -- where no row is left
  pub whole : rows ≤ i → take i (rows_of L rows text start) ≡ rows_of L rows text start
  whole h = take_all i (rows_of L rows text start) (rw rows-length h)
