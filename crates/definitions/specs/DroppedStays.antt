-- Specification, Damage, of the list of dropped heads: what two texts have in common in it that differ only in lines of measure d.
-- `dropped-stays` in proofs/Damage/Dropped.antt proves it.
use Rattle.std.specs.Prelude.{◌≡◌, ◌⊎◌, true, ◌&&◌, not, List, [], ◌∷◌, ℕ, suc, ◌+◌, ◌≤◌, ◌<◌, ◌==◌, nat_lt, nat_le, length, filter}
use Rattle.std.specs.List.{AllZip}
use Rattle.definitions.specs.Entries.{row_count}
use Rattle.definitions.specs.Dropped.{dropped_heads}
use Rattle.definitions.specs.Damage.{rows_above, rows_of, open_in}
use Rattle.definitions.specs.declared.DropCause.{DropCause}
use Rattle.definitions.specs.declared.DropCause.TheVariants.{OtherHead, OtherCell, ChartEnd}
use Rattle.definitions.specs.declared.DroppedHead.{DroppedHead}

-- the listed heads that stand in measures before d, and in measures after d
abbrev pub earlier_drops : ℕ → ℕ → List ℕ → List DroppedHead
earlier_drops L d text = filter (λ x. nat_lt x.row (length (rows_above L d text))) (dropped_heads L text)

-- those in measures after d
abbrev pub later_drops : ℕ → ℕ → List ℕ → List DroppedHead
later_drops L d text = filter (λ x. nat_le (length (rows_above L (suc d) text)) x.row) (dropped_heads L text)

-- with a rows of d in the old text and b in the new, row x moves to y where y + a = x + b; "row 4,294,967,295 stays as it is"
pub data ShiftedCause (a b : ℕ) : DropCause → DropCause → Type 0 where
  by_head : {x y : ℕ} → y + a ≡ x + b → ShiftedCause a b (OtherHead x) (OtherHead y)
  by_cell : {x y : ℕ} → y + a ≡ x + b → ShiftedCause a b (OtherCell x) (OtherCell y)
  by_end : ShiftedCause a b ChartEnd ChartEnd

-- x of the old text is y in the new
pub record ShiftedDrop (a b : ℕ) (x y : DroppedHead) : Type 0 where
  pub row : y.row + a ≡ x.row + b
  pub cause : ShiftedCause a b x.cause y.cause
  pub column : x.column ≡ y.column

-- "by a row of d or later in that text or by the chart's end", where d begins at row s of the text's n rows
abbrev pub LateCause : ℕ → ℕ → DropCause → Type 0
LateCause s n (OtherHead j) = (s ≤ j) × (j < n)
LateCause s n (OtherCell j) = (s ≤ j) × (j < n)
LateCause s n ChartEnd = Unit {0}

-- the head at row i and column c is not listed, or once and dropped late
unfoldable pub UnlistedOrLate : ℕ → ℕ → ℕ → ℕ → List DroppedHead → Type 0
UnlistedOrLate s n i c ds =
    let here = filter (λ x. x.row == i && x.column == c) ds in
    (here ≡ []) ⊎ ((cause : DropCause) × LateCause s n cause × (here ≡ record { row = i; column = c; cause = cause } ∷ []))

pub record DroppedStays (L d : ℕ) (old new : List ℕ) : Type 0 where
  -- "heads listed in later measures": "their number, order and fields, but for one shift of both rows"
  pub later : AllZip (ShiftedDrop (length (rows_of L d old)) (length (rows_of L d new))) (later_drops L d old) (later_drops L d new)
  -- "heads listed in earlier measures": "their number, order and fields, the heads that are open where d begins left out in both"
  pub earlier : filter (λ x. not (open_in (rows_above L d old) x.row x.column)) (earlier_drops L d old)
      ≡ filter (λ x. not (open_in (rows_above L d new) x.row x.column)) (earlier_drops L d new)
  -- "such an open head": "in each text it is not listed, or once, and dropped by a row of d or later in that text or by the chart's end"
  pub open_heads : (i c : ℕ)
      → open_in (rows_above L d old) i c ≡ true
      → UnlistedOrLate (length (rows_above L d old)) (row_count L old) i c (dropped_heads L old)
      × UnlistedOrLate (length (rows_above L d old)) (row_count L new) i c (dropped_heads L new)
