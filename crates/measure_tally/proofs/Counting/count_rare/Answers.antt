-- `measure_tally::Counting::count_rare` meets its contract: what each letter does to its column, and the tally with the cell.
use native.Mathlib.Omega.{arith}
use mathlib.Core.Path.{refl, ◌≡◌}
use Prim.Native.Nat.{ℕ, ◌<◌}
use Rattle.definitions.specs.Cells.{cell_of}
use Rattle.cells.proofs.Letters.{empty-letter}
use Rattle.measure_tally.proofs.Cells.{cell-counted, cell-unheld, cell-empty}
use Rattle.measure_tally.proofs.Counting.count_rare.Goals as goal

pub returns-in-76 : goal.returns-in-76
unfolding cell_of
returns-in-76 c = cell-counted _ _ _ _ _ _ _ (rw c.in-76.is) c.block.ensures c.count.ensures

pub returns-in-70 : goal.returns-in-70
unfolding cell_of
returns-in-70 c = cell-counted _ _ _ _ _ _ _ (rw c.in-70.is) c.block-in-70.ensures c.count-in-70.ensures

pub returns-in_default : goal.returns-in_default
returns-in_default c =
    let other : (k : ℕ) → 96 < k → c.args.b ≡ k → ⊥ = λ k h e. omega (arith, c.if-b-lt97.true) in
    cell-empty _ _ _ _
    (empty-letter _ c.requires.letter c.requires.no_mine (λ e. omega (arith, c.in_default)) (λ e. omega (arith, c.in_default)) c.requires.no_keysound
    (other 109 (omega arith)) (other 108 (omega arith)) (other 102 (omega arith)))

pub returns-in-109 : goal.returns-in-109
unfolding cell_of
returns-in-109 c = cell-unheld _ _ _ _ _ _ (rw c.in-109.is) refl c.count-in-109.ensures

pub returns-in-108 : goal.returns-in-108
unfolding cell_of
returns-in-108 c = cell-unheld _ _ _ _ _ _ (rw c.in-108.is) refl c.count-in-108.ensures

pub returns-in-102 : goal.returns-in-102
unfolding cell_of
returns-in-102 c = cell-unheld _ _ _ _ _ _ (rw c.in-102.is) refl c.count-in-102.ensures

pub returns-in_default-b : goal.returns-in_default-b
returns-in_default-b c =
    let other : (k : ℕ) → k < 97 → c.args.b ≡ k → ⊥ = λ k h e. omega (arith, c.if-b-lt97.false) in
    cell-empty _ _ _ _
    (empty-letter _ c.requires.letter c.requires.no_mine (other 76 (omega arith)) (other 70 (omega arith)) c.requires.no_keysound
    (λ e. omega (arith, c.in_default-b)) (λ e. omega (arith, c.in_default-b)) (λ e. omega (arith, c.in_default-b)))
