-- Bytes that stand for nothing, told by their order and by a few that they are not.
use mathlib.Core.Path.{◌≡◌}
use Prim.Native.Nat.{ℕ, ◌<◌}
use native.Mathlib.Omega.{arith}
use borrow.Author.Tests.{ne_eqb}
use Rattle.definitions.specs.Cells.{cell_of}
use Rattle.definitions.specs.declared.Cell.TheVariants.{Empty}

other-empty : (b : ℕ) → (b ≡ 49 → ⊥) → (b ≡ 50 → ⊥) → (b ≡ 51 → ⊥) → (b ≡ 52 → ⊥) → (b ≡ 77 → ⊥) → (b ≡ 76 → ⊥) → (b ≡ 70 → ⊥) → (b ≡ 75 → ⊥) → (b ≡ 109 → ⊥)
    → (b ≡ 108 → ⊥) → (b ≡ 102 → ⊥) → cell_of b ≡ Empty
unfolding cell_of
other-empty b n1 n2 n3 n4 nM nL nF nK nm nl nf =
    rw (ne_eqb b 49 n1, ne_eqb b 50 n2, ne_eqb b 51 n3, ne_eqb b 52 n4, ne_eqb b 77 nM, ne_eqb b 76 nL, ne_eqb b 70 nF, ne_eqb b 75 nK, ne_eqb b 109 nm, ne_eqb b 108 nl, ne_eqb b 102 nf)

-- below `3`
pub empty-digit : (b : ℕ) → b < 51 → (b ≡ 49 → ⊥) → (b ≡ 50 → ⊥) → cell_of b ≡ Empty
empty-digit b h n m =
    let past : (k : ℕ) → 50 < k → b ≡ k → ⊥ = λ k l e. omega arith in
    other-empty b n m (past 51 (omega arith)) (past 52 (omega arith)) (past 77 (omega arith)) (past 76 (omega arith)) (past 70 (omega arith)) (past 75 (omega arith))
    (past 109 (omega arith)) (past 108 (omega arith)) (past 102 (omega arith))

-- past `4`
pub empty-letter : (b : ℕ) → 52 < b → (b ≡ 77 → ⊥) → (b ≡ 76 → ⊥) → (b ≡ 70 → ⊥) → (b ≡ 75 → ⊥) → (b ≡ 109 → ⊥) → (b ≡ 108 → ⊥) → (b ≡ 102 → ⊥) → cell_of b ≡ Empty
empty-letter b h nM nL nF nK nm nl nf =
    let before : (k : ℕ) → k < 53 → b ≡ k → ⊥ = λ k m e. omega arith in
    other-empty b (before 49 (omega arith)) (before 50 (omega arith)) (before 51 (omega arith)) (before 52 (omega arith)) nM nL nF nK nm nl nf
