-- `cells::is_all_zero` meets its contract: one word alone is that of a row of zeros, and the bytes of three halves are all of a row's.
use mathlib.Core.Path.{◌≡◌, ap, ap₂, sym, ◌∙◌}
use mathlib.Core.Bool.{Bool, ◌&&◌}
use mathlib.Core.List.{[], ◌++◌}
use Prim.Native.Nat.{ℕ, ◌-◌, ◌≤◌, ◌<◌}
use lib.Dec.{eqb}
use lib.ListN.{length, get_or}
use Rattle.definitions.specs.Reduction.{all_zero}
use Rattle.lines.proofs.RowWords.{eight, bytes_of, places, picks, thirds, thirds-below, thirds-all}
use Rattle.cells.proofs.Ends.{between}
use Rattle.cells.proofs.ZeroRows.{zero_word, zero-picks, zero-half, zero-append}
use Rattle.cells.proofs.is_all_zero.Goals as goal

-- past the first tests the row has four to twelve bytes
few : (c : goal.After-half_at-4) →
    (4 ≤ length c.args.row.now) × (length c.args.row.now ≤ 12)
few c = between (length c.args.row.now) c.if-n.false

pub returns-then-row-eq8 : goal.returns-then-row-eq8
returns-then-row-eq8 c =
    let word = rw c.if-row-eq8.true at (zero_word c.args.row.now (bytes_of c.args.row.now (λ k. (c.type_inv.row k).fits))) in
    ap (λ (w : ℕ). eqb w 3472328296227680304) (c.halves_at.ensures ∙ sym (eight c.args.row.now c.if-row-eq8.true)) ∙ word

pub returns : goal.returns
returns c =
    let fits : (k : ℕ) → get_or c.args.row.now k 0 < 256 = λ k. (c.type_inv.row k).fits in
    let n = length c.args.row.now in
    let A = picks c.args.row.now (places 0 []) in
    let B = picks c.args.row.now (places c.second_half-mid.result []) in
    let C = picks c.args.row.now (places (n - 4) []) in
    let a : eqb c.half_at-2.result 808464432 ≡ all_zero A = ap (λ (w : ℕ). eqb w 808464432) c.half_at-2.ensures.value ∙ zero-half c.args.row.now fits 0 in
    let b : eqb c.half_at-3.result 808464432 ≡ all_zero B = ap (λ (w : ℕ). eqb w 808464432) c.half_at-3.ensures.value ∙ zero-half c.args.row.now fits c.second_half-mid.result in
    let d : eqb c.half_at-4.result 808464432 ≡ all_zero C = ap (λ (w : ℕ). eqb w 808464432) c.half_at-4.ensures.value ∙ zero-half c.args.row.now fits (n - 4) in
    let r = few c in
    ap₂ (λ (x y : Bool). x && y) (ap₂ (λ (x y : Bool). x && y) a b ∙ zero-append A B) d
    ∙ zero-append (A ++ B) C
    ∙ zero-picks c.args.row.now (thirds n c.second_half-mid.result) (thirds-below n c.second_half-mid.result r.0 c.second_half-mid.ensures.within) (thirds-all n c.second_half-mid.result r.1 c.second_half-mid.ensures.low c.second_half-mid.ensures.few c.second_half-mid.ensures.many)
