-- What a cell more makes of a row's entry, and a pair of the entries of its rows.
use mathlib.Core.Path.{◌≡◌, refl, sym, ap, ap₂, ◌∙◌}
use mathlib.Core.Bool.{Bool, true, false, cond, true≢false, ◌||◌}
use mathlib.Core.List.{List}
use Prim.Native.Nat.{ℕ, zero, suc, ◌+◌, ◌*◌, ◌^◌, ◌≤◌, ◌<◌}
use native.Mathlib.Nat.{add-zero}
use native.Mathlib.Omega.{arith}
use borrow.Author.Tests.{le-leb, lt-leb}
use lib.Dec.{leb}
use lib.ListN.{length, get_or, set, length-set}
use lib.Seq.{get_or-set_same, get_or-set_other}
use lib.Bits.{bit_or, or_block, or_zero_r}
use Rattle.definitions.specs.Lists.{number_of_bool}
use Rattle.definitions.specs.Cells.{hold_effect}
use Rattle.definitions.specs.Correction.{is_opening}
use Rattle.definitions.specs.declared.Cell.{Cell}
use Rattle.definitions.specs.declared.Cell.TheVariants.{Empty, Tap, Hold, Tail, Roll, Mine, Lift, Fake, KeySound, LowerMine, LowerLift, LowerFake}
use Rattle.definitions.specs.declared.RowSum.{RowSum}
use Rattle.definitions.proofs.Lists.{one-le}
use Rattle.row_tally.specs.Bounds.{Under}
use Rattle.row_tally.specs.Sums.{sum_with_cell}
use Rattle.paired_tally.specs.Entry.{entry_of}
use Rattle.paired_tally.specs.Cells.{add_kind, own_entry, head_counts, pair_work}

-- bit 12 set where bit 13 is
set-other : (low f : ℕ) → low < 4096 → f ≤ 1 → bit_or (low + 4096 * f + 8192) 4096 ≡ low + 4096 * 1 + 8192
set-other low f h l =
    let a : low + 4096 * f + 8192 ≡ (f + 2) * 2 ^ 12 + low = omega arith in
    let b : 4096 ≡ 1 * 2 ^ 12 + 0 = omega arith in
    ap₂ bit_or a b ∙ or_block 12 (f + 2) 1 low 0 (omega arith) (omega arith) ∙ ap₂ (λ x y. x * 2 ^ 12 + y) (go f l) (or_zero_r low) ∙ (omega arith)
  where
    go : (f : ℕ) → f ≤ 1 → bit_or (f + 2) 1 ≡ 3
    go zero l = refl
    go (suc zero) l = refl
    go (suc (suc f)) l = absurd (omega arith)

more-other : (s : RowSum) (ends : ℕ) → Under 10 s → ends ≤ 10 → (m f : ℕ) → 1 ≤ m + f
    → bit_or (entry_of false true s ends) 4096 ≡ s.arrows + 16 * (s.holds + s.rolls) + 256 * ends + 4096 * number_of_bool (leb 1 (m + f)) + 8192
more-other s ends u h m f o =
    set-other (s.arrows + 16 * (s.holds + s.rolls) + 256 * ends) (number_of_bool (leb 1 (s.mines + s.fakes))) (omega (arith, u)) (one-le (leb 1 (s.mines + s.fakes)))
    ∙ ap (λ x. s.arrows + 16 * (s.holds + s.rolls) + 256 * ends + 4096 * number_of_bool x + 8192) (sym (le-leb 1 (m + f) o))

-- a cell that is no mine or fake leaves the flag of these
same-flag : (s : RowSum) → number_of_bool (leb 1 (s.mines + 0 + (s.fakes + 0))) ≡ number_of_bool (leb 1 (s.mines + s.fakes))
same-flag s = simp add-zero

-- a cell of the row itself
pub own-gains : (plain judged : Bool) (x : Cell) (s : RowSum) (ends d : ℕ) → is_opening (hold_effect x) ≡ false → Under 10 s → ends ≤ 10
    → own_entry plain judged x (entry_of plain judged s ends) ≡ entry_of plain judged (add_kind plain judged s d x) ends
unfolding sum_with_cell
own-gains true judged Empty s ends d o u h = omega arith
own-gains true judged Tap s ends d o u h = omega arith
own-gains true judged Hold s ends d o u h = absurd (true≢false o)
own-gains true judged Roll s ends d o u h = absurd (true≢false o)
own-gains true judged Tail s ends d o u h = omega arith
own-gains true judged Mine s ends d o u h = omega arith
own-gains true judged Lift s ends d o u h = omega arith
own-gains true judged Fake s ends d o u h = omega arith
own-gains true judged KeySound s ends d o u h = omega arith
own-gains true judged LowerMine s ends d o u h = omega arith
own-gains true judged LowerLift s ends d o u h = omega arith
own-gains true judged LowerFake s ends d o u h = omega arith
own-gains false true Empty s ends d o u h = simp add-zero
own-gains false true Tap s ends d o u h = omega (arith, same-flag s)
own-gains false true Hold s ends d o u h = absurd (true≢false o)
own-gains false true Roll s ends d o u h = absurd (true≢false o)
own-gains false true Tail s ends d o u h = simp add-zero
own-gains false true Mine s ends d o u h = omega (arith, more-other s ends u h (s.mines + 1) (s.fakes + 0) (omega arith))
own-gains false true Lift s ends d o u h = omega (arith, same-flag s)
own-gains false true Fake s ends d o u h = omega (arith, more-other s ends u h (s.mines + 0) (s.fakes + 1) (omega arith))
own-gains false true KeySound s ends d o u h = simp add-zero
own-gains false true LowerMine s ends d o u h = omega (arith, more-other s ends u h (s.mines + 1) (s.fakes + 0) (omega arith))
own-gains false true LowerLift s ends d o u h = omega (arith, same-flag s)
own-gains false true LowerFake s ends d o u h = omega (arith, more-other s ends u h (s.mines + 0) (s.fakes + 1) (omega arith))
own-gains false false x s ends d o u h = refl

-- ---- A pair: its head counts in a plain tally, and in a judged one where the head's row is judged
pub counts-told : (plain judged : Bool) (s : RowSum) (ends : ℕ) → ends ≤ 10 → head_counts plain (entry_of plain judged s ends) ≡ (plain || judged)
counts-told true judged s ends h = refl
counts-told false true s ends h = le-leb 8192 _ (omega arith)
counts-told false false s ends h = lt-leb 8192 _ (omega arith)

pub pair-adds : (plain judged : Bool) (s : RowSum) (d : ℕ) (b : Bool) → add_kind (plain || judged) false s d (cond b Roll Hold) ≡ add_kind plain judged s d (cond b Roll Hold)
pair-adds true judged s d b = refl
pair-adds false true s d true = refl
pair-adds false true s d false = refl
pair-adds false false s d b = refl

-- the head's row has an arrow and a head more
pub head-gains : (plain judged : Bool) (s : RowSum) (ends d : ℕ) (b : Bool)
    → cond (plain || judged) (entry_of plain judged s ends + 17) (entry_of plain judged s ends) ≡ entry_of plain judged (add_kind plain judged s d (cond b Roll Hold)) ends
unfolding sum_with_cell
head-gains true judged s ends d false = omega arith
head-gains true judged s ends d true = omega arith
head-gains false true s ends d false = omega (arith, same-flag s)
head-gains false true s ends d true = omega (arith, same-flag s)
head-gains false false s ends d b = refl

-- and the tail's row a tail more, in a judged tally an end
pub tail-gains : (plain headed judged : Bool) (s : RowSum) (ends d : ℕ)
    → cond (plain || headed) (entry_of plain judged s ends + 256) (entry_of plain judged s ends)
    ≡ entry_of plain judged (add_kind plain judged s d Tail) (ends + number_of_bool headed)
unfolding sum_with_cell
tail-gains true headed judged s ends d = omega arith
tail-gains false true true s ends d = omega (arith, same-flag s)
tail-gains false true false s ends d = omega arith
tail-gains false false true s ends d = simp add-zero
tail-gains false false false s ends d = simp add-zero

-- the entries of its two rows and of any other, where it counts and where it does not
module _ (h row : ℕ) (work : List ℕ) (earlier : h < row) (room : row < length work) where
  abbrev Headed : List ℕ
  Headed = set work h (get_or work h 0 + 17)

  pub paired-head : (counts : Bool) → get_or (pair_work counts h row work) h 0 ≡ cond counts (get_or work h 0 + 17) (get_or work h 0)
  paired-head true = get_or-set_other Headed row h _ 0 (λ q. omega arith) ∙ get_or-set_same work h (get_or work h 0 + 17) 0 (omega arith)
  paired-head false = refl

  pub paired-tail : (counts : Bool) → get_or (pair_work counts h row work) row 0 ≡ cond counts (get_or work row 0 + 256) (get_or work row 0)
  paired-tail true = get_or-set_same Headed row (get_or work row 0 + 256) 0 (rw length-set room)
  paired-tail false = refl

  pub paired-others : (counts : Bool) (i : ℕ) → (i ≡ row → ⊥) → (i ≡ h → ⊥) → get_or (pair_work counts h row work) i 0 ≡ get_or work i 0
  paired-others true i ne nh = get_or-set_other Headed row i _ 0 ne ∙ get_or-set_other work h i _ 0 nh
  paired-others false i ne nh = refl
