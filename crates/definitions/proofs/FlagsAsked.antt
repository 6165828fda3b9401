-- A missing flag is a flag 0, only the flags of a text's rows count, and without flags there are fakes alone.
use mathlib.Core.Path.{◌≡◌, refl, ap, sym, ◌∙◌, subst}
use mathlib.Core.Bool.{Bool, true, false, ◌&&◌, not}
use mathlib.Core.List.{List, [], ◌∷◌, ◌++◌}
use Prim.Native.Nat.{ℕ, zero, suc, ◌+◌, ◌<◌}
use native.Mathlib.Omega.{arith}
use borrow.Author.Tests.{ltb-true}
use lib.Dec.{eqb, leb, ltb}
use lib.ListN.{length, get_or, replicate}
use Rattle.definitions.specs.Lists.{number_of_bool, sum_columns}
use Rattle.definitions.specs.Lines.{Row}
use Rattle.definitions.specs.Tracker.{Pair, pairs}
use Rattle.definitions.specs.Tally.{empty_stats}
use Rattle.definitions.specs.Correction.{keep_row}
use Rattle.definitions.specs.ReadBack.{rows_read_back}
use Rattle.definitions.specs.Judged.{judged_at, judged_sum, judge_row, open_of, open_before, judge_from, judged_rows, judged_tally, flagged_tally}
use Rattle.definitions.specs.FlagsAsked.{only_fakes, FlagsAsked}
use Rattle.definitions.specs.declared.ArrowStats.{ArrowStats}
use Rattle.definitions.proofs.Lists.{count-cons}

-- two tests that say the same of the rows below a bound
module _ (J K : ℕ → Bool) where
  abbrev Same : ℕ → Type 0
  Same n = (i : ℕ) → i < n → J i ≡ K i

  below : (i h : ℕ) (b : Bool) → Same i → (J h && (ltb h i && b)) ≡ (K h && (ltb h i && b))
  below i h b s = go (ltb h i) refl
    where
      none : (x y : Bool) → (x && false) ≡ (y && false)
      none true true = refl
      none true false = refl
      none false true = refl
      none false false = refl

      go : (t : Bool) → ltb h i ≡ t → (J h && (t && b)) ≡ (K h && (t && b))
      go true e = ap (λ x. x && b) (s h (ltb-true h i e))
      go false e = none (J h) (K h)

  same-open : (i : ℕ) → Same i → (ps : List Pair) → open_of J i ps ≡ open_of K i ps
  same-open i s [] = refl
  same-open i s (p ∷ ps) =
      count-cons (λ (p : Pair). J p.head && (ltb p.head i && leb i p.tail)) p ps
      ∙ ap (λ n. number_of_bool (J p.head && (ltb p.head i && leb i p.tail)) + n) (same-open i s ps)
      ∙ ap (λ x. number_of_bool x + open_of K i ps) (below i p.head (leb i p.tail) s)
      ∙ sym (count-cons (λ (p : Pair). K p.head && (ltb p.head i && leb i p.tail)) p ps)

  same_before : (L : ℕ) (ps : ℕ → List Pair) (i : ℕ) → Same i → open_before L J ps i ≡ open_before L K ps i
  unfolding open_before
  same_before L ps i s = go L
    where
      go : (n : ℕ) → sum_columns n (λ c. open_of J i (ps c)) ≡ sum_columns n (λ c. open_of K i (ps c))
      go zero = refl
      go (suc n) =
          ap (λ x. x + open_of J i (ps n)) (go n)
          ∙ ap (λ x. sum_columns n (λ c. open_of K i (ps c)) + x) (same-open i s (ps n))

  same-from : (L : ℕ) (ps : ℕ → List Pair) (t : ArrowStats) (i : ℕ) (rs : List Row) → Same (i + length rs)
      → judge_from L J ps t i rs ≡ judge_from L K ps t i rs
  same-from L ps t i [] s = refl
  same-from L ps t i (r ∷ rs) s =
      ap (λ x. judge_from L J ps (judge_row t x (open_before L J ps i) (judged_sum x (keep_row ps i 0 r))) (suc i) rs) (s i (omega arith))
      ∙ ap (λ x. judge_from L J ps (judge_row t (K i) x (judged_sum (K i) (keep_row ps i 0 r))) (suc i) rs)
      (same_before L ps i (λ k h. s k (omega arith)))
      ∙ same-from L ps (judge_row t (K i) (open_before L K ps i) (judged_sum (K i) (keep_row ps i 0 r))) (suc i) rs (λ k h. s k (omega arith))

  same-rows : (L : ℕ) (rows : List Row) → Same (length rows) → judged_rows L J rows ≡ judged_rows L K rows
  unfolding judged_rows
  same-rows L rows s = same-from L (pairs rows) empty_stats 0 rows (λ k h. s k (omega arith))

-- zeros after the flags say what none say
zeros : (n i : ℕ) → ◌≡◌ {A = ℕ} (get_or (replicate n 0) i 0) 0
zeros zero i = refl
zeros (suc n) zero = refl
zeros (suc n) (suc i) = zeros n i

more-zeros : (flags : List ℕ) (n i : ℕ) → ◌≡◌ {A = ℕ} (get_or (flags ++ replicate n 0) i 0) (get_or flags i 0)
more-zeros [] n i = zeros n i
more-zeros (f ∷ flags) n zero = refl
more-zeros (f ∷ flags) n (suc i) = more-zeros flags n i

-- without flags each row adds fakes alone
abbrev OnlyFakes : ArrowStats → Type 0
OnlyFakes t = t ≡ only_fakes t

fakes-from : (L : ℕ) (ps : ℕ → List Pair) (t : ArrowStats) (i : ℕ) (rs : List Row) → OnlyFakes t → OnlyFakes (judge_from L (judged_at []) ps t i rs)
unfolding judged_at judge_row judged_sum
fakes-from L ps t i [] e = e
fakes-from L ps t i (r ∷ rs) e =
    fakes-from L ps (judge_row t false (open_before L (judged_at []) ps i) (judged_sum false (keep_row ps i 0 r))) (suc i) rs
    (subst (λ u. OnlyFakes (judge_row u false (open_before L (judged_at []) ps i) (judged_sum false (keep_row ps i 0 r)))) (sym e) refl)

fakes-alone : (L : ℕ) (rows : List Row) → OnlyFakes (judged_rows L (judged_at []) rows)
unfolding judged_rows
fakes-alone L rows = fakes-from L (pairs rows) empty_stats 0 rows refl

pub flags-as-asked : FlagsAsked
unfolding FlagsAsked flagged_tally judged_tally judged_at
flags-as-asked L flags text =
    let rows : List Row = rows_read_back L text in
    record {
      padded = λ n. same-rows _ _ L rows (λ i h. ap (λ x. not (eqb x 0)) (omega (arith, more-zeros flags n i)));
      as_flags = λ others s. same-rows _ _ L rows (λ i h. s i (omega (arith, h)));
      all = λ s. same-rows _ _ L rows (λ i h. s i (omega (arith, h)));
      none = fakes-alone L rows;
    }
