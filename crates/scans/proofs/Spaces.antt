-- The open measure of the spacing scan, row by row, and its spacing.
use mathlib.Core.Path.{◌≡◌, refl, ap, ap₂, sym, ◌∙◌}
use mathlib.Core.Logic.{inl, inr, ⊎_elim}
use mathlib.Core.Bool.{Bool, true, false, ◌&&◌, not, true≢false}
use mathlib.Core.List.{List, [], ◌∷◌, ◌++◌, map}
use Prim.Native.Nat.{ℕ, ◌+◌, ◌/◌, ◌^◌, ◌≤◌, ◌<◌, min}
use native.Mathlib.Nat.{div-one, zero-min}
use native.Mathlib.Omega.{arith}
use borrow.Author.Tests.{eq-eqb, ne_eqb, eqb-true}
use lib.Dec.{leb, eqb}
use lib.Count.{count_trailing_zeros}
use lib.ListN.{length, length-append}
use Rattle.definitions.specs.Sizes.{row_numbers_bound}
use Rattle.definitions.specs.Lists.{number_of_bool}
use Rattle.definitions.specs.Lines.{Row}
use Rattle.definitions.specs.Measures.{chart}
use Rattle.definitions.specs.Reduction.{all_zero, off_zero, reduce, stride, minimised}
use Rattle.definitions.specs.Figures.{is_step, density, spacing, spacings}
use Rattle.definitions.proofs.Bools.{and_left, and_right}
use Rattle.definitions.proofs.Lists.{one-le}
use Rattle.definitions.proofs.Figures.{density-snoc}
use Rattle.scans.specs.declared.spacing.MeasureSpacing.{MeasureSpacing}
use Rattle.scans.specs.Spaces.{Spaces}
use Rattle.std.proofs.lemmas.List.Sums.{count_by-le-length}
use Rattle.scans.proofs.Raw.{spacing-raw}
use Rattle.scans.proofs.Strides.{off-zero-row, off-other-row, stride-shift, reduce-length}

-- the figure of a measure as the scan stores it
abbrev pub spaced_in : List Row → ℕ
spaced_in rs = number_of_bool (spacing (reduce rs))

pub spacings-raw : (L : ℕ) (text : List ℕ) → spacings L text ≡ map spaced_in (chart L text)
unfolding spacings minimised
spacings-raw L text = go (chart L text)
  where
    go : (ms : List (List Row)) → map (λ (m : List Row). number_of_bool (spacing m)) (map reduce ms) ≡ map spaced_in ms
    go [] = refl
    go (m ∷ ms) = ap (λ l. spaced_in m ∷ l) (go ms)

-- the test that the measure cannot be spaced any more
pub lost-test : (shift steps rows : ℕ) → (eqb shift 0 && not (eqb steps rows)) ≡ true → (shift ≡ 0) × (steps ≡ rows → ⊥)
lost-test shift steps rows h =
    (eqb-true shift 0 (and_left _ _ h), λ e. true≢false (sym (and_right (eqb shift 0) _ h) ∙ ap not (eq-eqb steps rows e)))

pub hope-test : (shift steps rows : ℕ) → (eqb shift 0 && not (eqb steps rows)) ≡ false → shift ≡ 0 → steps ≡ rows
hope-test shift steps rows h e = go (eqb steps rows) refl
  where
    go : (t : Bool) → eqb steps rows ≡ t → steps ≡ rows
    go true p = eqb-true steps rows p
    go false p = absurd (true≢false (sym (ap₂ (λ (a b : Bool). a && not b) (eq-eqb shift 0 e) p) ∙ h))

-- one row more
module _ (s : MeasureSpacing) (cur : List Row) (x : Spaces s cur) (row : Row) where
  longer : s.rows + 1 ≡ length (cur ++ (row ∷ []))
  longer = rw length-append (omega (arith, x.rows))

  -- a row of a measure that cannot be spaced any more
  pub spaces-lost : s.shift ≡ 0 → (s.steps ≡ s.rows → ⊥) → Spaces (record { rows = s.rows + 1; steps = s.steps; shift = s.shift }) (cur ++ (row ∷ []))
  spaces-lost z ne =
      record {
        rows = longer;
        steps = inr (z, omega (arith, longer, few.0), omega (arith, longer, few.1, density-snoc cur row, one-le (is_step row)));
        most = x.most;
        shift = λ k h. rw z (stays k h (all_zero row) refl);
      }
    where
      few : (s.steps < s.rows + 1) × (density cur < s.rows)
      few =
          ⊎_elim
          (λ e. (omega (arith, e, x.rows, count_by-le-length is_step cur), omega (arith, e, x.rows, count_by-le-length is_step cur, ne)))
          (λ y. (omega (arith, y.1, x.rows), omega (arith, y.2, x.rows)))
          x.steps

      stays : (k : ℕ) → k ≤ 64 → (t : Bool) → all_zero row ≡ t → off_zero (2 ^ k) 0 (cur ++ (row ∷ [])) ≡ leb k 0
      stays k h true w = off-zero-row (2 ^ k) cur row w ∙ x.shift k h ∙ ap (leb k) z
      stays k h false w =
          off-other-row k s.shift cur row h w (x.shift k h)
          ∙ ap (leb k) (ap (λ m. min m (count_trailing_zeros 64 (length cur))) z ∙ zero-min (count_trailing_zeros 64 (length cur)))

-- one row more, all zero or not, of a measure that may be spaced
module _ (s : MeasureSpacing) (cur : List Row) (x : Spaces s cur) (hope : (s.shift ≡ 0 → s.steps ≡ s.rows)) (row : Row) (n : ℕ) (e : n ≡ number_of_bool (is_step row)) where
  more : s.steps + n ≡ density (cur ++ (row ∷ []))
  more = rw (counted, e) (sym (density-snoc cur row))
    where
      counted : s.steps ≡ density cur
      counted = ⊎_elim (λ q. q) (λ y. let w = hope y.0 in absurd (omega (arith, y.1, x.rows, w))) x.steps

  pub spaces-zero : all_zero row ≡ true → Spaces (record { rows = s.rows + 1; steps = s.steps + n; shift = s.shift }) (cur ++ (row ∷ []))
  spaces-zero z =
      record { rows = longer s cur x row; steps = inl more; most = x.most; shift = λ k h. off-zero-row (2 ^ k) cur row z ∙ x.shift k h }

  pub spaces-other : (t : ℕ) → t ≡ min s.shift (count_trailing_zeros 64 s.rows) → all_zero row ≡ false → Spaces (record { rows = s.rows + 1; steps = s.steps + n; shift = t }) (cur ++ (row ∷ []))
  spaces-other t q z =
      record {
        rows = longer s cur x row;
        steps = inl more;
        most = omega (arith, q, x.most);
        shift = λ k h. off-other-row k s.shift cur row h z (x.shift k h) ∙ ap (leb k) (sym (q ∙ ap (λ m. min s.shift (count_trailing_zeros 64 m)) x.rows));
      }

-- without rows it is spaced
pub spaced-none : (s : MeasureSpacing) (cur : List Row) → Spaces s cur → s.rows ≡ 0 → true ≡ spacing (reduce cur)
unfolding reduce stride
spaced-none s [] x h = refl
spaced-none s (r ∷ cur) x h = absurd (omega (arith, x.rows))

-- with rows it is, where as many have a step as stay
module _ (s : MeasureSpacing) (cur : List Row) (x : Spaces s cur) (some : 0 < s.rows) (few : s.rows ≤ row_numbers_bound) (t : ℕ) (q : t ≡ min s.shift (count_trailing_zeros 64 s.rows)) where
  staying : s.rows / 2 ^ t ≡ length (reduce cur)
  staying =
      let a : 0 < length cur = omega (arith, x.rows) in
      let b : length cur < 2 ^ 64 = omega (arith, x.rows) in
      ap (λ n. s.rows / 2 ^ n) q
      ∙ ap (λ n. n / 2 ^ min s.shift (count_trailing_zeros 64 n)) x.rows
      ∙ ap (λ n. length cur / n) (sym (stride-shift cur s.shift a b x.most x.shift))
      ∙ sym (reduce-length cur)

  -- with the stride 1
  all_stay : s.shift ≡ 0 → s.rows / 2 ^ t ≡ s.rows
  all_stay z =
      let none : t ≡ 0 = omega (arith, q, z) in
      ap (λ k. s.rows / 2 ^ k) none ∙ div-one s.rows

  pub spaced-told : eqb s.steps (s.rows / 2 ^ t) ≡ spacing (reduce cur)
  spaced-told =
      ⊎_elim
      (λ e. ap₂ eqb e staying ∙ sym (spacing-raw cur))
      (λ y.
      ne_eqb s.steps (s.rows / 2 ^ t) (λ h. omega (arith, y.1, x.rows, h, all_stay y.0))
      ∙ sym (spacing-raw cur ∙ ne_eqb (density cur) (length (reduce cur)) (λ e. omega (arith, y.2, x.rows, e, staying, all_stay y.0))))
      x.steps
