-- The masks of rows of taps alone: their parts, the widths of rows that have one, and two rows beside each other.
use mathlib.Core.Path.{◌≡◌, refl, ap, sym, subst, ◌∙◌}
use mathlib.Core.Bool.{Bool, true, false, cond, ◌||◌, not, false≢true}
use mathlib.Core.List.{[], ◌∷◌, ◌++◌}
use Prim.Native.Nat.{ℕ, suc, ◌+◌, ◌*◌, ◌%◌, ◌^◌, ◌<◌, ◌≤◌}
use native.Mathlib.Nat.{pow-suc, pow-succ', mul_assoc, pow-le-pow_right}
use native.Mathlib.Decide.{dec_lt}
use native.Mathlib.Omega.{arith}
use lib.Bits.{bit_and, and_mask}
use lib.Dec.{eqb}
use lib.ListN.{length}
use lib.Pow.{pow-lt}
use borrow.Author.Tests.{eqb-true, ne_eqb}
use Rattle.definitions.specs.Lines.{Row}
use Rattle.taps.specs.Taps.{with_bit, tap_mask, has_mask, mask_of_line, masks}
use Rattle.taps.specs.declared.table.TapTable.{TapTable}
use Rattle.taps.specs.declared.Taps.{Taps}
use Rattle.taps.specs.declared.Taps.TheVariants.{Mask, Other}

pub not-other : {A : Type 0} (m : ℕ) → Other ≡ Mask m → A
not-other m e = let z : ◌≡◌ {A = ℕ} 0 1 = cc in absurd (omega arith)

-- The parts of a mask: the bit of the first byte, and the mask of the rest.
pub record Parts (b : ℕ) (t : Taps) (m : ℕ) : Type 0 where
  pub first : ℕ
  pub rest : ℕ
  pub small : first ≤ 1
  pub byte : b ≡ 48 + first
  pub after : t ≡ Mask rest
  pub whole : m ≡ first + 2 * rest

pub parts : (b : ℕ) (t : Taps) (m : ℕ) → with_bit b t ≡ Mask m → Parts b t m
parts b Other m e = not-other m e
parts b (Mask n) m e = go (eqb b 48) (eqb b 49) (λ h. eqb-true b 48 h) (λ h. eqb-true b 49 h) e
  where
    go : (p q : Bool) → (p ≡ true → b ≡ 48) → (q ≡ true → b ≡ 49) → cond p (Mask (2 * n)) (cond q (Mask (1 + 2 * n)) Other) ≡ Mask m → Parts b (Mask n) m
    go true q h k f =
        let w : 2 * n ≡ m = cc in
        record { first = 0; rest = n; small = omega arith; byte = h refl; after = refl; whole = omega arith }
    go false true h k f =
        let w : 1 + 2 * n ≡ m = cc in
        record { first = 1; rest = n; small = omega arith; byte = k refl; after = refl; whole = omega arith }
    go false false h k f = not-other m f

pub mask_lt : (r : Row) (m : ℕ) → tap_mask r ≡ Mask m → m < 2 ^ length r
unfolding tap_mask
mask_lt [] m e = let w : 0 ≡ m = cc in omega arith
mask_lt (b ∷ r) m e =
    let s = parts b (tap_mask r) m e in
    let h : s.rest < 2 ^ length r = mask_lt r s.rest s.after in
    omega (arith, pow-suc 2 (length r))

-- the same of a row of up to k cells
pub mask-few : (k : ℕ) (r : Row) (m : ℕ) → length r ≤ k → tap_mask r ≡ Mask m → m < 2 ^ k
mask-few k r m h e =
    elim (dec_lt (length r) k) [
      | yes l ↦ omega (arith, mask_lt r m e, pow-lt l)
      | no n ↦ let same : length r ≡ k = omega arith in subst (λ w. m < 2 ^ w) same (mask_lt r m e)
    ]

-- ---- Rows of the widths that have masks

pub width : (n : ℕ) → has_mask n ≡ true → (4 ≤ n) × (n ≤ 10)
width n e = go (eqb n 4) (eqb n 8) (eqb n 5) (eqb n 10) (eqb-true n 4) (eqb-true n 8) (eqb-true n 5) (eqb-true n 10) e
  where
    go : (p q s t : Bool) → (p ≡ true → n ≡ 4) → (q ≡ true → n ≡ 8) → (s ≡ true → n ≡ 5) → (t ≡ true → n ≡ 10) → (p || q || s || t) ≡ true
        → (4 ≤ n) × (n ≤ 10)
    go true q s t a b c d f = let k = a refl in (omega arith, omega arith)
    go false true s t a b c d f = let k = b refl in (omega arith, omega arith)
    go false false true t a b c d f = let k = c refl in (omega arith, omega arith)
    go false false false true a b c d f = let k = d refl in (omega arith, omega arith)
    go false false false false a b c d f = let z : ◌≡◌ {A = ℕ} 0 1 = cc in absurd (omega arith)

-- and their columns go by fours
pub width-fours : (n : ℕ) → has_mask n ≡ true → eqb n 6 ≡ false
width-fours n e = go (eqb n 6) (eqb-true n 6)
  where
    go : (t : Bool) → (t ≡ true → n ≡ 6) → t ≡ false
    go true f = absurd (false≢true (subst (λ k. has_mask k ≡ true) (f refl) e))
    go false f = refl

-- the widths that have none
pub no-width : (n : ℕ) → (n ≡ 4 → ⊥) → (n ≡ 5 → ⊥) → (n ≡ 8 → ⊥) → (n ≡ 10 → ⊥) → has_mask n ≡ false
no-width n four five eight ten = rw (ne_eqb n 4 four, ne_eqb n 5 five, ne_eqb n 8 eight, ne_eqb n 10 ten) refl

module _ (r : Row) where
  -- a row of such a width has the mask of its cells
  pub line-mask : has_mask (length r) ≡ true → tap_mask r ≡ mask_of_line r
  unfolding mask_of_line
  line-mask t = rw t

  pub line_other : has_mask (length r) ≡ false → Other ≡ mask_of_line r
  unfolding mask_of_line
  line_other t = rw t

  module _ (m : ℕ) (e : mask_of_line r ≡ Mask m) where
    pub line-told : (has_mask (length r) ≡ true) × (tap_mask r ≡ Mask m)
    unfolding mask_of_line
    line-told = go (has_mask (length r)) refl e
      where
        go : (t : Bool) → has_mask (length r) ≡ t → cond t (tap_mask r) Other ≡ Mask m → (has_mask (length r) ≡ true) × (tap_mask r ≡ Mask m)
        go true h q = (h, q)
        go false h q = not-other m q

    pub line-taps : tap_mask r ≡ Mask m
    line-taps = line-told.1

    pub line-width : (4 ≤ length r) × (length r ≤ 10)
    line-width = width (length r) line-told.0

    pub line-below : m < 2 ^ length r
    line-below = mask_lt r m line-taps

pub below-at : (r : Row) (m L : ℕ) → length r ≡ L → mask_of_line r ≡ Mask m → m < 2 ^ L
below-at r m L h e = subst (λ n. m < 2 ^ n) h (line-below r m e)

-- ---- Two rows of taps, one after the other
abbrev pub beside : ℕ → Taps → Taps → Taps
beside w (Mask lo) (Mask hi) = Mask (lo + 2 ^ w * hi)
beside w (Mask lo) Other = Other
beside w Other t = Other

-- one byte more in front of the first
module _ (w : ℕ) where
  twice : (m n : ℕ) → 2 * (m + 2 ^ w * n) ≡ 2 * m + 2 ^ suc w * n
  twice m n = let e : 2 ^ suc w * n ≡ 2 * (2 ^ w * n) = rw (pow-succ' 2 w, mul_assoc) in omega arith

  more : (b : ℕ) (t u : Taps) → with_bit b (beside w t u) ≡ beside (suc w) (with_bit b t) u
  more b Other u = refl
  more b (Mask m) Other = go (eqb b 48) (eqb b 49)
    where
      go : (p q : Bool) → Other ≡ beside (suc w) (cond p (Mask (2 * m)) (cond q (Mask (1 + 2 * m)) Other)) Other
      go true q = refl
      go false true = refl
      go false false = refl
  more b (Mask m) (Mask n) = go (eqb b 48) (eqb b 49)
    where
      go : (p q : Bool)
          → cond p (Mask (2 * (m + 2 ^ w * n))) (cond q (Mask (1 + 2 * (m + 2 ^ w * n))) Other)
          ≡ beside (suc w) (cond p (Mask (2 * m)) (cond q (Mask (1 + 2 * m)) Other)) (Mask n)
      go true q = ap Mask (twice m n)
      go false true = ap Mask (omega (arith, twice m n))
      go false false = refl

none : (t : Taps) → t ≡ beside 0 (Mask 0) t
none (Mask m) = ap Mask (omega arith)
none Other = refl

pub mask_append : (r s : Row) → tap_mask (r ++ s) ≡ beside (length r) (tap_mask r) (tap_mask s)
unfolding tap_mask
mask_append [] s = none (tap_mask s)
mask_append (b ∷ r) s = ap (with_bit b) (mask_append r s) ∙ more (length r) b (tap_mask r) (tap_mask s)

-- the two masks that stand beside each other
pub record Sides (w : ℕ) (t u : Taps) (m : ℕ) : Type 0 where
  pub lo : ℕ
  pub hi : ℕ
  pub first : t ≡ Mask lo
  pub second : u ≡ Mask hi
  pub whole : m ≡ lo + 2 ^ w * hi

pub sides : (w : ℕ) (t u : Taps) (m : ℕ) → beside w t u ≡ Mask m → Sides w t u m
sides w (Mask lo) (Mask hi) m e = let same : lo + 2 ^ w * hi ≡ m = cc in record { lo = lo; hi = hi; first = refl; second = refl; whole = sym same }
sides w (Mask lo) Other m e = not-other m e
sides w Other u m e = not-other m e

pub and_15 : (n : ℕ) → bit_and n 15 ≡ n % 16
and_15 n = and_mask n 4

pub and_3 : (n : ℕ) → bit_and n 3 ≡ n % 4
and_3 n = and_mask n 2

-- a mask of up to ten columns
pub mask-below : (L m : ℕ) → L ≤ 10 → m < 2 ^ L → m < 1024
mask-below L m h k = omega (arith, pow-le-pow_right {n = 2} (omega arith) h)

-- the masks that a table counts are of up to ten columns
pub masks-few : (wide : Bool) (m : ℕ) → m < masks wide → m < 1024
masks-few true m h = h
masks-few false m h = omega arith

-- and those of its own lane count are among them
pub fits-table : (t : TapTable) (m : ℕ) → m < 2 ^ t.lanes.count → m < masks t.wide
fits-table t m h = rw t.two_fives (go (eqb t.lanes.count 4) (eqb t.lanes.count 8) (eqb-true t.lanes.count 4) (eqb-true t.lanes.count 8))
  where
    few : t.lanes.count ≤ 8 → m < 256
    few k = omega (arith, pow-le-pow_right {n = 2} (omega arith) k)

    go : (p q : Bool) → (p ≡ true → t.lanes.count ≡ 4) → (q ≡ true → t.lanes.count ≡ 8) → m < masks (not (p || q))
    go true q a b = few (omega (arith, a refl))
    go false true a b = few (omega (arith, b refl))
    go false false a b = mask-below t.lanes.count m t.lanes.within.1 h
