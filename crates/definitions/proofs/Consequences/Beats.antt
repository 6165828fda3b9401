-- How near the beats are, by places and by texts.
use mathlib.Core.Path.{◌≡◌, refl, ap, ◌∙◌, subst}
use mathlib.Core.List.{List, [], ◌∷◌}
use Prim.Native.Nat.{ℕ, zero, suc, ◌+◌, ◌-◌, ◌*◌, ◌/◌, ◌%◌, ◌^◌, ◌≤◌, ◌<◌}
use native.Mathlib.Decide.{dec_lt}
use native.Mathlib.Omega.{arith}
use lib.ListN.{length, take, drop, get_or, length-append}
use Rattle.std.specs.Prelude.{slice_get, Some}
use Rattle.std.proofs.lemmas.Nat.{div-add-mod', mul-le, same_from_place}
use Rattle.definitions.specs.Sizes.{most_bytes}
use Rattle.definitions.specs.Lanes.{most_rows_in}
use Rattle.definitions.specs.Lists.{joined}
use Rattle.definitions.specs.Reduction.{minimised}
use Rattle.definitions.specs.Beats.{beat_of_row, beats}
use Rattle.definitions.specs.Objects.{last48}
use Rattle.definitions.specs.Damage.{rows_above, rows_of}
use Rattle.definitions.specs.BeatsNear.{Within, BeatWithin, BeatNear, BeatToSpare, BeatNearer, BeatExact, BeatsNear, BeatsToSpare, BeatsNearer, BeatsExact, beat48, LastNear, BeatStands, TextBeatsStand, TextLastNear}
use Rattle.definitions.specs.Consequences.{NearFraction, RowNear, PlacesNear, RowsNear, NoneNearer, LastPlaces, LastOfTexts}
use Rattle.definitions.proofs.Lists.{parts}

-- ---- Row beats
near-fraction : {e k m r n : ℕ} → BeatWithin e k m r n → NearFraction e k m r n (beat_of_row m r n)
near-fraction w = (w.value, w.size.most, w.size.least)

-- a number times n that is 192 × m × n + 192 × r, where n divides 192
whole-place : (x m r n : ℕ) → r < n → 192 % n ≡ 0 → x * n ≡ 192 * m * n + 192 * r → x ≡ 192 * m + 192 / n * r
whole-place x m r n h z e =
    let q : ℕ = 192 / n in
    let whole : q * n ≡ 192 = omega (arith, div-add-mod' 192 n, z) in
    let turned : q * n * r ≡ 192 * r = ap (λ a. a * r) whole in
    (same_from_place x 0 (192 * m + q * r) 0 n (omega (arith, h)) (omega (arith, h)) (grind (arith, e, turned))).0

row-near : {m r n : ℕ} → r < n → BeatNear m r n → BeatToSpare m r n → BeatNearer m r n → BeatExact m r n → RowNear m r n
unfolding beat48
row-near {m} {r} {n} h near spare nearer exact = (
  λ l. near-fraction (near (omega (arith, l))),
  λ l. near-fraction (spare (omega (arith, l))),
  λ j l b. near-fraction (nearer j (omega (arith, l)) b),
  λ l z. whole-place _ m r n h z (exact (omega (arith, l)) z),
)

pub places-near : BeatsNear → BeatsToSpare → BeatsNearer → BeatsExact → PlacesNear
unfolding BeatsNear BeatsToSpare BeatsNearer BeatsExact PlacesNear most_rows_in
places-near near spare nearer exact m r n h few =
    let fits : n ≤ most_rows_in 4 most_bytes = omega (arith, few) in
    row-near h (near m r n h fits) (spare m r n h fits) (nearer m r n h fits) (exact m r n h)

-- ---- Of texts
module _ {A : Type 0} where
  -- a place within the lists that are run together
  place-in : (ls : List (List A)) (m r : ℕ) → r < length (get_or ls m []) → length (joined (take m ls)) + r < length (joined ls)
  place-in ls m r h =
      let all : length (joined ls) ≡ length (joined (take m ls)) + (length (get_or ls m []) + length (joined (drop (suc m) ls))) =
      ap length (parts m ls) ∙ length-append (joined (take m ls)) _
      ∙ ap (λ n. length (joined (take m ls)) + n) (length-append (get_or ls m []) (joined (drop (suc m) ls))) in
      omega (arith, all, h)

  -- is at one place in one of them
  one-place : (ls : List (List A)) (m r m' r' : ℕ) → r < length (get_or ls m []) → r' < length (get_or ls m' [])
      → length (joined (take m ls)) + r ≡ length (joined (take m' ls)) + r' → (m ≡ m') × (r ≡ r')
  one-place [] m r m' r' h h' e = absurd (omega (arith, h))
  one-place (l ∷ ls) zero r zero r' h h' e = (refl, omega (arith, e))
  one-place (l ∷ ls) zero r (suc m') r' h h' e = absurd (omega (arith, h, e, length-append l (joined (take m' ls))))
  one-place (l ∷ ls) (suc m) r zero r' h h' e = absurd (omega (arith, h', e, length-append l (joined (take m ls))))
  one-place (l ∷ ls) (suc m) r (suc m') r' h h' e =
      let x = one-place ls m r m' r' h h' (omega (arith, e, length-append l (joined (take m ls)), length-append l (joined (take m' ls)))) in
      (ap suc x.0, x.1)

moved : (P : ℕ → ℕ → ℕ → Type 0) {a b c a' b' c' : ℕ} → a ≡ a' → b ≡ b' → c ≡ c' → P a b c → P a' b' c'
moved P {a} {b} {c} {a'} {b'} {c'} x y z p = subst (λ c. P a' b' c) z (subst (λ b. P a' b c) y (subst (λ a. P a b c) x p))

module _ (L : ℕ) (text : List ℕ) (i : ℕ) where
  -- what is said of beat i, if it is that of row r of n in measure m
  abbrev Stands : ℕ → ℕ → ℕ → Type 0
  Stands m r n = (slice_get (beats L text) i ≡ Some (beat_of_row m r n)) × (m < 2 ^ 23) × RowNear m r n

  that-row : (m r : ℕ) → r < length (rows_of L m text) → i ≡ length (rows_above L m text) + r → BeatStands L text i → Stands m r (length (rows_of L m text))
  that-row m r h e s =
      let same = one-place (minimised L text) s.m s.r m r (omega (arith, s.row, s.rows)) h (omega (arith, s.place, e)) in
      moved Stands same.0 same.1 (omega (arith, s.rows, ap (λ m. length (rows_of L m text)) same.0))
      (s.beat, omega (arith, s.measure), row-near s.row s.near s.to_spare s.nearer s.exact)

pub rows-near : TextBeatsStand → RowsNear
unfolding TextBeatsStand RowsNear
rows-near stand L text four short =
    let t = stand L text four short in (
      omega (arith, t.0),
      λ m r h.
          let i : ℕ = length (rows_above L m text) + r in
          that-row L text i m r h refl (t.1 i (omega (arith, t.0, place-in (minimised L text) m r h))),
    )

-- ---- The last beat in 48ths
none-nearer : (x m r n : ℕ) → Within 1 2 x 1 (192 * m * n + 192 * r) n → NoneNearer x m r n
none-nearer x m r n w k = go (192 * m * n + 192 * r) w
  where
    go : (f : ℕ) → Within 1 2 x 1 f n → (x * n - f) + (f - x * n) ≤ (k * n - f) + (f - k * n)
    go f w = elim (dec_lt x k) [
      | yes l ↦ omega (arith, w.most, w.least, mul-le (suc x) n k n (omega (arith, l)) (omega arith))
      | no l ↦ elim (dec_lt k x) [
        | yes l ↦ omega (arith, w.most, w.least, mul-le (suc k) n x n (omega (arith, l)) (omega arith))
        | no g ↦ let e : x ≡ k = omega (arith, l, g) in rw e (omega arith)
      ]
    ]

pub last-places : LastNear → LastPlaces
unfolding LastNear LastPlaces
last-places near m r n h fits = none-nearer _ m r n (near m r n h (omega (arith, fits)))

pub last-of_texts : TextLastNear → LastOfTexts
unfolding TextLastNear LastOfTexts
last-of_texts near L text four short p e =
    let s = near L text four short p e in
    let rows : p.n ≡ length (rows_of L p.m text) = omega (arith, s.rows) in
    (omega (arith, s.row, rows), subst (λ n. NoneNearer (last48 L text) p.m p.r n) rows (none-nearer _ p.m p.r p.n s.near))
