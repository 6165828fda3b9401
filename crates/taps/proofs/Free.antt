-- A row whose taps stand in no column of `busy`: in each column is a `0`, or a `1` where `busy` has no bit.
use mathlib.Core.Path.{◌≡◌, refl, ap, sym, ◌∙◌, subst}
use mathlib.Core.Bool.{Bool, true, false, cond}
use mathlib.Core.List.{[], ◌∷◌}
use Prim.Native.Nat.{ℕ, zero, suc, ◌+◌, ◌*◌, ◌/◌, ◌%◌, ◌^◌, ◌<◌, ◌≤◌, min, max}
use native.Mathlib.Nat.{zero-div, mod-lt}
use native.Mathlib.Omega.{arith}
use lib.Bits.{bit_and, bit_or, and_shr, and_step, or_shr, or_step}
use lib.Dec.{eqb}
use lib.ListN.{length, get_or}
use borrow.Author.Tests.{eqb-true}
use lib.Pow.{shr-shr}
use Rattle.definitions.proofs.Lists.{any-default}
use Rattle.std.specs.List.{count_by}
use Rattle.definitions.specs.Lines.{Row}
use Rattle.definitions.specs.Cells.{byte_at}
use Rattle.taps.specs.Taps.{tap_mask, mask_of_line, bit, FreeTaps, free_of, taps_if_free}
use Rattle.taps.specs.declared.Taps.{Taps}
use Rattle.taps.specs.declared.Taps.TheVariants.{Mask, Other}
use Rattle.taps.proofs.Masks.{not-other, parts, line-taps}

-- ---- bits

pub bit-first : (f m : ℕ) → f ≤ 1 → bit 0 (f + 2 * m) ≡ f
bit-first f m h = omega arith

pub bit-next : (f m c : ℕ) → f ≤ 1 → bit (suc c) (f + 2 * m) ≡ bit c m
bit-next f m c h =
    let half : (f + 2 * m) / 2 ≡ m = omega arith in
    let next : suc c ≡ 1 + c = omega arith in
    ap (λ k. bit k (f + 2 * m)) next ∙ ap (λ n. n % 2) (sym (shr-shr (f + 2 * m) 1 c)) ∙ ap (bit c) half

bit-none : (c : ℕ) → bit c 0 ≡ 0
bit-none c = ap (λ n. n % 2) (zero-div (2 ^ c))

pub bit-and : (a b k : ℕ) → bit k (bit_and a b) ≡ min (bit k a) (bit k b)
bit-and a b k = ap (λ n. n % 2) (and_shr a b k) ∙ (let e = and_step (a / 2 ^ k) (b / 2 ^ k) in omega arith)

pub bit-or : (a b k : ℕ) → bit k (bit_or a b) ≡ max (bit k a) (bit k b)
bit-or a b k = ap (λ n. n % 2) (or_shr a b k) ∙ (let e = or_step (a / 2 ^ k) (b / 2 ^ k) in omega arith)

pub or-none : (a b k : ℕ) → bit k (bit_or a b) ≡ 0 → (bit k a ≡ 0) × (bit k b ≡ 0)
or-none a b k e = let m = bit-or a b k in (omega arith, omega arith)

-- no bit in both
pub apart : (m busy : ℕ) → bit_and m busy ≡ 0 → (c : ℕ) → bit c m ≡ 1 → bit c busy ≡ 0
apart m busy e c one =
    let both : min (bit c m) (bit c busy) ≡ 0 = sym (bit-and m busy c) ∙ ap (bit c) e ∙ bit-none c in
    omega arith

-- ---- a row is free of `busy`

-- what a mask that was answered says
pub free-told : {t : Taps} {busy m : ℕ} {r : Row} → t ≡ taps_if_free busy r → t ≡ Mask m → FreeTaps busy m r
unfolding taps_if_free
free-told {t} {busy} {m} {r} e g = go (mask_of_line r) refl (sym e ∙ g)
  where
    given : (n : ℕ) (p : Bool) → mask_of_line r ≡ Mask n → (p ≡ true → bit_and n busy ≡ 0) → cond p (Mask n) Other ≡ Mask m → FreeTaps busy m r
    given n false w h f = not-other m f
    given n true w h f =
        let same : n ≡ m = cc in
        record {
          mask = w ∙ ap Mask same;
          free = λ k. rw same at (apart n busy (h refl) k);
        }

    go : (u : Taps) → mask_of_line r ≡ u → free_of busy u ≡ Mask m → FreeTaps busy m r
    go (Mask n) w f = given n (eqb (bit_and n busy) 0) w (λ h. eqb-true (bit_and n busy) 0 h) f
    go Other w f = not-other m f

-- ---- the cells of a row with a mask

pub tap-cell : (r : Row) (m c : ℕ) → tap_mask r ≡ Mask m → byte_at c r ≡ 48 + bit c m
unfolding tap_mask
tap-cell [] m c e = let w : 0 ≡ m = cc in omega (arith, ap (bit c) (sym w) ∙ bit-none c)
tap-cell (b ∷ r) m zero e =
    let s = parts b (tap_mask r) m e in
    omega (arith, s.byte, ap (bit 0) s.whole ∙ bit-first s.first s.rest s.small)
tap-cell (b ∷ r) m (suc c) e =
    let s = parts b (tap_mask r) m e in
    tap-cell r s.rest c s.after ∙ ap (λ n. 48 + n) (sym (ap (bit (suc c)) s.whole ∙ bit-next s.first s.rest c s.small))

-- cells of which neither a `0` nor a `1` is one
pub taps-count : (f : ℕ → Bool) → f 48 ≡ false → f 49 ≡ false → (r : Row) (m : ℕ) → tap_mask r ≡ Mask m → count_by f r ≡ 0
unfolding tap_mask
taps-count f x y [] m e = refl
taps-count f x y (b ∷ r) m e =
    let s = parts b (tap_mask r) m e in
    rw (s.byte, bits s.first s.small, taps-count f x y r s.rest s.after)
  where
    bits : (k : ℕ) → k ≤ 1 → f (48 + k) ≡ false
    bits zero h = x
    bits (suc zero) h = y
    bits (suc (suc k)) h = absurd (omega arith)

-- what stands in a column
pub data Free (busy : ℕ) (c : ℕ) (b : ℕ) : Type 0 where
  zero-cell : b ≡ 48 → Free busy c b
  tap-there : b ≡ 49 → bit c busy ≡ 0 → Free busy c b

pub free-cell : (busy m : ℕ) (r : Row) → FreeTaps busy m r → (c : ℕ) → Free busy c (byte_at c r)
free-cell busy m r x c = go (bit c m) refl (mod-lt (m / 2 ^ c) (omega arith))
  where
    go : (f : ℕ) → bit c m ≡ f → f < 2 → Free busy c (byte_at c r)
    go zero e h = zero-cell (tap-cell r m c (line-taps r m x.mask) ∙ ap (λ n. 48 + n) e)
    go (suc zero) e h = tap-there (tap-cell r m c (line-taps r m x.mask) ∙ ap (λ n. 48 + n) e) (x.free c e)
    go (suc (suc f)) e h = absurd (omega arith)

-- the same of a column within the row
pub free-byte : (busy m : ℕ) (r : Row) → FreeTaps busy m r → (c : ℕ) → c < length r → Free busy c (get_or r c 0)
free-byte busy m r x c h = subst (Free busy c) (any-default r c 48 0 h) (free-cell busy m r x c)
