-- The compaction: what the loop over the rows that stay has moved.
use mathlib.Core.Path.{◌≡◌, refl, ap, sym, ◌∙◌}
use mathlib.Core.Bool.{Bool, true, false}
use mathlib.Core.List.{List, ◌++◌, append-nil}
use Prim.Native.Nat.{ℕ, zero, suc, ◌+◌, ◌*◌, ◌^◌, ◌%◌, ◌/◌, ◌≤◌, ◌<◌}
use native.Mathlib.Nat.{mul_assoc, add-mul, one-mul, mul-one, mul-le-mul_left, zero-mul, mul-le-mul_right, le_of_dvd, dvd_of_mod-eq-zero, div-mul_cancel, mod-eq_of_lt, pow-le-pow_right}
use native.Mathlib.Omega.{arith}
use borrow.Author.Tests.{leb-true, leb-false}
use lib.Dec.{leb}
use lib.Pow.{pow-lt}
use lib.ListN.{length, take, drop, length-drop}
use lib.Seq.{paste, drop-drop}
use Rattle.definitions.specs.Lists.{joined}
use Rattle.definitions.specs.Lines.{Row}
use Rattle.definitions.specs.Reduction.{at_multiples}
use Rattle.reduction.specs.Rows.{rows_at, placed, compacted}
use Rattle.reduction.proofs.Powers.{row-end}
use Rattle.reduction.proofs.Placed.{placed_same, placed-more, placed-length}
use Rattle.reduction.proofs.Blocks.{multiples-apart, apart-length, apart_more, blocks-joined}

-- The first `row` of the rows that stay are at their new places, and the rest of the text is as it was.
pub record Moved (text₀ : List ℕ) (start rows step left w : ℕ) (text : List ℕ) (row : ℕ) : Type 0 where
  pub unit : 0 < step
  pub apart : 1 < step
  pub first : 0 < row
  pub count : rows ≡ left * step
  pub room : start + rows * w ≤ length text₀
  pub most : row ≤ left
  pub contents : text ≡ placed start (joined (rows_at (step * w) w row (drop start text₀))) text₀

pub moved-start : (text₀ : List ℕ) (start rows step left w : ℕ) → 1 < step → rows ≡ left * step → 0 < rows → start + rows * w ≤ length text₀
    → Moved text₀ start rows step left w text₀ 1
moved-start text₀ start rows step left w u e p h =
    record { unit = omega arith; apart = u; first = omega arith; count = e; room = h; most = some left e; contents = sym same }
  where
    some : (k : ℕ) → rows ≡ k * step → 1 ≤ k
    some zero q = let none : rows ≡ 0 = q ∙ zero-mul step in absurd (omega arith)
    some (suc k) q = omega arith

    fits : start + w ≤ length text₀
    fits = omega (arith, row-end 0 rows w p)

    same : placed start (joined (rows_at (step * w) w 1 (drop start text₀))) text₀ ≡ text₀
    same = rw (append-nil (take w (drop start text₀))) (placed_same start w text₀ fits)

module _ {text₀ : List ℕ} {start rows step left w : ℕ} {text : List ℕ} {row : ℕ} (m : Moved text₀ start rows step left w text row) (h : row < left) where
  -- the row to be moved next is one of the rows
  moved_row : row * step < rows
  moved_row =
      let more : row * step + step ≤ rows = rw m.count (row-end row left step h) in
      omega (arith, m.unit)

  -- its new place lies before it
  moved_back : start + row * w + w ≤ start + row * step * w
  moved_back =
      let twice : row * 2 ≤ row * step = mul-le-mul_left {m = 2} {n = step} row m.apart in
      let more : row + 1 ≤ row * step = omega (arith, m.first) in
      omega (arith, mul-le-mul_right {m = row + 1} {n = row * step} w more, add-mul row 1 w)

  -- and lies within the text
  moved-fits : start + row * step * w + w ≤ length text₀
  moved-fits = omega (arith, m.room, row-end (row * step) rows w moved_row)

  pub moved-next : (row * step < rows) × (start + row * w + w ≤ start + row * step * w) × (start + row * step * w + w ≤ length text₀)
  moved-next = (moved_row, moved_back, moved-fits)

module _ {text₀ : List ℕ} {start rows step left w : ℕ} {text : List ℕ} {row : ℕ} (m : Moved text₀ start rows step left w text row) where
  moved-places : row * (step * w) ≤ rows * w
  moved-places =
      rw (← mul_assoc row step w, m.count) (mul-le-mul_right {m = row * step} {n = left * step} w (mul-le-mul_right {m = row} {n = left} step m.most))

  wide : w ≤ step * w
  wide = omega (arith, mul-le-mul_right {m = 1} {n = step} w m.unit)

  moved_length : length (joined (rows_at (step * w) w row (drop start text₀))) ≡ row * w
  moved_length = apart-length (step * w) w row (drop start text₀) wide (rw length-drop (omega (arith, m.room, moved-places)))

  pub moved-size : length text ≡ length text₀
  moved-size =
      ap length m.contents
      ∙ placed-length start (joined (rows_at (step * w) w row (drop start text₀))) text₀
      (rw moved_length (omega (arith, m.room, moved-places, mul-le-mul_left {m = w} {n = step * w} row wide)))

pub moved-step : {text₀ : List ℕ} {start rows step left w : ℕ} {text : List ℕ} {row : ℕ} → Moved text₀ start rows step left w text row → row < left
    → (after : List ℕ) → after ≡ paste text (start + row * w) (drop (start + row * step * w) text) w
    → Moved text₀ start rows step left w after (row + 1)
moved-step {text₀} {start} {rows} {step} {left} {w} {text} {row} m h after e =
    record {
      unit = m.unit;
      apart = m.apart;
      first = omega arith;
      count = m.count;
      room = m.room;
      most = omega arith;
      contents =
          e
          ∙ ap (λ (x : List ℕ). paste x (start + row * w) (drop (start + row * step * w) x) w) m.contents
          ∙ ap (λ (k : ℕ). paste (placed start bytes text₀) (start + k) (drop (start + row * step * w) (placed start bytes text₀)) w) (sym len)
          ∙ placed-more start bytes text₀ (start + row * step * w) w (rw len (omega (arith, moved_back m h))) (moved-fits m h)
          ∙ ap (λ (l : List ℕ). placed start (bytes ++ take w l) text₀) source
          ∙ ap (λ (b : List ℕ). placed start b text₀) (sym (apart_more (step * w) w row (drop start text₀)));
    }
  where
    bytes : List ℕ
    bytes = joined (rows_at (step * w) w row (drop start text₀))

    len : length bytes ≡ row * w
    len = moved_length m

    source : drop (start + row * step * w) text₀ ≡ drop (row * (step * w)) (drop start text₀)
    source = ap (λ (k : ℕ). drop (start + k) text₀) (mul_assoc row step w) ∙ sym (drop-drop (row * (step * w)) start text₀)

pub moved-end : {text₀ : List ℕ} {start rows step left w : ℕ} {text : List ℕ} {row : ℕ} → Moved text₀ start rows step left w text row → left ≤ row
    → text ≡ compacted w rows step start text₀
unfolding compacted
moved-end {text₀} {start} {rows} {step} {left} {w} {text} {row} m h =
    m.contents
    ∙ ap (λ (k : ℕ). placed start (joined (rows_at (step * w) w k (drop start text₀))) text₀) all
    ∙ ap (λ (l : List Row). placed start (joined l) text₀) (sym (multiples-apart w w step left (drop start text₀) m.unit))
    ∙ ap (λ (n : ℕ). placed start (joined (at_multiples step 0 (rows_at w w n (drop start text₀)))) text₀) (sym m.count)
  where
    all : row ≡ left
    all = omega (arith, m.most)

-- nothing is moved where the stride is 1
pub one-stays : (w rows start : ℕ) (text : List ℕ) → start + rows * w ≤ length text → text ≡ compacted w rows 1 start text
unfolding compacted
one-stays w rows start text h =
    sym (placed_same start (rows * w) text h)
    ∙ ap (λ (b : List ℕ). placed start b text) (sym (blocks-joined w rows (drop start text)))
    ∙ ap (λ (l : List Row). placed start (joined l) text) (sym every)
  where
    every : at_multiples 1 0 (rows_at w w rows (drop start text)) ≡ rows_at w w rows (drop start text)
    every =
        ap (λ (n : ℕ). at_multiples 1 0 (rows_at w w n (drop start text))) (sym (mul-one rows))
        ∙ multiples-apart w w 1 rows (drop start text) (omega arith)
        ∙ ap (λ (d : ℕ). rows_at d w rows (drop start text)) (one-mul w)

-- a power of two that divides a machine's number, and the machine's shift that makes it
pub power-fits : (shift rows : ℕ) → 0 < rows → rows < 18446744073709551616 → rows % 2 ^ shift ≡ 0 → shift < 64
power-fits shift rows p f d = go (leb 64 shift) refl
  where
    low : 2 ^ shift ≤ rows
    low = le_of_dvd p (dvd_of_mod-eq-zero (2 ^ shift) d)

    go : (t : Bool) → leb 64 shift ≡ t → shift < 64
    go true h =
        let big : 18446744073709551616 ≤ 2 ^ shift = pow-le-pow_right {n = 2} (omega arith) (leb-true 64 shift h) in
        absurd (omega (arith, low))
    go false h = leb-false 64 shift h

pub shifted_one : (shift : ℕ) → shift < 64 → 1 * 2 ^ shift % 18446744073709551616 ≡ 2 ^ shift
shifted_one shift h = rw one-mul (mod-eq_of_lt (pow-lt {i = shift} {j = 64} h))

pub left-times : (rows shift step : ℕ) → step ≡ 2 ^ shift → rows % 2 ^ shift ≡ 0 → rows ≡ rows / 2 ^ shift * step
left-times rows shift step e d = rw e (sym (div-mul_cancel (2 ^ shift) (dvd_of_mod-eq-zero (2 ^ shift) d)))
