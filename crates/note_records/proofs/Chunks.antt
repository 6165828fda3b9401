-- The note of chunk k of some records is what is read of record k.
use mathlib.Core.Path.{◌≡◌, refl, ap, sym, ◌∙◌}
use mathlib.Core.List.{List, []}
use Prim.Native.Nat.{ℕ, zero, suc, ◌+◌, ◌*◌, ◌<◌, ◌/◌, ◌%◌}
use native.Mathlib.Nat.{suc-mul, zero-mul}
use native.Mathlib.Omega.{arith}
use borrow.Author.Tests.{eq-eqb, lt-ltb}
use lib.ListN.{length, take, drop, get_or}
use lib.Seq.{drop-drop, get_or-drop, get_or-take}
use Rattle.std.specs.Simd.{first_chunks}
use Rattle.definitions.specs.Records.{word, note_of, note_of_record}
use Rattle.note_records.specs.Chunks.{ten_bytes, note_of_bytes}

-- of chunks of any width
module _ (w : ℕ) where
  pub chunk-at : (n k : ℕ) (s : List ℕ) → k < n → get_or (first_chunks w n s) k [] ≡ take w (drop (k * w) s)
  chunk-at zero k s h = absurd (omega arith)
  chunk-at (suc n) zero s h = rw zero-mul refl
  chunk-at (suc n) (suc k) s h =
      let d : w + k * w ≡ suc k * w = simp suc-mul (omega arith) in
      chunk-at n k (drop w s) (omega arith) ∙ ap (take w) (drop-drop (k * w) w s ∙ ap (λ j. drop j s) d)

  pub chunks-length : (n : ℕ) (s : List ℕ) → length (first_chunks w n s) ≡ n
  chunks-length zero s = refl
  chunks-length (suc n) s = ap suc (chunks-length n (drop w s))

  -- the bytes of a record are those of its chunk
  pub chunk-byte : (d i j : ℕ) (s : List ℕ) → i < w → d + i ≡ j → get_or (take w (drop d s)) i 0 ≡ get_or s j 0
  chunk-byte d i j s h e = get_or-take w (drop d s) i 0 h ∙ get_or-drop d s i 0 ∙ ap (λ n. get_or s n 0) e

  pub chunk-word : (d i j : ℕ) (s : List ℕ) → i + 3 < w → d + i ≡ j → word (take w (drop d s)) i ≡ word s j
  unfolding word
  chunk-word d i j s h e =
      rw (
        chunk-byte d i j s (omega arith) e,
        chunk-byte d (i + 1) (j + 1) s (omega arith) (omega (arith, e)),
        chunk-byte d (i + 2) (j + 2) s (omega arith) (omega (arith, e)),
        chunk-byte d (i + 3) (j + 3) s (omega arith) (omega (arith, e)),
      ) refl

chunk-note : (d : ℕ) (s : List ℕ) → note_of_bytes (take 10 (drop d s)) ≡ note_of (word s d) (word s (d + 4)) (get_or s (d + 8) 0) (get_or s (d + 9) 0)
chunk-note d s =
    rw (
      chunk-word 10 d 0 d s (omega arith) (omega arith),
      chunk-word 10 d 4 (d + 4) s (omega arith) (omega arith),
      chunk-byte 10 d 8 (d + 8) s (omega arith) (omega arith),
      chunk-byte 10 d 9 (d + 9) s (omega arith) (omega arith),
    ) refl

pub chunks-count : (s : List ℕ) → length (ten_bytes s) ≡ length s / 10
chunks-count s = chunks-length 10 (length s / 10) s

pub chunk-read : (s : List ℕ) (k : ℕ) → length s % 10 ≡ 0 → k < length s / 10 → note_of_bytes (get_or (ten_bytes s) k []) ≡ note_of_record s k
unfolding note_of_record
chunk-read s k whole h =
    ap note_of_bytes (chunk-at 10 (length s / 10) k s h)
    ∙ chunk-note (k * 10) s
    ∙ sym (rw (eq-eqb (length s % 10) 0 whole, lt-ltb k (length s / 10) h) refl)
