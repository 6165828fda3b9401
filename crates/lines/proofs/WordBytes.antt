-- The word of a list of bytes, the first one lowest, and back: the bytes of that word are those of the list.
use Rattle.std.proofs.Common.{◌≡◌, ℕ, zero, suc, ◌+◌, ◌*◌, ◌/◌, ◌%◌, ◌^◌, ◌<◌, List, [], ◌∷◌, length, refl, ap, arith}
use Rattle.lines.specs.Words.{word_of, Bytes, low_bytes, bytes_of_word}

-- the bytes of a list's word
low-bytes-of : (xs : List ℕ) → Bytes xs → low_bytes (length xs) (word_of xs) ≡ xs
unfolding low_bytes word_of
low-bytes-of [] h = refl
low-bytes-of (x ∷ xs) h =
    let byte : (word_of xs * 256 + x) % 256 ≡ x = omega (arith, h.0) in
    let rest : (word_of xs * 256 + x) / 256 ≡ word_of xs = omega (arith, h.0) in
    rw (byte, rest) (ap {B = List ℕ} (λ l. x ∷ l) (low-bytes-of xs h.1))

pub bytes_read : (xs : List ℕ) (w : ℕ) → length xs ≡ 8 → Bytes xs → word_of xs ≡ w → bytes_of_word w ≡ xs
bytes_read xs w eight small e = rw (← e) (rw eight at (low-bytes-of xs small))

-- and a word's bytes make that word
pub low-bytes-long : (n w : ℕ) → length (low_bytes n w) ≡ n
unfolding low_bytes
low-bytes-long zero w = refl
low-bytes-long (suc n) w = ap suc (low-bytes-long n (w / 256))

pub low-bytes-small : (n w : ℕ) → Bytes (low_bytes n w)
unfolding low_bytes
low-bytes-small zero w = tt
low-bytes-small (suc n) w = (omega arith, low-bytes-small n (w / 256))

abbrev cap : ℕ → ℕ
cap zero = 1
cap (suc n) = cap n * 256

low-bytes-whole : (n w : ℕ) → w < cap n → word_of (low_bytes n w) ≡ w
unfolding low_bytes word_of
low-bytes-whole zero w h = omega arith
low-bytes-whole (suc n) w h = rw (low-bytes-whole n (w / 256) (omega arith)) (omega arith)

pub word-whole : (w : ℕ) → w < 2 ^ 64 → word_of (bytes_of_word w) ≡ w
word-whole w h = low-bytes-whole 8 w h
