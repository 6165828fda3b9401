-- Words of bytes, the first one lowest. Only contracts of functions that go by words cite these.
use Rattle.std.specs.Prelude.{ℕ, zero, suc, ◌+◌, ◌-◌, ◌*◌, ◌/◌, ◌%◌, ◌<◌, Bool, ◌&&◌, ◌||◌, if◌then◌else◌, List, [], ◌∷◌, ◌==◌, nat_lt, nat_le, slice_index, drop}

-- the word of the four bytes from i on
abbrev pub half_word_at : List ℕ → ℕ → ℕ
half_word_at s i = slice_index s i + slice_index s (i + 1) * 256 + slice_index s (i + 2) * 65536 + slice_index s (i + 3) * 16777216

-- the word of the eight bytes from i on
abbrev pub word_at : List ℕ → ℕ → ℕ
word_at s i =
    slice_index s i
    + slice_index s (i + 1) * 256
    + slice_index s (i + 2) * 65536
    + slice_index s (i + 3) * 16777216
    + slice_index s (i + 4) * 4294967296
    + slice_index s (i + 5) * 1099511627776
    + slice_index s (i + 6) * 281474976710656
    + slice_index s (i + 7) * 72057594037927936

-- the word of a list of bytes
unfoldable pub word_of : List ℕ → ℕ
word_of [] = 0
word_of (x ∷ xs) = word_of xs * 256 + x

-- each is a byte
abbrev pub Bytes : List ℕ → Type 0
Bytes [] = Unit {0}
Bytes (x ∷ xs) = (x < 256) × Bytes xs

-- the n lowest bytes of a word
unfoldable pub low_bytes : ℕ → ℕ → List ℕ
low_bytes zero w = []
low_bytes (suc n) w = w % 256 ∷ low_bytes n (w / 256)

-- the eight bytes of a word
abbrev pub bytes_of_word : ℕ → List ℕ
bytes_of_word w = low_bytes 8 w

-- the place of the first b, or the length
unfoldable pub first_in : ℕ → List ℕ → ℕ
first_in b [] = 0
first_in b (x ∷ xs) = if x == b then 0 else suc (first_in b xs)

-- the place of the first byte below k, or the length
unfoldable pub first_below : ℕ → List ℕ → ℕ
first_below k [] = 0
first_below k (x ∷ xs) = if nat_lt x k then 0 else suc (first_below k xs)

-- the place of the first byte that is none of the 128 from k on, or the length
unfoldable pub first_outside : ℕ → List ℕ → ℕ
first_outside k [] = 0
first_outside k (x ∷ xs) = if nat_lt x k || nat_le (k + 128) x then 0 else suc (first_outside k xs)

-- whether of the first n bytes the last eight, or all of fewer, are from 16 to 143, and the second is 16 or more
abbrev pub starts_plain : ℕ → List ℕ → Bool
starts_plain n s = nat_le n (n - 8 + first_outside 16 (drop (n - 8) s)) && nat_le 16 (slice_index s 1)
