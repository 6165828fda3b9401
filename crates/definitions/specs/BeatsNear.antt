-- Specification, "How near the beats are": "Row r of the n minimised rows of measure m stands for beat 4 × m + 4 × r / n, its fraction, which in
-- 48ths of a beat is 192 × m + 192 × r / n. Row beats and the last beat are floats that are only near to it; a finite float is a fraction itself, so
-- how near is a matter of whole numbers." Each inequality is multiplied out: `num x / den x` is the size of the float x as a fraction. First of
-- places m, r and n, then of the texts that have them. Each `unfoldable` fact is the contract of a function of `laws`, and so are places at which
-- more is false (`claims_tight`).
use Rattle.std.specs.Prelude.{◌≡◌, false, List, ℕ, ◌+◌, ◌*◌, ◌^◌, ◌%◌, ◌≤◌, ◌<◌, length, slice_get, Some}
use Rattle.std.specs.Float.{binary32}
use Rattle.std.specs.Float.Ieee.{mul}
use Rattle.std.specs.Float.Ieee.Exact.{HasValue}
use Rattle.std.specs.Float.Ieee.Positive.{num, den}
use Rattle.definitions.specs.Sizes.{most_bytes}
use Rattle.definitions.specs.Lanes.{most_rows_in}
use Rattle.definitions.specs.Beats.{f32, beat_of_row, beats, whole, last_row}
use Rattle.definitions.specs.Objects.{Place, last_object, last48}
use Rattle.definitions.specs.Entries.{row_count}
use Rattle.definitions.specs.Damage.{rows_above, rows_of}

-- a / b and c / d lie within e / k of one another: neither is more than that above the other
pub record Within (e k a b c d : ℕ) : Type 0 where
  pub most : k * (a * d) ≤ k * (c * b) + e * (b * d)
  pub least : k * (c * b) ≤ k * (a * d) + e * (b * d)

-- ---- Row beats
-- the row beat's size lies within e / k of 4 × m + 4 × r / n
abbrev pub SizeWithin : ℕ → ℕ → ℕ → ℕ → ℕ → Type 0
SizeWithin e k m r n =
    let x = beat_of_row m r n in
    Within e k (num x) (den x) (4 * m * n + 4 * r) n

-- and the row beat is finite and not negative, so that it is its size
pub record BeatWithin (e k m r n : ℕ) : Type 0 where
  pub value : HasValue (beat_of_row m r n) false (num (beat_of_row m r n)) (den (beat_of_row m r n))
  pub size : SizeWithin e k m r n

-- "In the measures 0 to 1,023 a row beat is finite, not negative, and within 1/4096 of its fraction."
abbrev pub BeatNear : ℕ → ℕ → ℕ → Type 0
BeatNear m r n = m ≤ 1023 → BeatWithin 1 4096 m r n

-- of every row, where its measure has no more rows than an accepted text: "n at most 3,355,443", those of the longest one at 4 lanes
unfoldable pub BeatsNear : Type 0
BeatsNear = (m r n : ℕ) → r < n → n ≤ most_rows_in 4 most_bytes → BeatNear m r n

-- "Nearly half of 1/4096 is to spare: in the measures 0 to 1,023 a row beat is within 1/8176 of its fraction."
abbrev pub BeatToSpare : ℕ → ℕ → ℕ → Type 0
BeatToSpare m r n = m ≤ 1023 → BeatWithin 1 8176 m r n

-- of every such row
unfoldable pub BeatsToSpare : Type 0
BeatsToSpare = (m r n : ℕ) → r < n → n ≤ most_rows_in 4 most_bytes → BeatToSpare m r n

-- "In the measures below 2^j a row beat is within (2^j + 2) / 2^23 of its fraction, for each j up to 23"
abbrev pub BeatNearer : ℕ → ℕ → ℕ → Type 0
BeatNearer m r n = (j : ℕ) → j ≤ 23 → m < 2 ^ j → BeatWithin (2 ^ j + 2) (2 ^ 23) m r n

-- of every such row
unfoldable pub BeatsNearer : Type 0
BeatsNearer = (m r n : ℕ) → r < n → n ≤ most_rows_in 4 most_bytes → BeatNearer m r n

-- ---- Row beats in 48ths
-- "the row beat times 48, rounded": "The product is one 32-bit operation, rounded once; it is then rounded to a whole number, ties to even."
unfoldable pub beat48 : ℕ → ℕ → ℕ → ℕ
beat48 m r n = whole (mul binary32 (beat_of_row m r n) (f32 48))

-- "In the measures 0 to 1,023, where n divides 192, the row beat times 48, rounded, is exactly its fraction in 48ths": 192 × m + 192 × r / n
abbrev pub BeatExact : ℕ → ℕ → ℕ → Type 0
BeatExact m r n = m ≤ 1023 → 192 % n ≡ 0 → beat48 m r n * n ≡ 192 * m * n + 192 * r

-- of every row
unfoldable pub BeatsExact : Type 0
BeatsExact = (m r n : ℕ) → r < n → BeatExact m r n

-- ---- The last beat in 48ths
-- k is nearest to the fraction in 48ths: "no whole number is nearer, and at a tie either neighbour will do". Twice its distance is at most 1.
abbrev pub Nearest48 : ℕ → ℕ → ℕ → ℕ → Type 0
Nearest48 k m r n = Within 1 2 k 1 (192 * m * n + 192 * r) n

-- "The whole number that is divided by 48 to give the last beat is" such a k at each place that an accepted text can have. "A row takes 5 bytes or
-- more with its byte 10, which a text's last line may lack, and the end of a measure 2. So where measure m has n rows, 5 × n + 2 × m is at most
-- 16,777,216".
unfoldable pub LastNear : Type 0
LastNear =
    (m r n : ℕ)
    → r < n
    → 5 * n + 2 * m ≤ most_bytes + 1
    → Nearest48 (last_row m r n) m r n

-- ---- Texts
-- Beat i of a text is that of row r of the n minimised rows of measure m, and what is said of such a place holds of it. "every measure of an accepted
-- text is below 2^23"
pub record BeatStands (L : ℕ) (text : List ℕ) (i : ℕ) : Type 0 where
  pub m : ℕ
  pub r : ℕ
  pub n : ℕ
  pub rows : n ≡ length (rows_of L m text)
  pub row : r < n
  pub place : i ≡ length (rows_above L m text) + r
  pub measure : m < 2 ^ 23
  pub beat : slice_get (beats L text) i ≡ Some (beat_of_row m r n)
  pub near : BeatNear m r n
  pub to_spare : BeatToSpare m r n
  pub nearer : BeatNearer m r n
  pub exact : BeatExact m r n

-- "Each minimised row has a beat", and each beat of each accepted text stands so: "What follows holds of every accepted text at every lane count."
unfoldable pub TextBeatsStand : Type 0
TextBeatsStand =
    (L : ℕ) (text : List ℕ)
    → 4 ≤ L
    → length text ≤ most_bytes
    → (length (beats L text) ≡ row_count L text)
    × ((i : ℕ) → i < length (beats L text) → BeatStands L text i)

-- A text's last object row is one of the rows of its measure, and no whole number is nearer to it than the text's last beat in 48ths.
pub record LastStands (L : ℕ) (text : List ℕ) (p : Place) : Type 0 where
  pub rows : p.n ≡ length (rows_of L p.m text)
  pub row : p.r < p.n
  pub near : Nearest48 (last48 L text) p.m p.r p.n

-- the last object row of each accepted text that has one
unfoldable pub TextLastNear : Type 0
TextLastNear =
    (L : ℕ) (text : List ℕ)
    → 4 ≤ L
    → length text ≤ most_bytes
    → (p : Place)
    → last_object L text ≡ Some p
    → LastStands L text p
