-- Figures of accepted texts, each in its place among those of its call.
use Rattle.std.specs.Prelude.{◌≡◌, List, All, ℕ, ◌^◌, ◌≤◌, ◌<◌, length, Ok}
use Rattle.definitions.specs.Sizes.{most_bytes}
use Rattle.definitions.specs.Entries.{places_of_written, written_answer}
use Rattle.definitions.specs.declared.WrittenFigures.{WrittenFigures}

-- "Every figure of an accepted text is below 2^64.": of some figures, at L lanes and of any accepted text.
abbrev pub FitsForAll : (ℕ → List ℕ → List ℕ) → Type 0
FitsForAll places = (L : ℕ) → 4 ≤ L → L ≤ 10 → (text : List ℕ) → length text ≤ most_bytes → All (λ (x : ℕ). x < 2 ^ 64) (places L text)

-- and of what is written: of records s in bytes and row counts that are accepted
abbrev pub WrittenFits : Type 0
WrittenFits =
    (L : ℕ) (s counts room : List ℕ) (f : WrittenFigures)
    → All (λ b. b < 256) s
    → written_answer L s counts room ≡ Ok f
    → All (λ (x : ℕ). x < 2 ^ 64) (places_of_written f)
