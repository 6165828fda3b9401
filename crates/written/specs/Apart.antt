-- What the checks before the writer have found.
use Rattle.std.specs.Prelude.{◌≡◌, false, List, ℕ, ◌≤◌}
use Rattle.definitions.specs.Sizes.{most_bytes}
use Rattle.definitions.specs.Written.{notes_in, out_of_order, some_meet, other_counts, written_length}
use Rattle.note_records.specs.Limits.{Limited}

-- 7, 8 and 13 let these records pass,
pub record Rising (L : ℕ) (s : List ℕ) : Type 0 where
  pub limited : Limited s
  pub lanes : L ≤ 10
  pub order : out_of_order L (notes_in s) ≡ false

-- and 14
pub record Apart (L : ℕ) (s : List ℕ) : Type 0 where
  pub rising : Rising L s
  pub apart : some_meet (notes_in s) ≡ false

-- 15 and 1 let these counts pass
pub record CountsFit (L : ℕ) (s counts : List ℕ) : Type 0 where
  pub counted : other_counts L (notes_in s) counts ≡ false
  pub short : written_length L counts ≤ most_bytes
