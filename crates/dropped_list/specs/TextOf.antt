-- A minimised text by itself.
use Rattle.std.specs.Prelude.{◌≡◌, List, ℕ}
use Rattle.definitions.specs.Figures.{minimised_text}
use Rattle.definitions.specs.Entries.{row_count}

-- it is that of a chart, and has so many rows
pub record TextOf (L : ℕ) (chart text : List ℕ) (rows : ℕ) : Type 0 where
  pub text_is : text ≡ minimised_text L chart
  pub rows_are : rows ≡ row_count L chart

-- of some chart
pub record SomeText (L : ℕ) (text : List ℕ) (rows : ℕ) : Type 0 where
  pub chart : List ℕ
  pub held : TextOf L chart text rows
