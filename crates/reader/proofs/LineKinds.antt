-- What a line is, by its first byte and the row test.
use mathlib.Core.Path.{◌≡◌, refl, ap₂}
use mathlib.Core.Bool.{◌||◌}
use mathlib.Core.List.{List, [], ◌∷◌}
use Prim.Native.Nat.{ℕ, ◌≤◌}
use native.Mathlib.Omega.{arith}
use lib.Dec.{eqb}
use lib.ListN.{length}
use Rattle.std.specs.List.{list_any}
use Rattle.definitions.specs.Lists.{among}
use Rattle.definitions.specs.Lines.{trim, kind_of}
use Rattle.definitions.specs.declared.LineKind.TheVariants as kind
use Rattle.definitions.proofs.Bools.{equal-turned}
pub use Rattle.definitions.proofs.ChartRows.{row-length}

-- a byte among others by std's search
pub among-any : (b : ℕ) (l : List ℕ) → list_any (λ x. eqb x b) l ≡ among b l
among-any b [] = refl
among-any b (x ∷ l) = ap₂ (λ s t. s || t) (equal-turned x b) (among-any b l)

-- a line without bytes is passed over
pub comma-some : (L : ℕ) (l : List ℕ) → kind_of L (trim l) ≡ kind.Comma → 1 ≤ length l
unfolding kind_of
comma-some L [] e = let z : ◌≡◌ {A = ℕ} 0 1 = cc in absurd (omega arith)
comma-some L (x ∷ xs) e = omega arith
