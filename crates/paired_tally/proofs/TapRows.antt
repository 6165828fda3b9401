-- A row of taps alone by its mask: what it adds up to, and its entry.
use mathlib.Core.Path.{◌≡◌, refl, ap, sym, ◌∙◌}
use mathlib.Core.Bool.{Bool, true, false}
use mathlib.Core.List.{List}
use Prim.Native.Nat.{ℕ, ◌+◌, ◌*◌}
use native.Mathlib.Omega.{arith}
use lib.ListN.{get_or, set}
use Rattle.std.proofs.lemmas.List.{set-get_or}
use Rattle.definitions.specs.Lists.{number_of_bool}
use Rattle.definitions.specs.Lines.{Row}
use Rattle.definitions.specs.Tally.{row_sum}
use Rattle.definitions.specs.Judged.{judged_sum, sum_of_fakes}
use Rattle.definitions.specs.declared.ArrowStats.{ArrowStats}
use Rattle.taps.specs.Taps.{mask_of_line, unpack}
use Rattle.taps.specs.declared.Taps.TheVariants.{Mask}
use Rattle.taps.proofs.Sums.{tap-line-sum}
use Rattle.row_tally.specs.Raised.{with_cells}
use Rattle.row_tally.proofs.Raised.{cells-none}
use Rattle.row_tally.proofs.Taps.{taps-judged, no-taps-row, no-taps-sum}
use Rattle.paired_tally.specs.Entry.{entry_of}
use Rattle.paired_tally.specs.Paired.{kind_sum}

-- the entry of a row that a list has not yet
pub entry-stays : (work : List ℕ) (row : ℕ) → get_or work row 0 ≡ 0 → work ≡ set work row 0
entry-stays work row z = sym (ap (set work row) (sym z) ∙ set-get_or work row 0)

module _ (r : Row) {m : ℕ} (e : mask_of_line r ≡ Mask m) where
  -- judged or not, a row's arrows are its taps
  pub judged-row : judged_sum true r ≡ row_sum r
  judged-row = sym (taps-judged r m e) ∙ sym (tap-line-sum r m e)

  pub plain-entry : (judged : Bool) → entry_of true judged (row_sum r) 0 ≡ (row_sum r).arrows + 8192 * number_of_bool false
  unfolding unpack
  plain-entry judged = rw (tap-line-sum r m e) (omega arith)

  pub judged-entry : entry_of false true (judged_sum true r) 0 ≡ (row_sum r).arrows + 8192 * number_of_bool true
  unfolding unpack
  judged-entry = rw (judged-row, tap-line-sum r m e) (omega arith)

  module _ (z : m ≡ 0) where
    pub no-taps-kind : (plain judged : Bool) → kind_sum plain judged r ≡ sum_of_fakes 0
    no-taps-kind true judged = no-taps-row r m e z
    no-taps-kind false judged = no-taps-sum r m e z judged

    pub no-taps-stats : (plain judged : Bool) (t : ArrowStats) → t ≡ with_cells t (kind_sum plain judged r)
    no-taps-stats plain judged t = sym (ap (with_cells t) (no-taps-kind plain judged) ∙ cells-none t)

    pub no-taps-entry : (judged : Bool) → entry_of false judged (judged_sum judged r) 0 ≡ 0 + 8192 * number_of_bool judged
    no-taps-entry true = rw (no-taps-sum r m e z true) (omega arith)
    no-taps-entry false = refl

    pub no-taps-plain : (judged : Bool) → entry_of true judged (row_sum r) 0 ≡ 0
    no-taps-plain judged = rw (no-taps-row r m e z) (omega arith)
