-- From the measures that were counted to what the calls over them answer.
use mathlib.Core.Path.{◌≡◌, refl, ap, sym, ◌∙◌, subst}
use mathlib.Core.List.{List}
use Prim.Native.Nat.{ℕ, ◌+◌, ◌-◌, ◌≤◌}
use native.Mathlib.Omega.{arith}
use lib.ListN.{length, take, replicate, length-take, length-map}
use lib.Seq.{length-take-le}
use Rattle.definitions.specs.Sizes.{most_bytes}
use Rattle.definitions.specs.Lists.{joined, padded}
use Rattle.definitions.specs.Lanes.{most_rows_in}
use Rattle.definitions.specs.Reduction.{minimised}
use Rattle.definitions.specs.Figures.{density, minimised_text, densities as densities_of}
use Rattle.definitions.specs.Correction.{corrected}
use Rattle.definitions.specs.ReadBack.{rows_read_back, main_tally}
use Rattle.definitions.specs.declared.ArrowStats.{ArrowStats}
use Rattle.corrected_tally.specs.Room.{Room}
use Rattle.corrected_tally.proofs.Few.{minimised-room}
use Rattle.slices.specs.Zeroed.{zeroed}
use Rattle.slices.proofs.Zeroed.{zeroed-answer}
use Rattle.kept_pass.specs.declared.Kept.{Kept}
use Rattle.kept_pass.specs.Kept.{KeptAll}

module _ (L : ℕ) (chart_text : List ℕ) (k : Kept) (text densities : List ℕ) (x : KeptAll L chart_text k text densities) where
  -- the densities that were stored stand in the slice
  pub all_room : k.measures ≤ length densities
  unfolding densities_of
  all_room = omega (arith, sym (length-take k.measures densities) ∙ ap length x.densities_are ∙ length-map (minimised L chart_text) density, x.measures)

  pub all-text : (n : ℕ) → length text ≡ n → length chart_text + 1 ≤ n → zeroed 0 k.bytes text ≡ padded 0 n (minimised_text L chart_text)
  all-text n size h = zeroed-answer 0 text k.bytes n (λ L. minimised_text L chart_text) refl size (omega (arith, x.short)) x.text_is

  pub all-densities : (n : ℕ) → length densities ≡ n → zeroed 0 k.measures densities ≡ padded 0 n (densities_of L chart_text)
  all-densities n size = zeroed-answer 0 densities k.measures n (λ L. densities_of L chart_text) refl size all_room x.densities_are

  -- the part of the text slice that is read back
  own-part : take (k.bytes - 0) text ≡ minimised_text L chart_text
  own-part = let n : k.bytes - 0 ≡ k.bytes = omega arith in ap (λ k. take k text) n ∙ x.text_is

  pub all-recount : (work : List ℕ) → 1 ≤ L → length chart_text ≤ most_bytes → most_rows_in L (length chart_text) ≤ length work → Room L (take (k.bytes - 0) text) work
  all-recount work l s w = subst (λ t. Room L t work) (sym own-part) (minimised-room L chart_text work l s w)

  -- the tally that is corrected over it
  pub all-tally : {stats : ArrowStats} → stats ≡ corrected L (joined (minimised L chart_text)) (rows_read_back L (take (k.bytes - 0) text)) → stats ≡ main_tally L chart_text
  unfolding main_tally
  all-tally e = e ∙ ap (λ t. corrected L (joined (minimised L chart_text)) (rows_read_back L t)) own-part

  pub all-bytes : length chart_text + 1 ≤ length text → k.bytes ≡ length (minimised_text L chart_text)
  all-bytes room = sym (ap length (sym x.text_is) ∙ length-take-le k.bytes text (omega (arith, room, x.short)))

-- a slice of zeros from its first entry on
pub none-off : (n : ℕ) → replicate {A = ℕ} n 0 ≡ replicate (n - 0) 0
none-off n = let e : n ≡ n - 0 = omega arith in ap (λ k. replicate k 0) e
