-- Flags that are missing, and flags that are more than the rows. The places of a tally are told by numbers, as in Written.antt.
use mathlib.Core.Path.{◌≡◌, refl, ap, ap₂, sym, ◌∙◌}
use mathlib.Core.Bool.{true, not}
use mathlib.Core.List.{List, [], ◌∷◌, ◌++◌}
use Prim.Native.Nat.{ℕ, suc, ◌<◌}
use native.Mathlib.Omega.{arith}
use borrow.Author.Tests.{ne_eqb}
use lib.Dec.{eqb}
use lib.ListN.{length, take, drop, get_or, replicate}
use Rattle.std.specs.Prelude.{All}
use Rattle.std.proofs.Math.ListN.{get_or-append}
use Rattle.std.proofs.lemmas.List.{take-append-drop}
use Rattle.definitions.specs.Judged.{judged_at, flagged_tally}
use Rattle.definitions.specs.Entries.{places_of_judged}
use Rattle.definitions.specs.FlagsAsked.{FlagsAsked}
use Rattle.definitions.specs.Consequences.{LastZeros, FlagsPastRows, EachRowJudged, FakesAlone}
use Rattle.definitions.specs.declared.ArrowStats.{ArrowStats}
use Rattle.definitions.proofs.Written.Same.{same-list}

-- a list of zeros
all-zeros : (l : List ℕ) → All (λ f. f ≡ 0) l → replicate (length l) 0 ≡ l
all-zeros [] z = refl
all-zeros (f ∷ l) z = ap₂ (λ g m. g ∷ m) (sym (z 0 0 (omega arith))) (all-zeros l (λ k d h. z (suc k) d (omega (arith, h))))

pub last-zeros : FlagsAsked → LastZeros
unfolding FlagsAsked LastZeros
last-zeros asked L n flags text z =
    let x = asked L (take n flags) text in
    same-list _ _
    (λ f. omega (
      arith,
      ap (λ t. f (places_of_judged t)) (x.padded (length (drop n flags))),
      ap (λ l. f (places_of_judged (flagged_tally L l text))) (ap (λ m. take n flags ++ m) (all-zeros (drop n flags) z) ∙ take-append-drop n flags),
    ))

pub flags-past_rows : FlagsAsked → FlagsPastRows
unfolding FlagsAsked FlagsPastRows judged_at
flags-past_rows asked L flags more text each =
    let x = asked L flags text in
    let same = x.as_flags (flags ++ more) (λ i h. ap (λ f. not (eqb f 0)) (get_or-append flags more 0 i (omega (arith, h, each)))) in
    same-list _ _ (λ f. omega (arith, ap (λ t. f (places_of_judged t)) same))

pub each-row_judged : FlagsAsked → EachRowJudged
unfolding FlagsAsked EachRowJudged judged_at
each-row_judged asked L flags text each none =
    let x = asked L flags text in
    let judged : (i : ℕ) → i < length flags → not (eqb (get_or flags i 0) 0) ≡ true =
    λ i h. ap not (ne_eqb (get_or flags i 0) 0 (λ e. absurd (omega (arith, none i 0 h, e)))) in
    same-list _ _ (λ f. omega (arith, ap (λ t. f (places_of_judged t)) (x.all (λ i h. judged i (omega (arith, h, each))))))

pub fakes-alone : FlagsAsked → FakesAlone
unfolding FlagsAsked FakesAlone
fakes-alone asked L text =
    let x = asked L [] text in (
      same-list _ _ (λ f. omega (arith, ap (λ (t : ArrowStats). f (take 20 (places_of_judged t))) x.none)),
      same-list _ _ (λ f. omega (arith, ap (λ (t : ArrowStats). f (drop 21 (places_of_judged t))) x.none)),
    )
