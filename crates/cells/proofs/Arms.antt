-- What an arm of a `match` over a cell knows, its tag or a choice of tags, carried to any function of the cell.
use mathlib.Core.Path.{◌≡◌, refl, ap, sym, ◌∙◌}
use mathlib.Core.List.{List, [], ◌∷◌, map}
use mathlib.Core.Logic.{inl, inr}
use Prim.Native.Nat.{ℕ}
use lib.ListN.{get_or}
use denote.Enum.Declared.{tag_of}
use types.Run.{OneOf}
use Rattle.definitions.specs.declared.Cell.{Cell}
use Rattle.definitions.specs.declared.Cell.TheVariants.{Empty, Tap, Hold, Tail, Roll, Mine, Lift, Fake, KeySound, LowerMine, LowerLift, LowerFake}
use Rattle.definitions.specs.contracts.Cell.{the_type}

abbrev pub tag : Cell → ℕ
tag x = tag_of the_type x

-- the cell of a tag
abbrev pub tagged : ℕ → Cell
tagged k =
    get_or
    (Empty ∷ Tap ∷ Hold ∷ Tail ∷ Roll ∷ Mine ∷ Lift ∷ Fake ∷ KeySound ∷ LowerMine ∷ LowerLift ∷ LowerFake ∷ [])
    k
    Empty

tag_back : (x : Cell) → x ≡ tagged (tag x)
tag_back Empty = refl
tag_back Tap = refl
tag_back Hold = refl
tag_back Tail = refl
tag_back Roll = refl
tag_back Mine = refl
tag_back Lift = refl
tag_back Fake = refl
tag_back KeySound = refl
tag_back LowerMine = refl
tag_back LowerLift = refl
tag_back LowerFake = refl

-- where f is v at the cells of some tags, it is v at a cell that has one of them
module _ {B : Type 0} (f : Cell → B) (v : B) where
  at_tag : (k : ℕ) {x y : Cell} → x ≡ y → tag x ≡ k → f (tagged k) ≡ v → v ≡ f y
  at_tag k {x} e t h = sym h ∙ ap f (ap tagged (sym t) ∙ sym (tag_back x) ∙ e)

  pub arm : (k : ℕ) (ks : List ℕ) {x y : Cell} → x ≡ y → OneOf (k ∷ ks) (tag x)
      → map (λ j. f (tagged j)) (k ∷ ks) ≡ map (λ (j : ℕ). v) (k ∷ ks)
      → v ≡ f y
  arm k [] e t h = let a : f (tagged k) ≡ v = cc in at_tag k e t a
  arm k (j ∷ ks) e (inl t) h = let a : f (tagged k) ≡ v = cc in at_tag k e t a
  arm k (j ∷ ks) e (inr o) h =
      let r : map (λ j. f (tagged j)) (j ∷ ks) ≡ map (λ (j : ℕ). v) (j ∷ ks) = cc in
      arm j ks e o r
