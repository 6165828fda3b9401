-- Minimising drops only rows that are all zero.
use mathlib.Core.Path.{◌≡◌}
use mathlib.Core.Bool.{Bool, true, false, ◌||◌}
use mathlib.Core.List.{List, [], ◌∷◌, ◌++◌, map}
use Prim.Native.Nat.{ℕ, suc}
use lib.ListN.{length}
use Rattle.definitions.specs.Lists.{joined, only_if}
use Rattle.definitions.specs.Lines.{Row}
use Rattle.definitions.specs.Reduction.{all_zero, multiple, off_zero, at_multiples, stride, reduce}
use Rattle.definitions.proofs.Reduction.{stride-is}
use Rattle.definitions.proofs.Bools.{and_left, and_right}
use Rattle.definitions.proofs.Lists.{All, none as no_more, one}

-- the second list is the first without some rows that are all zero
pub data Thinned : List Row → List Row → Type 0 where
  none : Thinned [] []
  keep : {r : Row} {s t : List Row} → Thinned s t → Thinned (r ∷ s) (r ∷ t)
  leave : {r : Row} {s t : List Row} → all_zero r ≡ true → Thinned s t → Thinned (r ∷ s) t

thinned-append : {s t u v : List Row} → Thinned s t → Thinned u v → Thinned (s ++ u) (t ++ v)
thinned-append none q = q
thinned-append (keep p) q = keep (thinned-append p q)
thinned-append (leave z p) q = leave z (thinned-append p q)

multiples-thin : (s i : ℕ) (rs : List Row) → off_zero s i rs ≡ true → Thinned rs (at_multiples s i rs)
multiples-thin s i [] h = none
multiples-thin s i (r ∷ rs) h =
    go (multiple s i) (and_left _ (off_zero s (suc i) rs) h) (multiples-thin s (suc i) rs (and_right (multiple s i || all_zero r) _ h))
  where
    go : (t : Bool) → (t || all_zero r) ≡ true → Thinned rs (at_multiples s (suc i) rs)
        → Thinned (r ∷ rs) (only_if t (r ∷ []) ++ at_multiples s (suc i) rs)
    go true z p = keep p
    go false z p = leave z p

pub reduce-thin : (rs : List Row) → Thinned rs (reduce rs)
unfolding reduce
reduce-thin [] = none
reduce-thin (r ∷ rs) =
    multiples-thin (stride (r ∷ rs)) 0 (r ∷ rs) (and_right (multiple (stride (r ∷ rs)) (length (r ∷ rs))) _ (stride-is r rs).allowed)

pub reduced-thin : (ms : List (List Row)) → Thinned (joined ms) (joined (map reduce ms))
reduced-thin [] = none
reduced-thin (m ∷ ms) = thinned-append (reduce-thin m) (reduced-thin ms)

-- what holds of each row holds of those that stay
thinned-all : {P : Row → Type 0} {s t : List Row} → Thinned s t → All P s → All P t
thinned-all none q = no_more
thinned-all (keep p) (one h q) = one h (thinned-all p q)
thinned-all (leave z p) (one h q) = thinned-all p q

pub reduce-all : {P : Row → Type 0} {rs : List Row} → All P rs → All P (reduce rs)
reduce-all {P} {rs} h = thinned-all (reduce-thin rs) h
