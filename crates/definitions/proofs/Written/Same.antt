-- Lists and tests by numbers: two are the same if each number that is made of them is.
use mathlib.Core.Path.{◌≡◌, refl}
use mathlib.Core.Bool.{Bool, true, false}
use mathlib.Core.List.{List, []}
use Prim.Native.Nat.{ℕ}
use native.Mathlib.Omega.{arith}
use lib.ListN.{length, get_or}
use Rattle.std.proofs.lemmas.List.{ext_get_or}
use Rattle.definitions.specs.Lists.{number_of_bool}
use Rattle.definitions.specs.DroppedOrNoted.{listed}

pub same-list : (s t : List ℕ) → ((f : List ℕ → ℕ) → f s ≡ f t) → s ≡ t
same-list s t h = ext_get_or 0 s t (h length) (λ k w. h (λ l. get_or l k 0))

pub same-test : (a b : Bool) → number_of_bool a ≡ number_of_bool b → a ≡ b
same-test true true e = refl
same-test true false e = absurd (omega arith)
same-test false true e = absurd (omega arith)
same-test false false e = refl

pub is-true : (a : Bool) → number_of_bool a ≡ 1 → a ≡ true
is-true a e = same-test a true e

pub is-false : (a : Bool) → number_of_bool a ≡ 0 → a ≡ false
is-false a e = same-test a false e

pub none-listed : (i c : ℕ) → listed i c [] ≡ 0
none-listed i c = refl
