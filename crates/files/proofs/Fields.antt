-- The data of a block, as the loop of `note_data` meets its fields: what is left when some have ended.
use mathlib.Core.Path.{◌≡◌, refl, ap}
use mathlib.Core.Bool.{Bool, true, false, cond}
use mathlib.Core.List.{List, [], ◌∷◌}
use Prim.Native.Nat.{ℕ, suc, ◌+◌, ◌<◌}
use native.Mathlib.Decide.{dec_lt}
use native.Mathlib.Omega.{arith}
use lib.Dec.{eqb, ltb}
use borrow.Author.Tests.{lt-ltb, le-ltb}
use Rattle.std.specs.Prelude.{Option, Some, None}
use Rattle.definitions.specs.Lists.{number_of_bool, after, after_each}
use Rattle.definitions.specs.SmFile.{colons, data_of}
use Rattle.definitions.proofs.Lists.{after-cons, count-cons}
use Rattle.files.specs.Tags.{after_first}
use Rattle.files.specs.Sm.{data_part}

-- what follows n fields, if so many end
abbrev pub part_from : ℕ → List ℕ → Option (List ℕ)
part_from n s = cond (ltb (colons s) n) None (Some (after_each 58 n s))

pub part-all : (s : List ℕ) → data_part s ≡ part_from 5 s
unfolding data_part data_of
part-all s = refl

-- where no field ends
colons-none : (s : List ℕ) → after_first 58 s ≡ None → colons s ≡ 0
unfolding colons
colons-none [] e = refl
colons-none (x ∷ s) e = rw (count-cons (λ x. eqb x 58) x s) (go (eqb x 58) (colons-none s) e)
  where
    go : (t : Bool) → (after_first 58 s ≡ None → colons s ≡ 0) → cond t (Some s) (after_first 58 s) ≡ None → number_of_bool t + colons s ≡ 0
    go true ih w = let z : ◌≡◌ {A = ℕ} 0 1 = cc in absurd (omega arith)
    go false ih w = omega (arith, ih w)

pub part-few : (n : ℕ) (s : List ℕ) → 0 < n → after_first 58 s ≡ None → part_from n s ≡ None
part-few n s h e = simp (lt-ltb (colons s) n (omega (arith, colons-none s e)))

-- where one ends
colons-some : (s t : List ℕ) → after_first 58 s ≡ Some t → (colons s ≡ suc (colons t)) × (after 58 s ≡ t)
unfolding colons
colons-some [] t e = let z : ◌≡◌ {A = ℕ} 0 1 = cc in absurd (omega arith)
colons-some (x ∷ s) t e = rw (after-cons 58 x s, count-cons (λ x. eqb x 58) x s) (go (eqb x 58) (colons-some s t) e)
  where
    go : (b : Bool) → (after_first 58 s ≡ Some t → (colons s ≡ suc (colons t)) × (after 58 s ≡ t)) → cond b (Some s) (after_first 58 s) ≡ Some t
        → (number_of_bool b + colons s ≡ suc (colons t)) × (cond b s (after 58 s) ≡ t)
    go true ih w = let same : s ≡ t = cc in (omega (arith, ap colons same), same)
    go false ih w = let h = ih w in (omega (arith, h.0), h.1)

less : (a b : ℕ) → ltb (suc a) (suc b) ≡ ltb a b
less a b = elim (dec_lt a b) [
  | yes h ↦ simp (lt-ltb (suc a) (suc b) (omega arith), lt-ltb a b h)
  | no h ↦ simp (le-ltb (suc a) (suc b) (omega arith), le-ltb a b (omega arith))
]

pub part-next : (n : ℕ) (s t : List ℕ) → after_first 58 s ≡ Some t → part_from (suc n) s ≡ part_from n t
part-next n s t e =
    let h = colons-some s t e in
    rw (h.0, h.1, less (colons t) n) refl
