-- When a tally is counted anew, by the struct that has counted its rows.
use mathlib.Core.Path.{◌≡◌, refl, ap, ap₂, sym, ◌∙◌}
use mathlib.Core.Bool.{Bool, ◌&&◌, ◌||◌, not, or-false, or_assoc}
use mathlib.Core.List.{List, [], ◌∷◌, ◌++◌}
use Prim.Native.Nat.{ℕ, zero, suc, ◌≤◌}
use native.Mathlib.Omega.{arith}
use lib.Dec.{eqb, ltb}
use lib.ListN.{length, take, get_or, get_or-eq_default}
use lib.Seq.{take-suc, take_all}
use native.Mathlib.Decide.{dec_lt}
use Rattle.std.specs.List.{list_any}
use Rattle.definitions.specs.Lists.{some_column}
use Rattle.definitions.specs.Lines.{Row}
use Rattle.definitions.specs.Correction.{phantom_after, phantom_met, corrects}
use Rattle.phantoms.specs.Phantoms.{phantom_at, Counts}
use Rattle.phantoms.specs.declared.Phantoms.{Phantoms}
use Rattle.phantoms.proofs.Columns.{column-same, column-or}

-- a phantom depth of the first L columns is left over
abbrev left_over : ℕ → Phantoms → Bool
left_over L p = some_column L (λ c. ltb 0 (phantom_at p c))

-- so is one of the first L depths of the struct, of which there may be fewer
pub any_left : (l : List ℕ) (n : ℕ) → list_any (λ d. ltb 0 d) (take n l) ≡ some_column n (λ c. ltb 0 (get_or l c 0))
any_left l zero = refl
any_left l (suc n) = one ∙ ap (λ t. t || ltb 0 (get_or l n 0)) (any_left l n)
  where
    snoc : (xs : List ℕ) (y : ℕ) → list_any (λ d. ltb 0 d) (xs ++ (y ∷ [])) ≡ (list_any (λ d. ltb 0 d) xs || ltb 0 y)
    snoc [] y = or-false (ltb 0 y)
    snoc (x ∷ xs) y = ap (λ t. ltb 0 x || t) (snoc xs y) ∙ sym (or_assoc (ltb 0 x) (list_any (λ d. ltb 0 d) xs) (ltb 0 y))

    one : list_any (λ d. ltb 0 d) (take (suc n) l) ≡ (list_any (λ d. ltb 0 d) (take n l) || ltb 0 (get_or l n 0))
    one = elim (dec_lt n (length l)) [
      | yes h ↦ rw (take-suc l n 0 (omega (arith, h))) (snoc (take n l) (get_or l n 0))
      | no h ↦
          let all : length l ≤ n = omega (arith, h) in
          let more : length l ≤ suc n = omega (arith, h) in
          rw (take_all (suc n) l more, take_all n l all, get_or-eq_default l 0 all, or-false (list_any (λ d. ltb 0 d) l)) refl
    ]

module _ (p : Phantoms) (L : ℕ) (rows : List Row) (k : Counts L rows p) where
  columns : some_column L (λ c. phantom_met c 0 rows || ltb 0 (phantom_after c 0 rows)) ≡ (p.met || left_over L p)
  columns =
      column-or L (λ c. phantom_met c 0 rows) (λ c. ltb 0 (phantom_after c 0 rows))
      ∙ ap₂ ◌||◌ (sym k.met) (column-same L _ _ (λ c h. rw (k.depths c h)))

  pub by-counts : corrects L rows ≡ (ltb 0 p.heads && ((not (eqb p.heads p.tails) || p.met) || left_over L p))
  unfolding corrects
  by-counts = rw (columns, ← k.heads, ← k.tails, or_assoc) refl
