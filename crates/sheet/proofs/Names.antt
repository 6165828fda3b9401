-- The names of a tally's fields have at most twelve bytes.
use Rattle.std.proofs.Common.{◌≡◌, refl, ℕ, zero, suc, ◌≤◌, Bool, true, false, ◌&&◌, List, [], ◌∷◌, length, get_or, arith}
use Rattle.std.specs.Prelude.{leb}
use Rattle.std.proofs.lemmas.Bool.{leb-true}
use Rattle.definitions.specs.declared.ArrowStats.{ArrowStats}
use Rattle.sheet.specs.Sheet.{named_fields, field_at}

-- as a test
abbrev short : List (List ℕ × ℕ) → Bool
short [] = true
short (f ∷ fs) = leb (length f.0) 12 && short fs

name-short : (fs : List (List ℕ × ℕ)) (i : ℕ) → short fs ≡ true → length (get_or fs i ([], 0)).0 ≤ 12
name-short [] i e = omega arith
name-short (f ∷ fs) zero e = go (leb (length f.0) 12) refl e
  where
    go : (t : Bool) → leb (length f.0) 12 ≡ t → (t && short fs) ≡ true → length f.0 ≤ 12
    go true h g = leb-true (length f.0) 12 h
    go false h g = cc
name-short (f ∷ fs) (suc i) e = go (leb (length f.0) 12) e (λ g. name-short fs i g)
  where
    go : (t : Bool) → (t && short fs) ≡ true → (short fs ≡ true → length (get_or fs i ([], 0)).0 ≤ 12) → length (get_or fs i ([], 0)).0 ≤ 12
    go true g rest = rest g
    go false g rest = cc

pub field-name : (t : ArrowStats) (i : ℕ) → length (field_at t i).0 ≤ 12
unfolding named_fields
field-name t i = name-short (named_fields t) i refl
