-- The bounds of a last object row, for whoever carries one, and what follows of its beat. Assumes nothing.
use Rattle.std.proofs.Common.{◌≡◌, ℕ, ◌^◌, ◌≤◌, not, T, refl, arith, lit≤}
use lib.Ieee.{is_nan}
use Rattle.definitions.specs.Beats.{row_to_beat}
use Rattle.definitions.specs.Objects.{place48}
use Rattle.beats.specs.Places.{place_of, Inside, Placed}
use Rattle.std.specs.Prelude.{Option, Some, None}
use Rattle.beats.specs.declared.RowPlace.{RowPlace}
use Rattle.beats.proofs.Last.{row-most, beat-number}

pub placed-nothing : Placed None
placed-nothing = record { inside = λ p e. let z : ◌≡◌ {A = ℕ} 0 1 = cc in absurd (omega arith) }

pub placed_at : (p : RowPlace) → Inside p.measure p.row p.rows → Placed (Some p)
placed_at p h = record { inside = λ q e. let same : p ≡ q = cc in rw (← same) h }

pub placed-most : (o : Option RowPlace) → Placed o → place48 (place_of o) ≤ 2 ^ 39
placed-most None h = lit≤ tt
placed-most (Some p) h = row-most p.measure p.row p.rows (h.inside p refl)

pub placed-number : (o : Option RowPlace) → Placed o → T (not (is_nan (row_to_beat (place48 (place_of o)))))
placed-number o h = beat-number (place48 (place_of o)) (placed-most o h)
