-- Lists that rise, one element after the other.
use mathlib.Core.Path.{◌≡◌, refl}
use mathlib.Core.Bool.{Bool, true, false, ◌&&◌, not}
use mathlib.Core.List.{List, [], ◌∷◌}
use Prim.Native.Nat.{ℕ, ◌%◌}
use lib.Dec.{eqb, leb}
use lib.ListN.{length}
use Rattle.std.specs.Prelude.{Option, None, Some}
use Rattle.std.proofs.lemmas.Bool.{or_parts}
use Rattle.definitions.specs.Presses.{presses_in, presses_rise, columns_fit, bad_trace}
use Rattle.definitions.proofs.Bools.{and_left, and_right}
use Rattle.definitions.specs.declared.Press.{Press}
use Rattle.presses.specs.Reached.{falls}

-- presses that come after one do not fall, and have their columns
abbrev pub climb_after : Option Press → List Press → Bool
climb_after None ps = presses_rise ps
climb_after (Some q) ps = presses_rise (q ∷ ps)

abbrev pub fits_after : Option Press → List Press → Bool
fits_after last ps = columns_fit ps && climb_after last ps

pub fits-next : (last : Option Press) (p : Press) (ps : List Press) → leb p.column 9 ≡ true → falls last p ≡ false → fits_after last (p ∷ ps) ≡ fits_after (Some p) ps
fits-next None p ps h g = rw h refl
fits-next (Some q) p ps h g = rw (h, g) refl

pub fits-wide : (last : Option Press) (p : Press) (ps : List Press) → leb p.column 9 ≡ false → fits_after last (p ∷ ps) ≡ false
fits-wide last p ps h = rw h refl

pub fits-falls : (last : Option Press) (p : Press) (ps : List Press) → falls last p ≡ true → fits_after last (p ∷ ps) ≡ false
fits-falls None p ps g = cc
fits-falls (Some q) p ps g = rw g (none (columns_fit (p ∷ ps)))
  where
    none : (x : Bool) → (x && false) ≡ false
    none true = refl
    none false = refl

pub fits-end : (last : Option Press) → fits_after last [] ≡ true
fits-end None = refl
fits-end (Some q) = refl

-- a trace that is right
trace-right : (t : List ℕ) → bad_trace t ≡ false → (columns_fit (presses_in t) && presses_rise (presses_in t)) ≡ true
unfolding bad_trace
trace-right t e =
    not-false (columns_fit (presses_in t) && presses_rise (presses_in t)) (or_parts (not (eqb (length t % 5) 0)) (not (columns_fit (presses_in t) && presses_rise (presses_in t))) e).1
  where
    not-false : (b : Bool) → not b ≡ false → b ≡ true
    not-false true h = refl
    not-false false h = cc

pub narrow-trace : (t : List ℕ) → bad_trace t ≡ false → columns_fit (presses_in t) ≡ true
narrow-trace t e = and_left (columns_fit (presses_in t)) (presses_rise (presses_in t)) (trace-right t e)

pub rising-trace : (t : List ℕ) → bad_trace t ≡ false → presses_rise (presses_in t) ≡ true
rising-trace t e = and_right (columns_fit (presses_in t)) (presses_rise (presses_in t)) (trace-right t e)
