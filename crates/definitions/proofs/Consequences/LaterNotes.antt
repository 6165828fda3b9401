-- The notes headed after the damaged measure.
use mathlib.Core.Path.{◌≡◌, refl, ap}
use mathlib.Core.List.{List}
use Prim.Native.Nat.{ℕ, ◌+◌}
use native.Mathlib.Omega.{arith}
use lib.ListN.{length}
use Rattle.std.specs.List.{AllZip}
use Rattle.definitions.specs.Damage.{ShiftedTail, Shifted, DamageStays, rows_of, later}
use Rattle.definitions.specs.Consequences.{tail_down, LaterNotes}
use Rattle.definitions.specs.declared.Tail.{Tail}
use Rattle.definitions.specs.declared.Tail.TheVariants as tail
use Rattle.definitions.specs.declared.Note.{Note}
use Rattle.definitions.proofs.Consequences.Places.{each-same}

tails-same : (a b : ℕ) (x y : Tail) → ShiftedTail a b x y → tail_down b x ≡ tail_down a y
tails-same a b tail.Without tail.Without e = refl
tails-same a b tail.Without (tail.Row j) e = absurd e
tails-same a b (tail.Row i) tail.Without e = absurd e
tails-same a b (tail.Row i) (tail.Row j) e = ap tail.Row (omega (arith, e))

pub later-notes : {L d : ℕ} {old new : List ℕ} → DamageStays L d old new → LaterNotes L d old new
later-notes {L} {d} {old} {new} x =
    let a : ℕ = length (rows_of L d old) in
    let b : ℕ = length (rows_of L d new) in
    let each : AllZip (Shifted a b) (later L d old) (later L d new) = search (arith, x.later_notes) in (
      each-same (λ (n : Note). n.column) (λ (n : Note). n.column) (λ n m s. s.column) (later L d old) (later L d new) each,
      each-same (λ (n : Note). n.kind) (λ (n : Note). n.kind) (λ n m s. s.kind) (later L d old) (later L d new) each,
      each-same (λ (n : Note). n.row + b) (λ (n : Note). n.row + a) (λ n m s. omega (arith, s.row)) (later L d old) (later L d new) each,
      each-same (λ (n : Note). tail_down b n.tail) (λ (n : Note). tail_down a n.tail) (λ n m s. tails-same a b n.tail m.tail s.tail) (later L d old) (later L d new) each,
    )
