-- What a record says without a look at its tail: where its note stands, and whether it is played.
use mathlib.Core.Path.{◌≡◌, refl, ap, subst, ◌∙◌}
use mathlib.Core.Bool.{Bool, true, false, cond}
use Prim.Native.Nat.{ℕ}
use lib.Dec.{eqb, leb, ltb}
use borrow.Author.Tests.{eqb-true}
use Rattle.std.specs.Prelude.{Result, Ok, Err, IfOk, List, slice_index}
use Rattle.definitions.specs.Sizes.{row_numbers_bound}
use Rattle.definitions.specs.Records.{word, plain_of, held_of, note_of}
use Rattle.definitions.specs.Presses.{is_played}
use Rattle.definitions.specs.PressClaims.{press_on}
use Rattle.definitions.specs.declared.Kind.{Kind}
use Rattle.definitions.specs.declared.Kind.TheVariants.{Tap, Hold, Roll, Mine, Lift, Fake}
use Rattle.definitions.specs.declared.Tail.TheVariants as tail
use Rattle.definitions.specs.declared.Note.{Note}
use Rattle.definitions.specs.declared.Press.{Press}
use Rattle.definitions.specs.declared.Refusal.{Refusal}
use Rattle.definitions.specs.declared.Refusal.TheVariants.{BadRecord}
use Rattle.note_records.specs.Chunks.{note_of_bytes}

-- a note stands at that row and column, and is played where its kind's number is at most 2
pub record Reads (row c k : ℕ) (n : Note) : Type 0 where
  pub place : record { row = row; column = c } ≡ press_on n
  pub played : leb k 2 ≡ is_played n.kind

-- what is read of a record's fields does
abbrev pub ReadAs : ℕ → ℕ → ℕ → Result Note Refusal → Type 0
ReadAs row c k (Ok n) = Reads row c k n
ReadAs row c k (Err r) = Unit {0}

plain-read : (row t c k : ℕ) (kind : Kind) → leb k 2 ≡ is_played kind → ReadAs row c k (plain_of row t c kind)
plain-read row t c k kind p = go (eqb t 4294967295)
  where
    go : (x : Bool) → ReadAs row c k (cond x (Ok (record { row = row; tail = tail.Without; column = c; kind = kind })) (Err BadRecord))
    go true = record { place = refl; played = p }
    go false = tt

held-read : (row t c k : ℕ) (kind : Kind) → leb k 2 ≡ is_played kind → ReadAs row c k (held_of row t c kind)
held-read row t c k kind p = go (ltb row t) (ltb t row_numbers_bound)
  where
    go : (x y : Bool) → ReadAs row c k (cond x (cond y (Ok (record { row = row; tail = tail.Row t; column = c; kind = kind })) (Err BadRecord)) (Err BadRecord))
    go true true = record { place = refl; played = p }
    go true false = tt
    go false y = tt

pub note-read : (row t c k : ℕ) → ReadAs row c k (note_of row t c k)
unfolding note_of
note-read row t c k = go (leb 10 c) (leb row_numbers_bound row) (eqb k 0) refl (eqb k 1) refl (eqb k 2) refl (eqb k 3) refl (eqb k 4) refl (eqb k 5) refl
  where
    of : (i : ℕ) → eqb k i ≡ true → (b : Bool) → leb i 2 ≡ b → leb k 2 ≡ b
    of i e b p = ap (λ j. leb j 2) (eqb-true k i e) ∙ p

    go : (x y k0 : Bool) → eqb k 0 ≡ k0 → (k1 : Bool) → eqb k 1 ≡ k1 → (k2 : Bool) → eqb k 2 ≡ k2 → (k3 : Bool) → eqb k 3 ≡ k3 → (k4 : Bool) → eqb k 4 ≡ k4 → (k5 : Bool) → eqb k 5 ≡ k5
        → ReadAs row c k (cond x (Err BadRecord) (cond y (Err BadRecord) (cond k0 (plain_of row t c Tap) (cond k1 (held_of row t c Hold) (cond k2 (held_of row t c Roll)
        (cond k3 (plain_of row t c Mine) (cond k4 (plain_of row t c Lift) (cond k5 (plain_of row t c Fake) (Err BadRecord)))))))))
    go true y k0 e0 k1 e1 k2 e2 k3 e3 k4 e4 k5 e5 = tt
    go false true k0 e0 k1 e1 k2 e2 k3 e3 k4 e4 k5 e5 = tt
    go false false true e0 k1 e1 k2 e2 k3 e3 k4 e4 k5 e5 = plain-read row t c k Tap (of 0 e0 true refl)
    go false false false e0 true e1 k2 e2 k3 e3 k4 e4 k5 e5 = held-read row t c k Hold (of 1 e1 true refl)
    go false false false e0 false e1 true e2 k3 e3 k4 e4 k5 e5 = held-read row t c k Roll (of 2 e2 true refl)
    go false false false e0 false e1 false e2 true e3 k4 e4 k5 e5 = plain-read row t c k Mine (of 3 e3 false refl)
    go false false false e0 false e1 false e2 false e3 true e4 k5 e5 = plain-read row t c k Lift (of 4 e4 false refl)
    go false false false e0 false e1 false e2 false e3 false e4 true e5 = plain-read row t c k Fake (of 5 e5 false refl)
    go false false false e0 false e1 false e2 false e3 false e4 false e5 = tt

-- so what is read of ten bytes is told by five of them
module _ (r : List ℕ) where
  read-here : ReadAs (word r 0) (slice_index r 8) (slice_index r 9) (note_of_bytes r)
  read-here = note-read (word r 0) (word r 4) (slice_index r 8) (slice_index r 9)

  pub on-note : (row column : ℕ) → row ≡ word r 0 → column ≡ slice_index r 8 → IfOk (note_of_bytes r) (λ n. ◌≡◌ {A = Press} (record { row = row; column = column }) (press_on n))
  on-note row column e f = go (note_of_bytes r) read-here
    where
      same : ◌≡◌ {A = Press} (record { row = row; column = column }) (record { row = word r 0; column = slice_index r 8 })
      same = rw (e, f) refl

      go : (x : Result Note Refusal) → ReadAs (word r 0) (slice_index r 8) (slice_index r 9) x → IfOk x (λ n. ◌≡◌ {A = Press} (record { row = row; column = column }) (press_on n))
      go (Ok n) k = same ∙ k.place
      go (Err z) k = tt

  pub played-note : IfOk (note_of_bytes r) (λ n. leb (slice_index r 9) 2 ≡ is_played n.kind)
  played-note = go (note_of_bytes r) read-here
    where
      go : (x : Result Note Refusal) → ReadAs (word r 0) (slice_index r 8) (slice_index r 9) x → IfOk x (λ n. leb (slice_index r 9) 2 ≡ is_played n.kind)
      go (Ok n) k = k.played
      go (Err z) k = tt

-- what holds of the note that is read, where it is read
pub of-note : (P : Note → Type 0) (x : Result Note Refusal) (n : Note) → x ≡ Ok n → IfOk x P → P n
of-note P x n e h = subst (λ y. IfOk y P) e h
