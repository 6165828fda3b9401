-- Notes of rows that part into ps and q, by what is made of rows.
use mathlib.Core.Path.{◌≡◌, refl, ap, sym, ◌∙◌, subst₂}
use mathlib.Core.Logic.{◌⊎◌, inl, inr}
use mathlib.Core.Bool.{true, false, ◌&&◌, not, true≢false}
use mathlib.Core.List.{List, [], ◌++◌}
use Prim.Native.Nat.{ℕ, ◌+◌}
use lib.Dec.{eqb, ltb, leb}
use lib.ListN.{length, length-append}
use Rattle.std.specs.List.{filter, AllZip}
use native.Mathlib.Omega.{arith}
use Rattle.definitions.specs.Lines.{Row}
use Rattle.definitions.specs.Notes.{held_note, notes_from}
use Rattle.definitions.specs.Dropped.{fate_of, made_from}
use Rattle.definitions.specs.declared.Kind.{Kind}
use Rattle.definitions.specs.declared.Note.{Note}
use Rattle.definitions.specs.declared.NoteEffect.{NoteEffect}
use Rattle.definitions.specs.declared.NoteEffect.TheVariants.{Nothing, Closes, Single, Head}
use Rattle.definitions.specs.declared.Fate.{Fate}
use Rattle.definitions.specs.declared.Fate.TheVariants.{ClosedAt, DroppedBy}
use Rattle.definitions.proofs.Lists.{All, none, one}
use Rattle.definitions.specs.Damage.{Shifted, head_kind, byte_in, open_in, MissingOrLate}
use Rattle.definitions.proofs.Fates.{tail_by, cell_noted, notes-made}
use Rattle.definitions.proofs.Damage.Bytes.{heading}
use Rattle.definitions.proofs.Damage.Made.{ShiftedFate, closes, drops, LateFate, late-fate, made_in, open-made}
use Rattle.definitions.proofs.Damage.Made as made

abbrev row_of : Note → ℕ
row_of x = x.row

abbrev column_of : Note → ℕ
column_of x = x.column

held_at : (i c : ℕ) (k : Kind) (f : Fate) → All (λ (a : Note). (a.row ≡ i) × (a.column ≡ c)) (held_note i c k (tail_by f))
held_at i c k (ClosedAt j) = one (refl, refl) none
held_at i c k (DroppedBy x) = none

pub cell_at : (x : NoteEffect) (i c : ℕ) (f : Fate) → All (λ (a : Note). (a.row ≡ i) × (a.column ≡ c)) (cell_noted x i c f)
cell_at Nothing i c f = none
cell_at Closes i c f = none
cell_at (Single k) i c f = one (refl, refl) none
cell_at (Head k) i c f = held_at i c k f

others-same : (x : NoteEffect) → heading x ≡ false → (i c : ℕ) (f g : Fate) → cell_noted x i c f ≡ cell_noted x i c g
others-same Nothing h i c f g = refl
others-same Closes h i c f g = refl
others-same (Single k) h i c f g = refl
others-same (Head k) h i c f g = absurd (true≢false h)

-- what is headed in rows numbered from i, with the rows q after them
abbrev pub headed : ℕ → List Row → List Row → List Note
headed i rs q = made_in row_of column_of cell_noted cell_at i rs q

-- notes headed before q, and in q
pub before-part : (ps q : List Row) → filter (λ x. ltb x.row (length ps)) (notes_from 0 (ps ++ q)) ≡ headed 0 ps q
before-part ps q = ap (filter (λ (x : Note). ltb x.row (length ps))) (notes-made 0 (ps ++ q)) ∙ made.before-part row_of column_of cell_noted cell_at ps q

pub after-part : (ps q : List Row) → filter (λ x. leb (length ps) x.row) (notes_from 0 (ps ++ q)) ≡ notes_from (length ps) q
after-part ps q =
    ap (filter (λ (x : Note). leb (length ps) x.row)) (notes-made 0 (ps ++ q)) ∙ made.after-part row_of column_of cell_noted cell_at ps q ∙ sym (notes-made (length ps) q)

-- later notes: the same rows under other numbers
module _ (a b : ℕ) where
  cell-shift : (x : NoteEffect) (i j c : ℕ) → j + a ≡ i + b → (f g : Fate) → ShiftedFate a b f g → AllZip (Shifted a b) (cell_noted x i c f) (cell_noted x j c g)
  cell-shift Nothing i j c e f g h = tt
  cell-shift Closes i j c e f g h = tt
  cell-shift (Single k) i j c e f g h = (record { row = omega (arith, e); tail = tt; column = refl; kind = refl }, tt)
  cell-shift (Head k) i j c e _ _ (closes w) = (record { row = omega (arith, e); tail = omega (arith, w); column = refl; kind = refl }, tt)
  cell-shift (Head k) i j c e _ _ (drops w) = tt

  pub notes-shift : (i j : ℕ) → j + a ≡ i + b → (rs : List Row) → AllZip (Shifted a b) (notes_from i rs) (notes_from j rs)
  notes-shift i j e rs =
      subst₂ (AllZip (Shifted a b)) (sym (notes-made i rs)) (sym (notes-made j rs))
      (made.made-shift row_of column_of cell_noted cell_at (Shifted a b) a b cell-shift i j e rs)

pub earlier-left : (ps q q' : List Row)
    → filter (λ x. not (open_in ps x.row x.column)) (headed 0 ps q) ≡ filter (λ x. not (open_in ps x.row x.column)) (headed 0 ps q')
earlier-left ps q q' = made.earlier-left row_of column_of cell_noted cell_at others-same ps q q'

-- the note of a head that nothing stops before q, if it has one, has its tail in q
pub open-head : (i c : ℕ) (ps q : List Row) → open_in ps i c ≡ true
    → MissingOrLate (length ps) (length (ps ++ q)) i c (head_kind (byte_in ps i c)) (notes_from 0 (ps ++ q))
unfolding MissingOrLate
open-head i c ps q h =
    go (fate_of c (length ps) q) (late-fate c (length ps) (length (ps ++ q)) q (sym (length-append ps q)))
    (open-made row_of column_of cell_noted cell_at i c ps q h)
  where
    k : Kind
    k = head_kind (byte_in ps i c)

    go : (f : Fate) → LateFate (length ps) (length (ps ++ q)) f
        → (filter (λ (x : Note). eqb x.row i && eqb x.column c) (made_from cell_noted 0 (ps ++ q)) ≡ [])
        ⊎ (filter (λ (x : Note). eqb x.row i && eqb x.column c) (made_from cell_noted 0 (ps ++ q)) ≡ held_note i c k (tail_by f))
        → MissingOrLate (length ps) (length (ps ++ q)) i c k (notes_from 0 (ps ++ q))
    go f late (inl p) = rw (notes-made 0 (ps ++ q)) (inl p)
    go (ClosedAt j) late (inr p) = rw (notes-made 0 (ps ++ q)) (inr (j, omega (arith, late.0), omega (arith, late.1), p))
    go (DroppedBy x) late (inr p) = rw (notes-made 0 (ps ++ q)) (inl p)
