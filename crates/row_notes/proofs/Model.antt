-- The note writer, row by row, ends in the notes that are defined by looking forward.
use mathlib.Core.Path.{◌≡◌, refl, sym, ap, ap₂, subst, ◌∙◌}
use mathlib.Core.Bool.{Bool, true, false, cond}
use mathlib.Core.List.{List, [], ◌∷◌, ◌++◌, map, append-nil, append_assoc}
use Rattle.std.specs.Prelude.{Option, Some, None}
use Prim.Native.Nat.{ℕ, zero, suc, ◌+◌, ◌<◌}
use native.Mathlib.Nat.{zero-add, add-zero}
use native.Mathlib.Omega.{arith}
use lib.Dec.{eqb}
use borrow.Author.Tests.{eqb-true, eq-eqb, ne_eqb}
use Rattle.definitions.specs.Lines.{Row}
use Rattle.definitions.specs.Cells.{cell_of, byte_at}
use Rattle.definitions.specs.Notes.{effect_at, meets, tail_row_of, held_note, cell_notes, row_notes, notes_from}
use Rattle.definitions.specs.declared.Kind.{Kind}
use Rattle.definitions.specs.declared.Note.{Note}
use Rattle.definitions.specs.declared.NoteEffect.{NoteEffect}
use Rattle.definitions.specs.declared.NoteEffect.TheVariants.{Nothing, Closes, Single, Head}
use Rattle.row_notes.specs.Drafts.{State, plain, waiting, ended, NoteDraft, settle_state, settled, settle, step_cell, step_row, step_rows, drafts, gather, note_by, notes_left}

-- ---- gather

pub gather_append : {A B : Type 0} (f : A → List B) (xs ys : List A) → gather f (xs ++ ys) ≡ gather f xs ++ gather f ys
gather_append f [] ys = refl
gather_append f (x ∷ xs) ys = ap (λ (l : List _). f x ++ l) (gather_append f xs ys) ∙ sym (append_assoc (f x) (gather f xs) (gather f ys))

pub gather-map : {A B C : Type 0} (f : B → List C) (g : A → B) (h : A → List C) → ((a : A) → f (g a) ≡ h a)
    → (xs : List A) → gather f (map g xs) ≡ gather h xs
gather-map f g h e [] = refl
gather-map f g h e (x ∷ xs) = ap₂ (λ (a b : List _). a ++ b) (e x) (gather-map f g h e xs)

pub gather-same : {A B : Type 0} (f h : A → List B) → ((a : A) → f a ≡ h a) → (xs : List A) → gather f xs ≡ gather h xs
gather-same f h e [] = refl
gather-same f h e (x ∷ xs) = ap₂ (λ (a b : List _). a ++ b) (e x) (gather-same f h e xs)

-- the notes of a draft, with these rows from row j on still to come
ahead : ℕ → List Row → NoteDraft → List Note
ahead j ts d = note_by d.row d.column d.kind d.state (tail_row_of d.column j ts)

module _ (i : ℕ) (rs : List Row) where
  -- the tail of a head in column k that waits while row i is read, with the cells bs from column c on still to come
  mid_tail : ℕ → ℕ → Row → Option ℕ
  mid_tail k c [] = tail_row_of k (suc i) rs
  mid_tail k c (b ∷ bs) = cond (eqb k c) (meets (effect_at b) i (tail_row_of k (suc i) rs)) (mid_tail k (suc c) bs)

  -- a column that has been passed
  mid-past : (k c : ℕ) (bs : Row) → k < c → mid_tail k c bs ≡ tail_row_of k (suc i) rs
  unfolding mid_tail
  mid-past k c [] h = refl
  mid-past k c (b ∷ bs) h = rw (ne_eqb k c (λ e. omega arith)) (mid-past k (suc c) bs (omega arith))

  -- the whole row still to come
  mid-all : (j c : ℕ) (bs : Row) → mid_tail (c + j) c bs ≡ meets (effect_at (byte_at j bs)) i (tail_row_of (c + j) (suc i) rs)
  unfolding mid_tail effect_at cell_of
  mid-all j c [] = refl
  mid-all zero c (b ∷ bs) = rw (eq-eqb (c + zero) c (add-zero c))
  mid-all (suc j) c (b ∷ bs) =
      let e : suc c + j ≡ c + suc j = omega arith in
      rw (ne_eqb (c + suc j) c (λ e. omega arith))
      (subst (λ k. mid_tail k (suc c) bs ≡ meets (effect_at (byte_at j bs)) i (tail_row_of k (suc i) rs)) e (mid-all j (suc c) bs))

  mid : ℕ → Row → NoteDraft → List Note
  mid c bs d = note_by d.row d.column d.kind d.state (mid_tail d.column c bs)

  -- a head that waits ends with o
  settle-note : (r c : ℕ) (k : Kind) (s : State) (o t : Option ℕ) → note_by r c k (settle_state o s) t ≡ note_by r c k s o
  settle-note r c k plain o t = refl
  settle-note r c k waiting o t = refl
  settle-note r c k (ended x) o t = refl

  -- a cell that ends the heads of its column with o
  settle-mid : (c b : ℕ) (bs : Row) (o : Option ℕ) → ((t : Option ℕ) → meets (effect_at b) i t ≡ o) → (d : NoteDraft)
      → mid (suc c) bs (settle c o d) ≡ mid c (b ∷ bs) d
  unfolding mid mid_tail
  settle-mid c b bs o e d = go (eqb d.column c)
    where
      go : (t : Bool) → mid (suc c) bs (cond t (settled o d) d)
          ≡ note_by d.row d.column d.kind d.state (cond t (meets (effect_at b) i (tail_row_of d.column (suc i) rs)) (mid_tail d.column (suc c) bs))
      go true =
          settle-note d.row d.column d.kind d.state o (mid_tail d.column (suc c) bs)
          ∙ ap (note_by d.row d.column d.kind d.state) (sym (e (tail_row_of d.column (suc i) rs)))
      go false = refl

  -- a cell that says nothing of a head
  pass-mid : (c b : ℕ) (bs : Row) → ((t : Option ℕ) → meets (effect_at b) i t ≡ t) → (d : NoteDraft) → mid (suc c) bs d ≡ mid c (b ∷ bs) d
  unfolding mid mid_tail
  pass-mid c b bs e d = ap (note_by d.row d.column d.kind d.state) (go (eqb d.column c) refl)
    where
      go : (t : Bool) → eqb d.column c ≡ t
          → mid_tail d.column (suc c) bs ≡ cond t (meets (effect_at b) i (tail_row_of d.column (suc i) rs)) (mid_tail d.column (suc c) bs)
      go true q = let h : d.column ≡ c = eqb-true _ _ q in mid-past d.column (suc c) bs (omega arith) ∙ sym (e (tail_row_of d.column (suc i) rs))
      go false q = refl

  step-settle : (c b : ℕ) (bs : Row) (o : Option ℕ) → ((t : Option ℕ) → meets (effect_at b) i t ≡ o) → (ds n : List NoteDraft) (m : List Note)
      → gather (mid (suc c) bs) n ≡ m → gather (mid (suc c) bs) (map (settle c o) ds ++ n) ≡ gather (mid c (b ∷ bs)) ds ++ m
  step-settle c b bs o e ds n m q =
      gather_append (mid (suc c) bs) (map (settle c o) ds) n
      ∙ ap₂ (λ (x y : List Note). x ++ y) (gather-map (mid (suc c) bs) (settle c o) (mid c (b ∷ bs)) (settle-mid c b bs o e) ds) q

  step-pass : (c b : ℕ) (bs : Row) → ((t : Option ℕ) → meets (effect_at b) i t ≡ t) → (ds : List NoteDraft)
      → gather (mid (suc c) bs) (ds ++ []) ≡ gather (mid c (b ∷ bs)) ds ++ []
  step-pass c b bs e ds = simp append-nil (gather-same (mid (suc c) bs) (mid c (b ∷ bs)) (pass-mid c b bs e) ds)

  -- a head that a cell makes
  head-mid : (c : ℕ) (bs : Row) (k : Kind) → held_note i c k (mid_tail c (suc c) bs) ++ [] ≡ held_note i c k (tail_row_of c (suc i) rs)
  head-mid c bs k = append-nil _ ∙ ap (held_note i c k) (mid-past c (suc c) bs (omega arith))

  cell-step : (c b : ℕ) (bs : Row) (x : NoteEffect) → effect_at b ≡ x → (ds : List NoteDraft)
      → gather (mid (suc c) bs) (step_cell i c x ds) ≡ gather (mid c (b ∷ bs)) ds ++ cell_notes x i c (tail_row_of c (suc i) rs)
  unfolding mid
  cell-step c b bs Nothing q ds = step-pass c b bs (λ t. ap (λ (y : NoteEffect). meets y i t) q) ds
  cell-step c b bs Closes q ds = step-settle c b bs (Some i) (λ t. ap (λ (y : NoteEffect). meets y i t) q) ds _ _ refl
  cell-step c b bs (Single k) q ds = step-settle c b bs None (λ t. ap (λ (y : NoteEffect). meets y i t) q) ds _ _ refl
  cell-step c b bs (Head k) q ds = step-settle c b bs None (λ t. ap (λ (y : NoteEffect). meets y i t) q) ds _ _ (head-mid c bs k)

  cells-step : (c : ℕ) (bs : Row) (ds : List NoteDraft)
      → gather (ahead (suc i) rs) (step_row i c bs ds) ≡ gather (mid c bs) ds ++ row_notes i c bs rs
  unfolding mid mid_tail ahead step_row
  cells-step c [] ds = sym (append-nil _)
  cells-step c (b ∷ bs) ds =
      cells-step (suc c) bs (step_cell i c (effect_at b) ds)
      ∙ ap (λ (l : List Note). l ++ row_notes i (suc c) bs rs) (cell-step c b bs (effect_at b) refl ds)
      ∙ append_assoc (gather (mid c (b ∷ bs)) ds) (cell_notes (effect_at b) i c (tail_row_of c (suc i) rs)) (row_notes i (suc c) bs rs)

  row_step : (r : Row) (ds : List NoteDraft)
      → gather (ahead (suc i) rs) (step_row i zero r ds) ≡ gather (ahead i (r ∷ rs)) ds ++ row_notes i zero r rs
  unfolding mid ahead
  row_step r ds =
      cells-step zero r ds
      ∙ ap (λ (l : List Note). l ++ row_notes i zero r rs)
      (gather-same (mid zero r) (ahead i (r ∷ rs))
      (λ d. ap (note_by d.row d.column d.kind d.state) (rw zero-add at (mid-all d.column zero r))) ds)

rows_step : (i : ℕ) (rs : List Row) (ds : List NoteDraft) → notes_left (step_rows i rs ds) ≡ gather (ahead i rs) ds ++ notes_from i rs
unfolding ahead step_rows
rows_step i [] ds = sym (append-nil (gather (ahead i []) ds))
rows_step i (r ∷ rs) ds =
    rows_step (suc i) rs (step_row i zero r ds)
    ∙ ap (λ (l : List Note). l ++ notes_from (suc i) rs) (row_step i rs r ds)
    ∙ append_assoc (gather (ahead i (r ∷ rs)) ds) (row_notes i zero r rs) (notes_from (suc i) rs)

-- the rows' drafts, at the end, are the notes of the definition
pub model : (rs : List Row) → notes_left (drafts rs) ≡ notes_from 0 rs
model rs = rows_step zero rs []
