-- A row's cells, one after the other, and one row more.
use mathlib.Core.Path.{◌≡◌, refl, sym, ap, subst, ◌∙◌}
use mathlib.Core.Bool.{false}
use mathlib.Core.List.{List, [], ◌∷◌, ◌++◌, append-nil}
use Prim.Native.Nat.{ℕ, zero, suc, ◌+◌, ◌*◌, ◌≤◌, ◌<◌}
use native.Mathlib.Nat.{add-zero, add-suc, suc-add, zero-add, suc-mul}
use native.Mathlib.Numerals.{add-one}
use native.Mathlib.Omega.{arith}
use lib.ListN.{length, get_or, drop, drop_of_length-le, replicate, get_or-replicate, length-append}
use lib.Seq.{drop-cons}
use Rattle.definitions.specs.Sizes.{row_numbers_bound}
use Rattle.definitions.specs.Lists.{joined}
use Rattle.definitions.specs.Lines.{Row}
use Rattle.definitions.specs.Notes.{effect_at}
use Rattle.definitions.specs.declared.NoteEffect.{NoteEffect}
use Rattle.definitions.proofs.Lists.{All, none, one}
use Rattle.row_notes.specs.Drafts.{NoteDraft, step_cell, step_row, step_rows, drafts}
use Rattle.row_notes.specs.Writer.{no_head, Stored, DraftsHeld, NoteReady, NoteStepped}
use Rattle.row_notes.specs.Written.{Written, RecordRoom}
use Rattle.row_notes.specs.declared.ChartNotesScratch.{ChartNotesScratch}

-- before the first row
pub none-stored : (l : List ℕ) → Stored l (replicate 10 no_head) 0 false []
none-stored l = record {
  count = refl;
  few = omega arith;
  rest = l;
  bytes = refl;
  ten = refl;
  waits = λ k h w. absurd (omega arith);
  heads = λ c h ne. absurd (ne (get_or-replicate 10 c no_head 0 h));
  fine = λ k h. absurd (omega arith);
  clean = λ q k h. absurd (omega arith);
}

-- From the state s with the slice l: the cells of the row up to column c are done in the state r with the slice l'.
pub record Midrow (l : List ℕ) (s : ChartNotesScratch) (l' : List ℕ) (r : ChartNotesScratch) (c : ℕ) (row : Row) : Type 0 where
  pub inside : c ≤ length row
  pub same : length l' ≡ length l
  pub bound : r.count ≤ s.count + c
  pub index : r.row_index ≡ s.row_index
  pub part : (ds : List NoteDraft) → DraftsHeld l s ds
      → (es : List NoteDraft) × DraftsHeld l' r es × (step_row s.row_index c (drop c row) es ≡ step_row s.row_index zero row ds)

pub mid_start : (l : List ℕ) (s : ChartNotesScratch) (row : Row) → Midrow l s l s 0 row
mid_start l s row = record { inside = omega arith; same = refl; bound = omega arith; index = refl; part = λ ds S. (ds, S, refl) }

module _ (l : List ℕ) (s : ChartNotesScratch) (l' : List ℕ) (r : ChartNotesScratch) (c : ℕ) (row : Row) (M : Midrow l s l' r c row) where
  pub mid-ready : RecordRoom s row l → c < length row → NoteReady l' r c
  mid-ready R h =
      let P = M.part (drafts R.rows) R.written.holds in
      let a : length row ≤ 10 = R.narrow in
      let b : (s.count + length row) * 10 ≤ length l = R.room in
      let d : s.count ≤ 10 * length R.rows = R.written.low in
      let e : length R.rows < row_numbers_bound = R.few in
      let f : r.count ≤ s.count + c = M.bound in
      let g : length l' ≡ length l = M.same in
      record {
        inside = omega arith;
        low = rw (M.index, R.written.row) e;
        room = omega arith;
        few = omega arith;
        head = λ ne. (P.1.heads c (omega arith) ne).0;
      }

  pub mid_step : (l'' : List ℕ) (t : ChartNotesScratch) (x : NoteEffect) → x ≡ effect_at (get_or row c 0) → c < length row → length l'' ≡ length l'
      → NoteStepped l' r l'' t 1 (step_cell r.row_index c x) → Midrow l s l'' t (c + 1) row
  unfolding step_row
  mid_step l'' t x f h e T = record {
    inside = omega arith;
    same = e ∙ M.same;
    bound = omega (arith, T.bound, M.bound);
    index = T.row ∙ M.index;
    part = λ ds S.
        let P = M.part ds S in (
          step_cell s.row_index c (effect_at (get_or row c 0)) P.0,
          rw (f, M.index) at (T.stored P.0 P.1),
          rw add-one (ap (λ (x : Row). step_row s.row_index c x P.0) (sym (drop-cons row c 0 h)) ∙ P.2),
        );
  }

  -- the row is done
  pub mid-end : length row ≤ c → (ds : List NoteDraft) → DraftsHeld l s ds → DraftsHeld l' r (step_row s.row_index zero row ds)
  unfolding step_row
  mid-end h ds S =
      let P = M.part ds S in
      subst (λ (x : List NoteDraft). DraftsHeld l' r x) (ap (λ (x : Row). step_row s.row_index c x P.0) (sym (drop_of_length-le row h)) ∙ P.2) P.1

-- ---- one row more

steps-more : (i : ℕ) (rows : List Row) (row : Row) (ds : List NoteDraft)
    → step_rows i (rows ++ (row ∷ [])) ds ≡ step_row (i + length rows) zero row (step_rows i rows ds)
unfolding step_rows
steps-more i [] row ds = rw add-zero
steps-more i (r ∷ rows) row ds = rw (add-suc, ← suc-add) (steps-more (suc i) rows row (step_row i zero r ds))

drafts-more : (rows : List Row) (row : Row) → drafts (rows ++ (row ∷ [])) ≡ step_row (length rows) zero row (drafts rows)
drafts-more rows row = steps-more 0 rows row [] ∙ rw zero-add

cells-more : (rows : List Row) (row : Row) → length (joined (rows ++ (row ∷ []))) ≡ length (joined rows) + length row
cells-more [] row = rw append-nil (sym (zero-add (length row)))
cells-more (r ∷ rows) row =
    let h : length (joined (rows ++ (row ∷ []))) ≡ length (joined rows) + length row = cells-more rows row in
    simp length-append (omega arith)

module _ (l : List ℕ) (s : ChartNotesScratch) (row : Row) (R : RecordRoom s row l) (l' : List ℕ) (r : ChartNotesScratch) where
  -- the state r but for the number of its row, after the row's cells
  pub row_written : (t : ChartNotesScratch) (c : ℕ) → Midrow l s l' t c row → length row ≤ c
      → r.hold_heads ≡ t.hold_heads → r.count ≡ t.count → r.has_invalid ≡ t.has_invalid → r.row_index ≡ t.row_index + 1
      → (rows : List Row) → Written rows s l → Written (rows ++ (row ∷ [])) r l'
  row_written t c M h e₁ e₂ e₃ e₄ rows W =
      let n : length (rows ++ (row ∷ [])) ≡ length rows + 1 = simp length-append in
      let i : s.row_index ≡ length rows = W.row in
      let j : t.row_index ≡ s.row_index = M.index in
      let b : t.count ≤ s.count + c = M.bound in
      let k : c ≤ length row = M.inside in
      let a : length row ≤ 10 = R.narrow in
      record {
        row = omega arith;
        holds = rw (e₁, e₂, e₃, drafts-more rows row) (rw i at (mid-end l s l' t c row M h (drafts rows) W.holds));
        cells = omega (arith, cells-more rows row, W.cells);
        low = omega (arith, W.low);
      }

-- ---- for callers

-- rows of at most L cells have at most L cells each
pub cells-within : (L : ℕ) (rows : List Row) → All (λ r. length r ≤ L) rows → length (joined rows) ≤ length rows * L
cells-within L [] none = omega arith
cells-within L (r ∷ rows) (one h w) =
    let a : length (joined rows) ≤ length rows * L = cells-within L rows w in
    simp (length-append, suc-mul) (omega arith)
