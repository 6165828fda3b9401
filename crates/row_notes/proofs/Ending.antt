-- The end of the note writer: what is left in the slice are the records of the notes, and zeros.
use mathlib.Core.Path.{◌≡◌, sym, ap, ap₂, ◌∙◌}
use mathlib.Core.List.{List, ◌++◌}
use Prim.Native.Nat.{ℕ, ◌-◌, ◌*◌, ◌≤◌}
use lib.ListN.{length, take, replicate}
use lib.Seq.{take_at}
use Rattle.definitions.specs.Lines.{Row}
use Rattle.definitions.specs.Notes.{notes_from}
use Rattle.definitions.specs.Records.{records}
use Rattle.definitions.specs.declared.Note.{Note}
use Rattle.slices.specs.Zeroed.{zeroed}
use Rattle.row_notes.specs.Drafts.{drafts, notes_left}
use Rattle.row_notes.specs.Writer.{HeadsEnded, Compacted}
use Rattle.row_notes.specs.Written.{Written, RowsWritten, Finished}
use Rattle.row_notes.specs.declared.ChartNotesScratch.{ChartNotesScratch}
use Rattle.row_notes.proofs.Model.{model}
use Rattle.definitions.proofs.ReadBack.{records-length}
use Rattle.row_notes.proofs.Closing.{stored-length}

-- the records lie in the slice
pub rows-length : (l : List ℕ) (s : ChartNotesScratch) → RowsWritten s l → s.count * 10 ≤ length l
rows-length l s R = stored-length R.written.holds

pub finished : (l : List ℕ) (s : ChartNotesScratch) (l₁ : List ℕ) (t : ChartNotesScratch) (l₂ z : List ℕ) (r : ℕ)
    → length l₁ ≡ length l → length l₂ ≡ length l₁
    → HeadsEnded l s l₁ t → Compacted l₁ t.count t.has_invalid l₂ r → z ≡ zeroed 0 (r * 10) l₂
    → (rows : List Row) → Written rows s l → Finished rows (length l) z r
finished l s l₁ t l₂ z r e₁ e₂ D C ez rows W =
    let P = D.ended (drafts rows) W.holds in
    let Q : (q : List ℕ) × (l₂ ≡ records (notes_left P.0) ++ q) = C.bytes P.0 P.1 in
    let n : notes_left P.0 ≡ notes_from 0 rows = P.2 ∙ model rows in
    let m : r ≡ length (notes_from 0 rows) = C.count P.0 P.1 ∙ ap length n in
    let g : length (records (notes_from 0 rows)) ≡ r * 10 = records-length (notes_from 0 rows) ∙ ap (λ (k : ℕ). k * 10) (sym m) in
    let b : l₂ ≡ records (notes_from 0 rows) ++ Q.0 = Q.1 ∙ ap (λ (x : List Note). records x ++ Q.0) n in
    record {
      count = m;
      bytes =
          ez
          ∙ ap₂ (λ (x : List ℕ) (k : ℕ). x ++ replicate k 0)
          (ap (take (r * 10)) b ∙ take_at (records (notes_from 0 rows)) Q.0 (r * 10) g)
          (ap₂ (λ (a k : ℕ). a - k) (e₂ ∙ e₁) (sym g));
    }
