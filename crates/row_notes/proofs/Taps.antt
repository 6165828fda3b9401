-- A row of taps alone in columns without an open head: each cell writes a record behind the others, and only a tap's stays.
use mathlib.Core.Path.{◌≡◌, refl, ap, ap₂, sym, ◌∙◌}
use mathlib.Core.Bool.{Bool, false, or-false}
use mathlib.Core.List.{List, map, append-nil}
use Prim.Native.Nat.{ℕ, ◌+◌, ◌*◌}
use native.Mathlib.Nat.{add-zero}
use native.Mathlib.Omega.{arith}
use lib.Dec.{eqb}
use lib.ListN.{length, get_or, set}
use lib.Seq.{sets, set-get_or}
use borrow.Author.Tests.{eq-eqb}
use Rattle.definitions.specs.Lists.{joined, number_of_bool}
use Rattle.definitions.specs.Cells.{cell_of}
use Rattle.definitions.specs.Notes.{effect_at}
use Rattle.definitions.specs.Records.{fields}
use Rattle.definitions.specs.declared.Kind.TheVariants.{Tap}
use Rattle.definitions.specs.declared.NoteEffect.TheVariants.{Single}
use Rattle.taps.specs.Taps.{FreeAre}
use Rattle.taps.proofs.Free.{Free, zero-cell, tap-there}
use Rattle.definitions.proofs.Blocks.{blocks-length}
use Rattle.note_records.proofs.Blocks.{sets-right}
use Rattle.row_notes.specs.Drafts.{NoteDraft, step_cell}
use Rattle.row_notes.specs.Writer.{no_head, no_tail, draft_bytes, Stored, NoteReady, NotePushed, NoteStepped}
use Rattle.row_notes.specs.declared.ChartNotesScratch.{ChartNotesScratch}
use Rattle.row_notes.proofs.Stored.{ten-bytes}
use Rattle.row_notes.proofs.Steps.{step-single, zero-nothing}

-- a record behind the others is none of them
pub stored_past : (l hs : List ℕ) (n : ℕ) (invalid : Bool) (ds : List NoteDraft) (vs : List ℕ) → Stored l hs n invalid ds → Stored (sets l (n * 10) vs) hs n invalid ds
stored_past l hs n invalid ds vs S = record {
  count = S.count;
  few = S.few;
  rest = sets S.rest 0 vs;
  bytes =
      let place : n * 10 ≡ length (joined (map draft_bytes ds)) + 0 = omega (arith, S.count, blocks-length draft_bytes ten-bytes ds) in
      ap₂ (λ (x : List ℕ) (k : ℕ). sets x k vs) S.bytes place ∙ sets-right vs (joined (map draft_bytes ds)) S.rest 0;
  ten = S.ten;
  waits = S.waits;
  heads = S.heads;
  fine = S.fine;
  clean = S.clean;
}

-- the state with another number of records
abbrev pub counting : ChartNotesScratch → ℕ → ChartNotesScratch
counting s k = record { hold_heads = s.hold_heads; count = k; row_index = s.row_index; has_invalid = s.has_invalid }

tap-single : (b : ℕ) → b ≡ 49 → effect_at b ≡ Single Tap
unfolding effect_at cell_of
tap-single b e = rw e

module _ (l : List ℕ) (s : ChartNotesScratch) (c b : ℕ) (R : NoteReady l s c) (l' : List ℕ) (k : ℕ)
    (el : l' ≡ sets l (s.count * 10) (fields s.row_index no_tail c 0)) (ek : k ≡ s.count + number_of_bool (eqb b 49)) where
  pushed : b ≡ 49 → get_or s.hold_heads c 0 ≡ no_head → NotePushed l s c Tap no_head l' (counting s k)
  pushed e free = record {
    bytes = rw (eq-eqb (get_or s.hold_heads c 0) no_head free) el;
    heads = sym (ap (set s.hold_heads c) (sym free) ∙ set-get_or s.hold_heads c 0);
    count = rw (eq-eqb b 49 e) at ek;
    row = refl;
    invalid = sym (rw (eq-eqb (get_or s.hold_heads c 0) no_head free) (or-false s.has_invalid));
  }

  -- what a cell that is a `0`, or a `1` in a column without an open head, does
  pub tap-step : (busy : ℕ) → FreeAre busy no_head s.hold_heads → Free busy c b → NoteStepped l s l' (counting s k) 1 (step_cell s.row_index c (effect_at b))
  tap-step busy free (tap-there e none) =
      step-single l s c R l' (counting s k) (effect_at b) Tap (tap-single b e) (pushed e (free c R.inside none))
  tap-step busy free (zero-cell e) =
      let other : eqb b 49 ≡ false = rw e in
      let same : k ≡ s.count = ek ∙ rw (other, add-zero) in
      record {
        stored = λ ds S. rw (zero-nothing b e, append-nil, same, el) (stored_past l s.hold_heads s.count s.has_invalid ds (fields s.row_index no_tail c 0) S);
        bound = omega (arith, same);
        row = refl;
      }
