-- What one cell does to the drafts that lie in the record slice, by its effect.
use mathlib.Core.Path.{◌≡◌, refl}
use mathlib.Core.Bool.{Bool, true, false, cond, ◌||◌, not}
use mathlib.Core.List.{List, map, append-nil}
use Rattle.std.specs.Prelude.{Some, None}
use Prim.Native.Nat.{ℕ, ◌+◌, ◌*◌, ◌≤◌, ◌<◌}
use native.Mathlib.Omega.{arith}
use lib.Dec.{eqb}
use lib.ListN.{length, get_or, set}
use lib.Seq.{sets, length-sets, get_or-set_same, set-set}
use borrow.Author.Tests.{eqb-true}
use Rattle.definitions.specs.Cells.{cell_of}
use Rattle.definitions.specs.Notes.{effect_at}
use Rattle.definitions.specs.Records.{bytes4}
use Rattle.definitions.specs.declared.Kind.{Kind}
use Rattle.definitions.specs.declared.NoteEffect.{NoteEffect}
use Rattle.definitions.specs.declared.NoteEffect.TheVariants.{Nothing, Closes, Single, Head}
use Rattle.row_notes.specs.Drafts.{State, plain, waiting, NoteDraft, settle, step_cell}
use Rattle.row_notes.specs.Writer.{no_head, dropped, draft_bytes, FineState, Fine, DraftsHeld, Stored, NoteReady, HoldEnded, NotePushed, end_at, end_head, invalid_after, NoteStepped}
use Rattle.row_notes.specs.declared.ChartNotesScratch.{ChartNotesScratch}
use Rattle.row_notes.proofs.Stored.{stored-settle, stored-plain, stored-head}

pub length-end_at : (l : List ℕ) (h t : ℕ) → length (end_at l h t) ≡ length l
length-end_at l h t = go (eqb h no_head)
  where
    go : (b : Bool) → length (cond b l (sets l (h * 10 + 4) (bytes4 t))) ≡ length l
    go true = refl
    go false = length-sets l (h * 10 + 4) (bytes4 t)

-- where the flag stays false there was no head to drop
drop_keeps : (b t : Bool) → (b || not t) ≡ false → (b ≡ false) × (t ≡ true)
drop_keeps true t e = let z : ◌≡◌ {A = ℕ} 0 1 = cc in absurd (omega arith)
drop_keeps false true e = (refl, refl)
drop_keeps false false e = let z : ◌≡◌ {A = ℕ} 0 1 = cc in absurd (omega arith)

pub invalid-keeps : (s : ChartNotesScratch) (c : ℕ) → invalid_after s c ≡ false → (s.has_invalid ≡ false) × (get_or s.hold_heads c 0 ≡ no_head)
invalid-keeps s c e =
    let p = drop_keeps s.has_invalid (eqb (get_or s.hold_heads c 0) no_head) e in
    (p.0, eqb-true (get_or s.hold_heads c 0) no_head p.1)

-- the head of a column is dropped
pub dropped-there : (l : List ℕ) (s : ChartNotesScratch) (c : ℕ) → c < 10 → (ds : List NoteDraft) → DraftsHeld l s ds
    → Stored (end_head l s.hold_heads c dropped) (set s.hold_heads c no_head) s.count (invalid_after s c) (map (settle c None) ds)
dropped-there l s c h ds S =
    stored-settle l s.hold_heads s.count s.has_invalid ds S c h None tt (invalid_after s c)
    (λ q. let p = invalid-keeps s c q in (p.0, λ e. p.1))

pub step-nothing : (l : List ℕ) (s : ChartNotesScratch) (i c : ℕ) (x : NoteEffect) → x ≡ Nothing → NoteStepped l s l s 1 (step_cell i c x)
step-nothing l s i c x e = record {
  stored = λ ds S. rw (e, append-nil) S;
  bound = omega arith;
  row = refl;
}

-- a `0` touches no note
pub zero-nothing : (b : ℕ) → b ≡ 48 → effect_at b ≡ Nothing
unfolding effect_at cell_of
zero-nothing b e = rw e

module _ (l : List ℕ) (s : ChartNotesScratch) (c : ℕ) (R : NoteReady l s c) (l' : List ℕ) (r : ChartNotesScratch) where
  pub step-closes : (x : NoteEffect) → x ≡ Closes → HoldEnded l s c s.row_index s.has_invalid l' r
      → NoteStepped l s l' r 1 (step_cell s.row_index c x)
  step-closes x e H = record {
    stored = λ ds S.
        rw (e, H.bytes, H.heads, H.count, H.invalid, append-nil)
        (stored-settle l s.hold_heads s.count s.has_invalid ds S c R.inside (Some s.row_index) R.low s.has_invalid
        (λ q. (q, λ z. let w : ◌≡◌ {A = ℕ} 0 1 = cc in absurd (omega arith))));
    bound = omega (arith, H.count);
    row = H.row;
  }

  room : s.count * 10 + 10 ≤ length (end_head l s.hold_heads c dropped)
  room = rw length-end_at R.room

  draft : Kind → State → NoteDraft
  draft k t = record { row = s.row_index; column = c; kind = k; state = t }

  fine : (k : Kind) (t : State) → FineState t → Fine (draft k t)
  unfolding draft
  fine k t f = record { row = R.low; column = R.inside; state = f }

  pub step-single : (x : NoteEffect) (k : Kind) → x ≡ Single k → NotePushed l s c k no_head l' r → NoteStepped l s l' r 1 (step_cell s.row_index c x)
  unfolding draft_bytes draft
  step-single x k e N = record {
    stored = λ ds S.
        rw (e, N.bytes, N.heads, N.count, N.invalid)
        (stored-plain _ _ _ _ _ (dropped-there l s c R.inside ds S) (draft k plain) (fine k plain tt) room R.few refl);
    bound = omega (arith, N.count);
    row = N.row;
  }

  pub step-head : (x : NoteEffect) (k : Kind) → x ≡ Head k → NotePushed l s c k s.count l' r → NoteStepped l s l' r 1 (step_cell s.row_index c x)
  unfolding draft_bytes draft
  step-head x k e N = record {
    stored = λ ds S.
        let i : c < 10 = R.inside in
        let t : length s.hold_heads ≡ 10 = S.ten in
        rw (e, N.bytes, N.heads, N.count, N.invalid)
        (rw set-set at
        (stored-head _ _ _ _ _ (dropped-there l s c R.inside ds S) (draft k waiting) (fine k waiting tt) room R.few refl
        (get_or-set_same s.hold_heads c no_head 0 (omega arith))));
    bound = omega (arith, N.count);
    row = N.row;
  }
