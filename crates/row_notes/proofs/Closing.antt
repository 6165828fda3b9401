-- The heads that are open at the end are dropped, column by column.
use mathlib.Core.Path.{◌≡◌, refl, ap, ◌∙◌}
use mathlib.Core.Bool.{Bool, true, false, cond}
use mathlib.Core.List.{List, map}
use Rattle.std.specs.Prelude.{None}
use Prim.Native.Nat.{ℕ, ◌+◌, ◌*◌, ◌≤◌, ◌<◌}
use native.Mathlib.Decide.{ℕ_discrete}
use native.Mathlib.Omega.{arith}
use lib.Dec.{eqb}
use lib.ListN.{length, get_or, set, length-append}
use lib.Seq.{get_or-set_same, get_or-set_other}
use Rattle.definitions.specs.Lists.{joined}
use Rattle.row_notes.specs.Drafts.{State, plain, waiting, ended, NoteDraft, settle_state, settled, settle, note_by, keep, notes_left}
use Rattle.row_notes.specs.Writer.{no_head, dropped, draft_bytes, blank, Stored, DraftsHeld, HeadThere, HoldEnded, invalid_after, HoldsDrafts, HeadsEnded}
use Rattle.row_notes.specs.declared.ChartNotesScratch.{ChartNotesScratch}
use Rattle.row_notes.proofs.Model.{gather-map}
use Rattle.definitions.proofs.Blocks.{blocks-length}
use Rattle.row_notes.proofs.Stored.{ten-bytes}
use Rattle.row_notes.proofs.Steps.{dropped-there}

-- a head that still waits is no note, and dropped it is none either
keep-settle : (c : ℕ) (d : NoteDraft) → keep (settle c None d) ≡ keep d
keep-settle c d = go (eqb d.column c)
  where
    state : (s : State) → note_by d.row d.column d.kind (settle_state None s) None ≡ note_by d.row d.column d.kind s None
    state plain = refl
    state waiting = refl
    state (ended o) = refl

    go : (t : Bool) → keep (cond t (settled None d) d) ≡ keep d
    go true = state d.state
    go false = refl

left-settle : (c : ℕ) (ds : List NoteDraft) → notes_left (map (settle c None) ds) ≡ notes_left ds
left-settle c ds = gather-map keep (settle c None) keep (keep-settle c) ds

-- the drafts lie in the slice
pub stored-length : {l hs : List ℕ} {n : ℕ} {invalid : Bool} {ds : List NoteDraft} → Stored l hs n invalid ds → n * 10 ≤ length l
stored-length {l} {n = n} {ds = ds} S =
    let m : n ≡ length ds = S.count in
    let e : length l ≡ length (joined (map draft_bytes ds)) + length S.rest = ap length S.bytes ∙ length-append (joined (map draft_bytes ds)) S.rest in
    let g : length (joined (map draft_bytes ds)) ≡ length ds * 10 = blocks-length draft_bytes ten-bytes ds in
    omega arith

-- From the state s with the slice l: the columns below c have no open head any more.
pub record Closing (l : List ℕ) (s : ChartNotesScratch) (l' : List ℕ) (r : ChartNotesScratch) (c : ℕ) : Type 0 where
  pub inside : c ≤ 10
  pub same : length l' ≡ length l
  pub count : r.count ≡ s.count
  pub free : (i : ℕ) → i < c → get_or r.hold_heads i 0 ≡ no_head
  pub part : (ds : List NoteDraft) → DraftsHeld l s ds → (es : List NoteDraft) × DraftsHeld l' r es × (notes_left es ≡ notes_left ds)

module _ (l : List ℕ) (s : ChartNotesScratch) (l' : List ℕ) (r : ChartNotesScratch) (c : ℕ) (K : Closing l s l' r c) (D : HoldsDrafts l s) where
  pub closing-ready : c < 10 → HeadThere l' r c
  closing-ready h =
      let S : DraftsHeld l' r (K.part D.drafts D.stored).0 = (K.part D.drafts D.stored).1 in
      record { inside = h; head = λ ne. omega (arith, (S.heads c h ne).0, stored-length S) }

  pub closing-step : (l'' : List ℕ) (t : ChartNotesScratch) → c < 10 → length l'' ≡ length l' → HoldEnded l' r c dropped (invalid_after r c) l'' t
      → Closing l s l'' t (c + 1)
  closing-step l'' t h e H = record {
    inside = omega arith;
    same = e ∙ K.same;
    count = H.count ∙ K.count;
    free = λ i g. rw H.heads (at_i i g (ℕ_discrete i c));
    part = λ ds S.
        let Q = K.part ds S in
        (map (settle c None) Q.0, rw (H.bytes, H.heads, H.count, H.invalid) (dropped-there l' r c h Q.0 Q.1), left-settle c Q.0 ∙ Q.2);
  }
    where
      at_i : (i : ℕ) → i < c + 1 → Dec (i ≡ c) → get_or (set r.hold_heads c no_head) i 0 ≡ no_head
      at_i i g (yes q) = rw q (get_or-set_same r.hold_heads c no_head 0 (omega (arith, (K.part D.drafts D.stored).1.ten)))
      at_i i g (no q) = get_or-set_other r.hold_heads c i no_head 0 q ∙ K.free i (omega arith)

  pub closing_end : 10 ≤ c → HeadsEnded l s l' r
  closing_end h = record {
    count = K.count;
    ended = λ ds S.
        let Q = K.part ds S in
        let T : DraftsHeld l' r Q.0 = Q.1 in
        let f : r.count < no_head = T.few in (
          Q.0,
          record {
            count = T.count;
            rest = T.rest;
            bytes = T.bytes;
            done = λ k g w.
                let a : (get_or Q.0 k blank).column < 10 = (T.fine k g).column in
                let x : get_or r.hold_heads (get_or Q.0 k blank).column 0 ≡ k = T.waits k g w in
                let y : get_or r.hold_heads (get_or Q.0 k blank).column 0 ≡ no_head = K.free (get_or Q.0 k blank).column (omega arith) in
                omega arith;
            fine = T.fine;
            clean = T.clean;
          },
          Q.2,
        );
  }
