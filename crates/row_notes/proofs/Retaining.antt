-- The records that are not dropped are moved to the front.
use mathlib.Core.Path.{◌≡◌, refl, sym, ap, ap₂, ◌∙◌}
use mathlib.Core.Bool.{Bool, false}
use mathlib.Core.List.{List, [], ◌∷◌, ◌++◌, map, append-nil}
use Rattle.std.specs.Prelude.{Some, None}
use Prim.Native.Nat.{ℕ, zero, suc, ◌+◌, ◌*◌, ◌≤◌, ◌<◌}
use native.Mathlib.Nat.{add-zero, add_assoc}
use native.Mathlib.Numerals.{add-one}
use native.Mathlib.Omega.{arith}
use lib.ListN.{length, get_or, set, take, drop, length-append, length-take, take-append-drop}
use lib.Seq.{sets, length-sets, take-suc, take_all, drop-drop, drop-set-lt, get_or-drop}
use Rattle.definitions.specs.Sizes.{row_numbers_bound}
use Rattle.definitions.specs.Lists.{joined}
use Rattle.definitions.specs.Records.{fields, number_of_kind, encode, records, word}
use Rattle.definitions.specs.declared.Kind.{Kind}
use Rattle.definitions.specs.declared.Tail.TheVariants.{Without, Row}
use Rattle.definitions.specs.declared.Note.{Note}
use Rattle.note_records.specs.Fields.{fields_at}
use Rattle.row_notes.specs.Drafts.{State, plain, waiting, ended, NoteDraft, note_by, keep, notes_left}
use Rattle.row_notes.specs.Writer.{dropped, state_number, draft_bytes, FineState, Fine, blank, DraftsEnded, Compacted}
use Rattle.row_notes.proofs.Model.{gather_append}
use Rattle.definitions.proofs.Blocks.{blocks-get, blocks-length}
use Rattle.definitions.proofs.ReadBack.{blocks-word, word_row, word-tail, ten}
use Rattle.note_records.proofs.Blocks.{blocks_more}
use Rattle.row_notes.proofs.Stored.{ten-bytes}

-- ---- what is left of one draft

module _ (r c : ℕ) (k : Kind) where
  gone : (s : State) → FineState s → (s ≡ waiting → ⊥) → state_number s ≡ dropped → note_by r c k s None ≡ []
  gone plain f w e = absurd (omega arith)
  gone waiting f w e = absurd (w refl)
  gone (ended None) f w e = refl
  gone (ended (Some j)) f w e = absurd (omega arith)

  stays : (s : State) → (s ≡ waiting → ⊥) → (state_number s ≡ dropped → ⊥)
      → (x : Note) × (note_by r c k s None ≡ x ∷ []) × (encode x ≡ fields r (state_number s) c (number_of_kind k))
  unfolding encode
  stays plain w e = (record { row = r; tail = Without; column = c; kind = k }, refl, refl)
  stays waiting w e = absurd (w refl)
  stays (ended None) w e = absurd (e refl)
  stays (ended (Some j)) w e = (record { row = r; tail = Row j; column = c; kind = k }, refl, refl)

state-small : (s : State) → FineState s → state_number s < 4294967296
state-small plain f = omega arith
state-small waiting f = omega arith
state-small (ended None) f = omega arith
state-small (ended (Some j)) f = omega arith

left_more : (ds : List NoteDraft) (k : ℕ) → k < length ds → notes_left (take (k + 1) ds) ≡ notes_left (take k ds) ++ keep (get_or ds k blank)
left_more ds k h =
    rw (add-one, take-suc ds k blank h)
    (gather_append keep (take k ds) (get_or ds k blank ∷ []) ∙ ap (λ (x : List Note). notes_left (take k ds) ++ x) (append-nil (keep (get_or ds k blank))))

-- ---- what is read past a place

drop-sets : (vs l : List ℕ) (m n : ℕ) → m + length vs ≤ n → drop n (sets l m vs) ≡ drop n l
drop-sets [] l m n h = refl
drop-sets (v ∷ vs) l m n h = drop-sets vs (set l m v) (suc m) n (omega arith) ∙ drop-set-lt n l m v (omega arith)

word-drop : (l : List ℕ) (a m : ℕ) → word l (a + m) ≡ word (drop a l) m
unfolding word
word-drop l a m = simp (get_or-drop, add_assoc)

-- ---- the records are moved to the front

-- From the slice l₀ with n records: of the first k the w that are left stand at the front of l, and from record k on l is as l₀ was.
pub record Retaining (l₀ : List ℕ) (n : ℕ) (invalid : Bool) (l : List ℕ) (w k : ℕ) : Type 0 where
  pub upto : k ≤ n
  pub short : w ≤ k
  pub same : length l ≡ length l₀
  pub after : drop (k * 10) l ≡ drop (k * 10) l₀
  pub count : (ds : List NoteDraft) → DraftsEnded l₀ n invalid ds → w ≡ length (notes_left (take k ds))
  pub part : (ds : List NoteDraft) → DraftsEnded l₀ n invalid ds → (q : List ℕ) × (l ≡ records (notes_left (take k ds)) ++ q)

pub retain-start : (l : List ℕ) (n : ℕ) (invalid : Bool) → Retaining l n invalid l 0 0
unfolding records
retain-start l n invalid = record {
  upto = omega arith;
  short = omega arith;
  same = refl;
  after = refl;
  count = λ ds E. refl;
  part = λ ds E. (l, refl);
}

module _ (l₀ : List ℕ) (n : ℕ) (invalid : Bool) (fits : n * 10 ≤ length l₀) (l : List ℕ) (w k : ℕ) (C : Retaining l₀ n invalid l w k) where
  module _ (h : k < n) (ds : List NoteDraft) (E : DraftsEnded l₀ n invalid ds) where
    below : k < length ds
    below = let m : n ≡ length ds = E.count in omega arith

    old-word : (m : ℕ) → m + 4 ≤ 10 → word l (k * 10 + m) ≡ word (draft_bytes (get_or ds k blank)) m
    old-word m g =
        word-drop l (k * 10) m ∙ ap (λ (x : List ℕ). word x m) C.after ∙ sym (word-drop l₀ (k * 10) m)
        ∙ ap (λ (x : List ℕ). word x (k * 10 + m)) E.bytes ∙ blocks-word draft_bytes ten-bytes ds E.rest k m blank below g

    old-byte : (m : ℕ) → m < 10 → get_or l (k * 10 + m) 0 ≡ get_or (draft_bytes (get_or ds k blank)) m 0
    old-byte m g =
        sym (get_or-drop (k * 10) l m 0) ∙ ap (λ (x : List ℕ). get_or x m 0) C.after ∙ get_or-drop (k * 10) l₀ m 0
        ∙ ap (λ (x : List ℕ). get_or x (k * 10 + m) 0) E.bytes ∙ blocks-get draft_bytes ten-bytes ds E.rest k m blank below g

    at_row : word l (k * 10) ≡ (get_or ds k blank).row
    unfolding draft_bytes
    at_row =
        let f : (get_or ds k blank).row < row_numbers_bound = (E.fine k h).row in
        rw add-zero at (old-word 0 (omega arith)) ∙ word_row (get_or ds k blank).row (state_number (get_or ds k blank).state) _ _ (omega arith)

    at_tail : word l (k * 10 + 4) ≡ state_number (get_or ds k blank).state
    unfolding draft_bytes
    at_tail =
        old-word 4 (omega arith)
        ∙ word-tail (get_or ds k blank).row (state_number (get_or ds k blank).state) _ _ (state-small (get_or ds k blank).state (E.fine k h).state)

    at-column : get_or l (k * 10 + 8) 0 ≡ (get_or ds k blank).column
    unfolding draft_bytes fields
    at-column = old-byte 8 (omega arith)

    at-kind : get_or l (k * 10 + 9) 0 ≡ number_of_kind (get_or ds k blank).kind
    unfolding draft_bytes fields
    at-kind = old-byte 9 (omega arith)

    old-fields : fields_at l (k * 10)
        ≡ fields (get_or ds k blank).row (state_number (get_or ds k blank).state) (get_or ds k blank).column (number_of_kind (get_or ds k blank).kind)
    old-fields = rw (at_row, at_tail, at-column, at-kind)

    left_over : word l (k * 10 + 4) ≡ dropped → notes_left (take (k + 1) ds) ≡ notes_left (take k ds)
    left_over e =
        left_more ds k below
        ∙ ap (λ (x : List Note). notes_left (take k ds) ++ x) (gone _ _ _ (get_or ds k blank).state (E.fine k h).state (E.done k h) (sym at_tail ∙ e))
        ∙ append-nil (notes_left (take k ds))

    one_more : (word l (k * 10 + 4) ≡ dropped → ⊥)
        → (x : Note) × (notes_left (take (k + 1) ds) ≡ notes_left (take k ds) ++ (x ∷ []))
        × (fields_at l (k * 10) ≡ encode x)
    one_more ne =
        let d : NoteDraft = get_or ds k blank in
        let s : (x : Note) × (keep d ≡ x ∷ []) × (encode x ≡ fields d.row (state_number d.state) d.column (number_of_kind d.kind)) =
        stays d.row d.column d.kind d.state (E.done k h) (λ e. ne (at_tail ∙ e)) in (
          s.0,
          left_more ds k below ∙ ap (λ (x : List Note). notes_left (take k ds) ++ x) s.1,
          old-fields ∙ sym s.2,
        )

  next-after : (l' : List ℕ) → drop (k * 10 + 10) l' ≡ drop (k * 10 + 10) l → drop ((k + 1) * 10) l' ≡ drop ((k + 1) * 10) l₀
  next-after l' e =
      let z : (k + 1) * 10 ≡ k * 10 + 10 = omega arith in
      rw z (e ∙ sym (drop-drop 10 (k * 10) l) ∙ ap (drop 10) C.after ∙ drop-drop 10 (k * 10) l₀)

  pub retain-gone : k < n → word l (k * 10 + 4) ≡ dropped → Retaining l₀ n invalid l w (k + 1)
  retain-gone h e = record {
    upto = omega arith;
    short = let s : w ≤ k = C.short in omega arith;
    same = C.same;
    after = next-after l refl;
    count = λ ds E. C.count ds E ∙ ap length (sym (left_over h ds E e));
    part = λ ds E.
        let P : (q : List ℕ) × (l ≡ records (notes_left (take k ds)) ++ q) = C.part ds E in
        (P.0, P.1 ∙ ap (λ (x : List Note). records x ++ P.0) (sym (left_over h ds E e)));
  }

  pub retain-stays : (l' : List ℕ) → k < n → (word l (k * 10 + 4) ≡ dropped → ⊥)
      → l' ≡ sets l (w * 10) (fields_at l (k * 10))
      → Retaining l₀ n invalid l' (w + 1) (k + 1)
  unfolding records fields
  retain-stays l' h ne e =
      let s : w ≤ k = C.short in
      let z : length l ≡ length l₀ = C.same in
      record {
        upto = omega arith;
        short = omega arith;
        same = ap length e ∙ length-sets l (w * 10) (fields_at l (k * 10)) ∙ C.same;
        after = next-after l' (ap (drop (k * 10 + 10)) e ∙ drop-sets (fields_at l (k * 10)) l (w * 10) (k * 10 + 10) (omega arith));
        count = λ ds E.
            let m : w ≡ length (notes_left (take k ds)) = C.count ds E in
            let M = one_more h ds E ne in
            rw (M.1, length-append) (omega arith);
        part = λ ds E. more ds E (C.part ds E) (one_more h ds E ne);
      }
    where
      more : (ds : List NoteDraft) → DraftsEnded l₀ n invalid ds → (q : List ℕ) × (l ≡ joined (map encode (notes_left (take k ds))) ++ q)
          → (x : Note) × (notes_left (take (k + 1) ds) ≡ notes_left (take k ds) ++ (x ∷ []))
          × (fields_at l (k * 10) ≡ encode x)
          → (q : List ℕ) × (l' ≡ joined (map encode (notes_left (take (k + 1) ds))) ++ q)
      more ds E P M =
          let q : List ℕ = P.0 in
          let s : w ≤ k = C.short in
          let m : w ≡ length (notes_left (take k ds)) = C.count ds E in
          let z : length l ≡ length l₀ = C.same in
          let g : length (joined (map encode (notes_left (take k ds)))) ≡ length (notes_left (take k ds)) * 10 = blocks-length encode ten (notes_left (take k ds)) in
          let a : length l ≡ length (joined (map encode (notes_left (take k ds)))) + length q =
          ap length P.1 ∙ length-append (joined (map encode (notes_left (take k ds)))) q in
          let b : 10 ≤ length q = omega arith in
          let t : length (take 10 q) ≡ 10 = length-take 10 q ∙ (omega arith) in (
            drop 10 q,
            e ∙ ap (λ (v : List ℕ). sets l (w * 10) v) M.2
                ∙ ap₂ (λ (x : List ℕ) (i : ℕ). sets x (i * 10) (encode M.0))
                (P.1 ∙ ap (λ (r : List ℕ). joined (map encode (notes_left (take k ds))) ++ r) (sym (take-append-drop 10 q))) m
                ∙ blocks_more encode ten (notes_left (take k ds)) (take 10 q) (drop 10 q) M.0 t
                ∙ ap (λ (x : List Note). joined (map encode x) ++ drop 10 q) (sym M.1),
          )

  pub retain_end : n ≤ k → Compacted l₀ n invalid l w
  retain_end h = record {
    bound = let s : w ≤ k = C.short in let u : k ≤ n = C.upto in omega arith;
    count = λ ds E. C.count ds E ∙ ap (λ (x : List NoteDraft). length (notes_left x)) (all ds E);
    bytes = λ ds E.
        let P : (q : List ℕ) × (l ≡ records (notes_left (take k ds)) ++ q) = C.part ds E in
        (P.0, P.1 ∙ ap (λ (x : List NoteDraft). records (notes_left x) ++ P.0) (all ds E));
  }
    where
      all : (ds : List NoteDraft) → DraftsEnded l₀ n invalid ds → take k ds ≡ ds
      all ds E = let m : n ≡ length ds = E.count in take_all k ds (omega arith)

-- ---- nothing was dropped

not-dropped : (s : State) → FineState s → (s ≡ ended None → ⊥) → state_number s ≡ dropped → ⊥
not-dropped plain f ne e = omega arith
not-dropped waiting f ne e = omega arith
not-dropped (ended None) f ne e = ne refl
not-dropped (ended (Some j)) f ne e = omega arith

-- a draft that neither waits nor was dropped
pub record Stays (d : NoteDraft) : Type 0 where
  pub done : d.state ≡ waiting → ⊥
  pub there : d.state ≡ ended None → ⊥
  pub fine : Fine d

-- such drafts are their notes
all_stay : (ds : List NoteDraft) → ((k : ℕ) → k < length ds → Stays (get_or ds k blank))
    → (length (notes_left ds) ≡ length ds) × (joined (map encode (notes_left ds)) ≡ joined (map draft_bytes ds))
unfolding draft_bytes
all_stay [] h = (refl, refl)
all_stay (d ∷ ds) h =
    let rest = all_stay ds (λ k g. h (suc k) (omega arith)) in
    let this : Stays d = h zero (omega arith) in
    let s = stays d.row d.column d.kind d.state this.done (not-dropped d.state this.fine.state this.there) in
    rw s.1 (ap suc rest.0, ap₂ (λ (a b : List ℕ). a ++ b) s.2 rest.1)

-- and no record has to move
pub retain-all : (l : List ℕ) (n : ℕ) (invalid : Bool) → invalid ≡ false → Compacted l n invalid l n
unfolding records
retain-all l n invalid q = record {
  bound = omega arith;
  count = λ ds E. E.count ∙ sym (staying ds E).0;
  bytes = λ ds E. (E.rest, E.bytes ∙ ap (λ (x : List ℕ). x ++ E.rest) (sym (staying ds E).1));
}
  where
    staying : (ds : List NoteDraft) → DraftsEnded l n invalid ds → (length (notes_left ds) ≡ length ds) × (joined (map encode (notes_left ds)) ≡ joined (map draft_bytes ds))
    staying ds E =
        let m : n ≡ length ds = E.count in
        all_stay ds (λ k h. record { done = E.done k (omega arith); there = E.clean q k h; fine = E.fine k (omega arith) })
