-- What the stores of the note writer do to the drafts that lie in the record slice.
use mathlib.Core.Path.{◌≡◌, refl, sym, ap, ap₂, subst, ◌∙◌}
use mathlib.Core.Bool.{Bool, true, false, cond}
use mathlib.Core.List.{List, [], ◌∷◌, ◌++◌, map}
use Rattle.std.specs.Prelude.{Option, None}
use Prim.Native.Nat.{ℕ, zero, suc, ◌+◌, ◌*◌, ◌≤◌, ◌<◌}
use native.Mathlib.Decide.{ℕ_discrete}
use native.Mathlib.Omega.{arith}
use lib.Dec.{eqb}
use lib.ListN.{length, get_or, set, take, drop, length-append, length-set, length-map, get_or-append, take-append-drop, length-take}
use lib.Seq.{sets, ext_get_or, get_or-set_same, get_or-set_other, get_or_at}
use borrow.Author.Tests.{eqb-true, eqb-false, eq-eqb}
use Rattle.definitions.specs.Lists.{joined}
use Rattle.definitions.specs.Records.{fields, bytes4, number_of_kind}
use Rattle.row_notes.specs.Drafts.{State, plain, waiting, ended, NoteDraft, settle_state, settled, settle}
use Rattle.row_notes.specs.Writer.{no_head, end_number, state_number, draft_bytes, FineEnd, FineState, Fine, blank, Clean, Stored, end_head}
use Rattle.definitions.proofs.Blocks.{blocks-length}
use Rattle.note_records.proofs.Blocks.{blocks-sets, blocks_more}

pub ten-bytes : (d : NoteDraft) → length (draft_bytes d) ≡ 10
unfolding draft_bytes fields
ten-bytes d = refl

get_or-map-in : {A B : Type 0} (f : A → B) (l : List A) (k : ℕ) (a : A) (b : B) → k < length l → get_or (map f l) k b ≡ f (get_or l k a)
get_or-map-in f [] k a b h = absurd (omega arith)
get_or-map-in f (x ∷ l) zero a b h = refl
get_or-map-in f (x ∷ l) (suc k) a b h = get_or-map-in f l k a b (omega arith)

-- ---- one draft

same-state : (o : Option ℕ) (s : State) → (s ≡ waiting → ⊥) → settle_state o s ≡ s
same-state o plain h = refl
same-state o waiting h = absurd (h refl)
same-state o (ended x) h = refl

not-waiting : (o : Option ℕ) (s : State) → settle_state o s ≡ waiting → ⊥
not-waiting o plain e = let z : ◌≡◌ {A = ℕ} 0 1 = cc in omega arith
not-waiting o waiting e = let z : ◌≡◌ {A = ℕ} 0 1 = cc in omega arith
not-waiting o (ended x) e = let z : ◌≡◌ {A = ℕ} 0 1 = cc in omega arith

module _ (c : ℕ) (o : Option ℕ) where
  settle-this : (d : NoteDraft) → d.column ≡ c → settle c o d ≡ settled o d
  settle-this d e = rw (eq-eqb d.column c e)

  settle_other : (d : NoteDraft) → (d.column ≡ c → d.state ≡ waiting → ⊥) → settle c o d ≡ d
  settle_other d h = go (eqb d.column c) refl
    where
      go : (t : Bool) → eqb d.column c ≡ t → cond t (settled o d) d ≡ d
      go true q = ap {B = NoteDraft} (λ (s : State). record { row = d.row; column = d.column; kind = d.kind; state = s }) (same-state o d.state (h (eqb-true _ _ q)))
      go false q = refl

  -- the column stays
  settle-column : (d : NoteDraft) → (settle c o d).column ≡ d.column
  settle-column d = go (eqb d.column c)
    where
      go : (t : Bool) → (cond t (settled o d) d).column ≡ d.column
      go true = refl
      go false = refl

  settle-fine : (d : NoteDraft) → FineEnd o → Fine d → Fine (settle c o d)
  settle-fine d e f = go (eqb d.column c)
    where
      at-state : (s : State) → FineState s → FineState (settle_state o s)
      at-state plain g = g
      at-state waiting g = e
      at-state (ended x) g = g

      go : (t : Bool) → Fine (cond t (settled o d) d)
      go true = record { row = f.row; column = f.column; state = at-state d.state f.state }
      go false = f

  -- a head that still waits is of another column, and was left as it was
  settle-waits : (d : NoteDraft) → (settle c o d).state ≡ waiting → (d.state ≡ waiting) × (d.column ≡ c → ⊥)
  settle-waits d = go (eqb d.column c) refl
    where
      go : (t : Bool) → eqb d.column c ≡ t → (cond t (settled o d) d).state ≡ waiting → (d.state ≡ waiting) × (d.column ≡ c → ⊥)
      go true q e = absurd (not-waiting o d.state e)
      go false q e = (e, eqb-false _ _ q)

  -- a head that was not dropped before and is now
  settle-drops : (d : NoteDraft) → (d.state ≡ ended None → ⊥) → (settle c o d).state ≡ ended None → (d.column ≡ c) × (d.state ≡ waiting) × (o ≡ None)
  settle-drops d ne = go (eqb d.column c) refl
    where
      at-state : (s : State) → (s ≡ ended None → ⊥) → settle_state o s ≡ ended None → (s ≡ waiting) × (o ≡ None)
      at-state plain n e = absurd (n e)
      at-state waiting n e = (refl, cc)
      at-state (ended x) n e = absurd (n e)

      go : (t : Bool) → eqb d.column c ≡ t → (cond t (settled o d) d).state ≡ ended None → (d.column ≡ c) × (d.state ≡ waiting) × (o ≡ None)
      go true q e = let p = at-state d.state ne e in (eqb-true _ _ q, p.0, p.1)
      go false q e = absurd (ne e)

  -- ---- all drafts

  module _ (ds : List NoteDraft) where
    map-none : ((k : ℕ) → k < length ds → (get_or ds k blank).column ≡ c → (get_or ds k blank).state ≡ waiting → ⊥) → map (settle c o) ds ≡ ds
    map-none h =
        ext_get_or blank (map (settle c o) ds) ds (length-map ds (settle c o))
        (λ k g. let g' : k < length ds = rw length-map at g in
        get_or-map-in (settle c o) ds k blank blank g' ∙ settle_other (get_or ds k blank) (h k g'))

    map-one : (j : ℕ) → j < length ds → (get_or ds j blank).column ≡ c
        → ((k : ℕ) → k < length ds → (get_or ds k blank).column ≡ c → (get_or ds k blank).state ≡ waiting → k ≡ j)
        → map (settle c o) ds ≡ set ds j (settled o (get_or ds j blank))
    map-one j hj e h =
        ext_get_or blank (map (settle c o) ds) (set ds j (settled o (get_or ds j blank))) (length-map ds (settle c o) ∙ sym (length-set ds j _))
        (λ k g. let g' : k < length ds = rw length-map at g in
        get_or-map-in (settle c o) ds k blank blank g' ∙ go k g' (ℕ_discrete k j))
      where
        go : (k : ℕ) → k < length ds → Dec (k ≡ j) → settle c o (get_or ds k blank) ≡ get_or (set ds j (settled o (get_or ds j blank))) k blank
        go k g (yes q) =
            subst (λ (i : ℕ). settle c o (get_or ds i blank) ≡ get_or (set ds j (settled o (get_or ds j blank))) i blank) (sym q)
            (settle-this (get_or ds j blank) e ∙ sym (get_or-set_same ds j _ blank hj))
        go k g (no q) = settle_other (get_or ds k blank) (λ a w. q (h k g a w)) ∙ sym (get_or-set_other ds j k _ blank q)

-- the four bytes that end a head
patch : (o : Option ℕ) (d : NoteDraft) → d.state ≡ waiting → sets (draft_bytes d) 4 (bytes4 (end_number o)) ≡ draft_bytes (settled o d)
unfolding draft_bytes fields
patch o d w = ap (λ (s : State). fields d.row (state_number (settle_state o s)) d.column (number_of_kind d.kind)) (sym w)

-- ---- an open head is ended

module _ (l hs : List ℕ) (n : ℕ) (invalid : Bool) (ds : List NoteDraft) (S : Stored l hs n invalid ds) where
  module _ (c : ℕ) (hc : c < 10) (o : Option ℕ) (fo : FineEnd o) where
    settle-bytes : (t : Bool) → eqb (get_or hs c 0) no_head ≡ t
        → cond t l (sets l (get_or hs c 0 * 10 + 4) (bytes4 (end_number o))) ≡ joined (map draft_bytes (map (settle c o) ds)) ++ S.rest
    settle-bytes true q =
        let e : get_or hs c 0 ≡ no_head = eqb-true _ _ q in
        let f : n < no_head = S.few in
        let m : n ≡ length ds = S.count in
        rw (map-none c o ds (λ k h a w. let x : get_or hs c 0 ≡ k = subst (λ (i : ℕ). get_or hs i 0 ≡ k) a (S.waits k (omega arith) w) in omega arith))
        S.bytes
    settle-bytes false q =
        let p : (get_or hs c 0 < n) × ((get_or ds (get_or hs c 0) blank).column ≡ c) × ((get_or ds (get_or hs c 0) blank).state ≡ waiting) = S.heads c hc (eqb-false _ _ q) in
        let m : n ≡ length ds = S.count in
        let j : get_or hs c 0 < length ds = omega arith in
        rw (map-one c o ds (get_or hs c 0) j p.1 (λ k h a w. sym (subst (λ (i : ℕ). get_or hs i 0 ≡ k) a (S.waits k (omega arith) w))))
        (ap (λ (x : List ℕ). sets x (get_or hs c 0 * 10 + 4) (bytes4 (end_number o))) S.bytes
        ∙ blocks-sets draft_bytes ten-bytes ds S.rest (bytes4 (end_number o)) (get_or hs c 0) 4 blank
        (settled o (get_or ds (get_or hs c 0) blank)) j (omega arith) (patch o (get_or ds (get_or hs c 0) blank) p.2))

    at_map : (k : ℕ) → k < n → get_or (map (settle c o) ds) k blank ≡ settle c o (get_or ds k blank)
    at_map k h = let m : n ≡ length ds = S.count in get_or-map-in (settle c o) ds k blank blank (omega arith)

    settle-heads : (i : ℕ) → i < 10 → (get_or (set hs c no_head) i 0 ≡ no_head → ⊥) → Dec (i ≡ c)
        → (get_or (set hs c no_head) i 0 < n) × ((get_or (map (settle c o) ds) (get_or (set hs c no_head) i 0) blank).column ≡ i)
        × ((get_or (map (settle c o) ds) (get_or (set hs c no_head) i 0) blank).state ≡ waiting)
    settle-heads i h ne (yes q) =
        let t : length hs ≡ 10 = S.ten in
        absurd (ne (subst (λ (x : ℕ). get_or (set hs c no_head) x 0 ≡ no_head) (sym q) (get_or-set_same hs c no_head 0 (omega arith))))
    settle-heads i h ne (no q) =
        let e : get_or (set hs c no_head) i 0 ≡ get_or hs i 0 = get_or-set_other hs c i no_head 0 q in
        let p : (get_or hs i 0 < n) × ((get_or ds (get_or hs i 0) blank).column ≡ i) × ((get_or ds (get_or hs i 0) blank).state ≡ waiting) =
        S.heads i h (λ x. ne (e ∙ x)) in
        let s : get_or (map (settle c o) ds) (get_or hs i 0) blank ≡ get_or ds (get_or hs i 0) blank =
        at_map (get_or hs i 0) p.0 ∙ settle_other c o (get_or ds (get_or hs i 0) blank) (λ a w. q (sym p.1 ∙ a)) in
        rw (e, s) p

    -- `flag` says that a draft was dropped where one is
    module _ (flag : Bool) (keeps : flag ≡ false → (invalid ≡ false) × (o ≡ None → get_or hs c 0 ≡ no_head)) where
      settle-clean : Clean flag (map (settle c o) ds)
      settle-clean q k h e =
          let m : n ≡ length ds = S.count in
          let f : n < no_head = S.few in
          let h' : k < length ds = rw length-map at h in
          let d : NoteDraft = get_or ds k blank in
          let p : (d.column ≡ c) × (d.state ≡ waiting) × (o ≡ None) =
          settle-drops c o d (S.clean (keeps q).0 k h') (sym (ap (λ (x : NoteDraft). x.state) (at_map k (omega arith))) ∙ e) in
          let x : get_or hs c 0 ≡ k = subst (λ (i : ℕ). get_or hs i 0 ≡ k) p.0 (S.waits k (omega arith) p.1) in
          let y : get_or hs c 0 ≡ no_head = (keeps q).1 p.2 in
          omega arith

      pub stored-settle : Stored (end_head l hs c (end_number o)) (set hs c no_head) n flag (map (settle c o) ds)
      stored-settle = record {
        count = S.count ∙ sym (length-map ds (settle c o));
        few = S.few;
        rest = S.rest;
        bytes = settle-bytes (eqb (get_or hs c 0) no_head) refl;
        ten = length-set hs c no_head ∙ S.ten;
        waits = λ k h w.
            let p : ((get_or ds k blank).state ≡ waiting) × ((get_or ds k blank).column ≡ c → ⊥) =
            settle-waits c o (get_or ds k blank) (sym (ap (λ (d : NoteDraft). d.state) (at_map k h)) ∙ w) in
            ap (λ (i : ℕ). get_or (set hs c no_head) i 0) (ap (λ (d : NoteDraft). d.column) (at_map k h) ∙ settle-column c o (get_or ds k blank))
            ∙ get_or-set_other hs c (get_or ds k blank).column no_head 0 p.1 ∙ S.waits k h p.0;
        heads = λ i h ne. settle-heads i h ne (ℕ_discrete i c);
        fine = λ k h. rw (at_map k h) (settle-fine c o (get_or ds k blank) fo (S.fine k h));
        clean = settle-clean;
      }

  -- ---- a record is added

  module _ (b : NoteDraft) (f : Fine b) (room : n * 10 + 10 ≤ length l) (few : n + 1 < no_head) where
    long : 10 ≤ length S.rest
    long =
        let m : n ≡ length ds = S.count in
        let e : length l ≡ length (joined (map draft_bytes ds)) + length S.rest = ap length S.bytes ∙ length-append (joined (map draft_bytes ds)) S.rest in
        let g : length (joined (map draft_bytes ds)) ≡ length ds * 10 = blocks-length draft_bytes ten-bytes ds in
        omega arith

    more_bytes : sets l (n * 10) (draft_bytes b) ≡ joined (map draft_bytes (ds ++ (b ∷ []))) ++ drop 10 S.rest
    more_bytes =
        ap₂ (λ (x : List ℕ) (k : ℕ). sets x (k * 10) (draft_bytes b))
        (S.bytes ∙ ap (λ (r : List ℕ). joined (map draft_bytes ds) ++ r) (sym (take-append-drop 10 S.rest))) S.count
        ∙ blocks_more draft_bytes ten-bytes ds (take 10 S.rest) (drop 10 S.rest) b
        (length-take 10 S.rest ∙ (let h : 10 ≤ length S.rest = long in omega arith))

    more-count : n + 1 ≡ length (ds ++ (b ∷ []))
    more-count = let m : n ≡ length ds = S.count in simp length-append (omega arith)

    at_old : (k : ℕ) → k < n → get_or (ds ++ (b ∷ [])) k blank ≡ get_or ds k blank
    at_old k h = let m : n ≡ length ds = S.count in get_or-append ds (b ∷ []) blank k (omega arith)

    at_new : get_or (ds ++ (b ∷ [])) n blank ≡ b
    at_new = get_or_at ds b [] blank n (sym S.count)

    below : (P : ℕ → Type 0) → ((k : ℕ) → k < n → P k) → P n → (k : ℕ) → k < n + 1 → P k
    below P h g k q = go (ℕ_discrete k n)
      where
        go : Dec (k ≡ n) → P k
        go (yes e) = subst P (sym e) g
        go (no e) = h k (omega arith)

    more-fine : (k : ℕ) → k < n + 1 → Fine (get_or (ds ++ (b ∷ [])) k blank)
    more-fine = below (λ (k : ℕ). Fine (get_or (ds ++ (b ∷ [])) k blank)) (λ k h. rw (at_old k h) (S.fine k h)) (rw at_new f)

    more-clean : (b.state ≡ ended None → ⊥) → Clean invalid (ds ++ (b ∷ []))
    more-clean ne q k h =
        let m : n + 1 ≡ length (ds ++ (b ∷ [])) = more-count in
        let m' : n ≡ length ds = S.count in
        below (λ (i : ℕ). (get_or (ds ++ (b ∷ [])) i blank).state ≡ ended None → ⊥)
        (λ i g. rw (at_old i g) (S.clean q i (omega arith))) (rw at_new ne) k (omega arith)

    old-waits : (k : ℕ) → k < n → (get_or (ds ++ (b ∷ [])) k blank).state ≡ waiting → get_or hs (get_or (ds ++ (b ∷ [])) k blank).column 0 ≡ k
    old-waits k h = rw (at_old k h) (S.waits k h)

    old-heads : (i : ℕ) → i < 10 → (get_or hs i 0 ≡ no_head → ⊥)
        → (get_or hs i 0 < n + 1) × ((get_or (ds ++ (b ∷ [])) (get_or hs i 0) blank).column ≡ i) × ((get_or (ds ++ (b ∷ [])) (get_or hs i 0) blank).state ≡ waiting)
    old-heads i h ne =
        let p : (get_or hs i 0 < n) × ((get_or ds (get_or hs i 0) blank).column ≡ i) × ((get_or ds (get_or hs i 0) blank).state ≡ waiting) = S.heads i h ne in
        rw (at_old (get_or hs i 0) p.0) (omega (arith, p.0), p.1, p.2)

    pub stored-plain : b.state ≡ plain → Stored (sets l (n * 10) (draft_bytes b)) hs (n + 1) invalid (ds ++ (b ∷ []))
    stored-plain w = record {
      count = more-count;
      few = few;
      rest = drop 10 S.rest;
      bytes = more_bytes;
      ten = S.ten;
      waits = below (λ (k : ℕ). (get_or (ds ++ (b ∷ [])) k blank).state ≡ waiting → get_or hs (get_or (ds ++ (b ∷ [])) k blank).column 0 ≡ k)
          old-waits
          (λ e. let p : plain ≡ waiting = sym w ∙ sym (ap (λ (d : NoteDraft). d.state) at_new) ∙ e in let z : ◌≡◌ {A = ℕ} 0 1 = cc in absurd (omega arith));
      heads = old-heads;
      fine = more-fine;
      clean = more-clean (λ e. let p : plain ≡ ended None = sym w ∙ e in let z : ◌≡◌ {A = ℕ} 0 1 = cc in omega arith);
    }

    pub stored-head : b.state ≡ waiting → get_or hs b.column 0 ≡ no_head
        → Stored (sets l (n * 10) (draft_bytes b)) (set hs b.column n) (n + 1) invalid (ds ++ (b ∷ []))
    stored-head w free = record {
      count = more-count;
      few = few;
      rest = drop 10 S.rest;
      bytes = more_bytes;
      ten = length-set hs b.column n ∙ S.ten;
      waits = below (λ (k : ℕ). (get_or (ds ++ (b ∷ [])) k blank).state ≡ waiting → get_or (set hs b.column n) (get_or (ds ++ (b ∷ [])) k blank).column 0 ≡ k)
          (λ k h e. get_or-set_other hs b.column (get_or (ds ++ (b ∷ [])) k blank).column n 0
          (λ q. let x : get_or hs (get_or (ds ++ (b ∷ [])) k blank).column 0 ≡ k = old-waits k h e in
          let y : get_or hs (get_or (ds ++ (b ∷ [])) k blank).column 0 ≡ no_head = ap (λ (i : ℕ). get_or hs i 0) q ∙ free in omega arith)
          ∙ old-waits k h e)
          (λ e. rw at_new at_n);
      heads = λ i h ne. new-heads i h ne (ℕ_discrete i b.column);
      fine = more-fine;
      clean = more-clean (λ e. let p : waiting ≡ ended None = sym w ∙ e in let z : ◌≡◌ {A = ℕ} 0 1 = cc in omega arith);
    }
      where
        at_n : get_or (set hs b.column n) b.column 0 ≡ n
        at_n = let t : length hs ≡ 10 = S.ten in let g : b.column < 10 = f.column in get_or-set_same hs b.column n 0 (omega arith)

        new-heads : (i : ℕ) → i < 10 → (get_or (set hs b.column n) i 0 ≡ no_head → ⊥) → Dec (i ≡ b.column)
            → (get_or (set hs b.column n) i 0 < n + 1) × ((get_or (ds ++ (b ∷ [])) (get_or (set hs b.column n) i 0) blank).column ≡ i)
            × ((get_or (ds ++ (b ∷ [])) (get_or (set hs b.column n) i 0) blank).state ≡ waiting)
        new-heads i h ne (yes q) = rw (q, at_n, at_new) (omega arith, refl, w)
        new-heads i h ne (no q) =
            let e : get_or (set hs b.column n) i 0 ≡ get_or hs i 0 = get_or-set_other hs b.column i n 0 q in
            rw e (old-heads i h (λ x. ne (e ∙ x)))
