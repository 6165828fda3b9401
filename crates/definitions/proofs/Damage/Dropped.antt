-- Damage in one measure leaves the list of dropped heads alone elsewhere.
use mathlib.Core.Path.{◌≡◌, refl, ap, sym, ◌∙◌, subst₂}
use mathlib.Core.Logic.{◌⊎◌, inl, inr}
use mathlib.Core.Bool.{true, false, ◌&&◌, not, true≢false}
use mathlib.Core.List.{List, [], ◌++◌, append_assoc}
use Prim.Native.Nat.{ℕ, suc, ◌+◌}
use native.Mathlib.Omega.{arith}
use lib.Dec.{eqb, ltb, leb}
use lib.ListN.{length, length-append}
use Rattle.std.specs.List.{filter, AllZip}
use Rattle.definitions.specs.Lists.{joined}
use Rattle.definitions.specs.Lines.{Row}
use Rattle.definitions.specs.Reduction.{minimised}
use Rattle.definitions.specs.Entries.{row_count}
use Rattle.definitions.specs.Dropped.{fate_of, if_dropped, cell_drops, drops_from, dropped_heads}
use Rattle.definitions.specs.Damage.{Differ, rows_above, rows_of, rows_later, open_in}
use Rattle.definitions.specs.DroppedStays.{earlier_drops, later_drops, ShiftedDrop, UnlistedOrLate, DroppedStays}
use Rattle.definitions.specs.declared.NoteEffect.{NoteEffect}
use Rattle.definitions.specs.declared.NoteEffect.TheVariants.{Nothing, Closes, Single, Head}
use Rattle.definitions.specs.declared.DroppedHead.{DroppedHead}
use Rattle.definitions.specs.declared.Fate.{Fate}
use Rattle.definitions.specs.declared.Fate.TheVariants.{ClosedAt, DroppedBy}
use Rattle.definitions.proofs.Lists.{All, none as all_none, one as all_one, parts, parts-suc}
use Rattle.definitions.proofs.Damage.Bytes.{heading}
use Rattle.definitions.proofs.Damage.Stays.{same_before, same-later}
use Rattle.definitions.proofs.Damage.Made.{ShiftedFate, closes, drops, LateFate, late-fate, made_in, before-part, after-part, made-shift, earlier-left, open-made}

abbrev row_of : DroppedHead → ℕ
row_of x = x.row

abbrev column_of : DroppedHead → ℕ
column_of x = x.column

dropped_at : (i c : ℕ) (f : Fate) → All (λ (a : DroppedHead). (a.row ≡ i) × (a.column ≡ c)) (if_dropped i c f)
dropped_at i c (ClosedAt j) = all_none
dropped_at i c (DroppedBy x) = all_one (refl, refl) all_none

cell_at : (x : NoteEffect) (i c : ℕ) (f : Fate) → All (λ (a : DroppedHead). (a.row ≡ i) × (a.column ≡ c)) (cell_drops x i c f)
cell_at Nothing i c f = all_none
cell_at Closes i c f = all_none
cell_at (Single k) i c f = all_none
cell_at (Head k) i c f = dropped_at i c f

others-same : (x : NoteEffect) → heading x ≡ false → (i c : ℕ) (f g : Fate) → cell_drops x i c f ≡ cell_drops x i c g
others-same Nothing h i c f g = refl
others-same Closes h i c f g = refl
others-same (Single k) h i c f g = refl
others-same (Head k) h i c f g = absurd (true≢false h)

cell-shift : (a b : ℕ) (x : NoteEffect) (i j c : ℕ) → j + a ≡ i + b → (f g : Fate) → ShiftedFate a b f g → AllZip (ShiftedDrop a b) (cell_drops x i c f) (cell_drops x j c g)
cell-shift a b Nothing i j c e f g h = tt
cell-shift a b Closes i j c e f g h = tt
cell-shift a b (Single k) i j c e f g h = tt
cell-shift a b (Head k) i j c e _ _ (closes w) = tt
cell-shift a b (Head k) i j c e _ _ (drops w) = (record { row = omega (arith, e); cause = w; column = refl }, tt)

-- the list of a text, parted at measure d
drops-parts : (L d : ℕ) (text : List ℕ) → dropped_heads L text ≡ drops_from 0 (rows_above L d text ++ (rows_of L d text ++ rows_later L d text))
unfolding dropped_heads
drops-parts L d text = ap (drops_from 0) (parts d (minimised L text))

earlier-is : (L d : ℕ) (text : List ℕ)
    → earlier_drops L d text ≡ made_in row_of column_of cell_drops cell_at 0 (rows_above L d text) (rows_of L d text ++ rows_later L d text)
earlier-is L d text =
    ap (filter (λ x. ltb x.row (length (rows_above L d text)))) (drops-parts L d text)
    ∙ before-part row_of column_of cell_drops cell_at (rows_above L d text) (rows_of L d text ++ rows_later L d text)

later-is : (L d : ℕ) (text : List ℕ) → later_drops L d text ≡ drops_from (length (rows_above L d text) + length (rows_of L d text)) (rows_later L d text)
unfolding dropped_heads
later-is L d text =
    let ms : List (List Row) = minimised L text in
    let before : List Row = rows_above L (suc d) text in
    let after : List Row = rows_later L d text in
    ap (λ rows. filter (λ x. leb (length before) x.row) (drops_from 0 rows))
    (parts d ms ∙ sym (append_assoc (rows_above L d text) (rows_of L d text) after) ∙ ap (λ r. r ++ after) (sym (parts-suc d ms)))
    ∙ after-part row_of column_of cell_drops cell_at before after
    ∙ ap (λ n. drops_from n after) (ap length (parts-suc d ms) ∙ length-append (rows_above L d text) (rows_of L d text))

-- a head that is open where q begins is not listed, or once and dropped late
if-late : (s n i c : ℕ) (f : Fate) (ds : List DroppedHead) → LateFate s n f
    → (filter (λ (x : DroppedHead). eqb x.row i && eqb x.column c) ds ≡ []) ⊎ (filter (λ (x : DroppedHead). eqb x.row i && eqb x.column c) ds ≡ if_dropped i c f)
    → UnlistedOrLate s n i c ds
unfolding UnlistedOrLate
if-late s n i c f ds late (inl p) = inl p
if-late s n i c (ClosedAt j) ds late (inr p) = inl p
if-late s n i c (DroppedBy x) ds late (inr p) = inr (x, late, p)

module _ (L d : ℕ) (old new : List ℕ) (x : Differ L d old new) where
  above : rows_above L d old ≡ rows_above L d new
  above = same_before L d old new x

  later : AllZip (ShiftedDrop (length (rows_of L d old)) (length (rows_of L d new))) (later_drops L d old) (later_drops L d new)
  later =
      let a : ℕ = length (rows_of L d old) in
      let b : ℕ = length (rows_of L d new) in
      let s : ℕ = length (rows_above L d old) in
      let t : ℕ = length (rows_above L d new) in
      let e : s ≡ t = ap length above in
      subst₂ (AllZip (ShiftedDrop a b)) (sym (later-is L d old)) (ap (λ q. drops_from (t + b) (joined q)) (same-later L d old new x) ∙ sym (later-is L d new))
      (made-shift row_of column_of cell_drops cell_at (ShiftedDrop a b) a b (cell-shift a b) (s + a) (t + b) (omega arith) (rows_later L d old))

  earlier : filter (λ x. not (open_in (rows_above L d old) x.row x.column)) (earlier_drops L d old)
      ≡ filter (λ x. not (open_in (rows_above L d new) x.row x.column)) (earlier_drops L d new)
  earlier =
      let q : List Row = rows_of L d old ++ rows_later L d old in
      let q' : List Row = rows_of L d new ++ rows_later L d new in
      ap (filter (λ x. not (open_in (rows_above L d old) x.row x.column))) (earlier-is L d old)
      ∙ earlier-left row_of column_of cell_drops cell_at others-same (rows_above L d old) q q'
      ∙ ap (λ ps. filter (λ x. not (open_in ps x.row x.column)) (made_in row_of column_of cell_drops cell_at 0 ps q')) above
      ∙ ap (filter (λ x. not (open_in (rows_above L d new) x.row x.column))) (sym (earlier-is L d new))

  open_heads : (text : List ℕ) → rows_above L d old ≡ rows_above L d text → (i c : ℕ) → open_in (rows_above L d old) i c ≡ true
      → UnlistedOrLate (length (rows_above L d old)) (row_count L text) i c (dropped_heads L text)
  open_heads text e i c h =
      let ps : List Row = rows_above L d old in
      let q : List Row = rows_of L d text ++ rows_later L d text in
      rw (drops-parts L d text, parts d (minimised L text), ← e)
      (if-late (length ps) (length (ps ++ q)) i c (fate_of c (length ps) q) (drops_from 0 (ps ++ q))
      (late-fate c (length ps) (length (ps ++ q)) q (sym (length-append ps q)))
      (open-made row_of column_of cell_drops cell_at i c ps q h))

  pub dropped-stays : DroppedStays L d old new
  dropped-stays =
      record {
        later = later;
        earlier = earlier;
        open_heads = λ i c h. (open_heads old refl i c h, open_heads new above i c h);
      }
