-- What is written for a text's notes has the cells that are written alone, drops no head, and closes one with each 3.
use mathlib.Core.Path.{◌≡◌, refl, ap, ap₂, sym, ◌∙◌, subst}
use mathlib.Core.Logic.{◌⊎◌, inl, inr}
use mathlib.Core.Bool.{Bool, true, false, cond, ◌&&◌, ◌||◌, false≢true}
use mathlib.Core.List.{List, [], ◌∷◌}
use Prim.Native.Nat.{ℕ, zero, suc, ◌+◌, ◌≤◌}
use native.Mathlib.Nat.{zero-add}
use native.Mathlib.Omega.{arith}
use borrow.Author.Tests.{eq-eqb}
use lib.Dec.{eqb}
use lib.ListN.{get_or}
use Rattle.definitions.specs.Lists.{number_of_bool, among, joined}
use Rattle.definitions.specs.Lines.{Row}
use Rattle.definitions.specs.Reduction.{minimised}
use Rattle.definitions.specs.Figures.{minimised_text}
use Rattle.definitions.specs.ReadBack.{rows_read_back}
use Rattle.definitions.specs.Notes.{notes}
use Rattle.definitions.specs.Damage.{is_head, byte_in}
use Rattle.definitions.specs.Dropped.{dropped_heads}
use Rattle.definitions.specs.DroppedOrNoted.{listed, noted}
use Rattle.definitions.specs.Written.{letter_of, headed, tailed, written_cell, written_row, written_rows, written_from, written_measures, written_text, sum_of}
use Rattle.definitions.specs.WrittenBack.{row_counts, written_letters, some_tailed, Whole}
use Rattle.definitions.specs.declared.Kind.{Kind}
use Rattle.definitions.specs.declared.Kind.TheVariants.{Tap, Hold, Roll, Mine, Lift, Fake}
use Rattle.definitions.specs.declared.Note.{Note}
use Rattle.definitions.specs.declared.DroppedHead.{DroppedHead}
use Rattle.definitions.proofs.Lists.{count-cons}
use Rattle.definitions.proofs.ChartRows.{minimised-rows}
use Rattle.definitions.proofs.OwnRows.{text-back}
use Rattle.definitions.proofs.DroppedOrNoted.{dropped-or-noted}
use Rattle.definitions.proofs.Written.Same.{same-test}
use Rattle.definitions.proofs.Written.Text.{from-written, chart-rows, rows-joined}

-- a cell of written rows is a `0` past their ends, else as it was written
row-cell : (ns : List Note) (i d k m : ℕ) → (get_or (written_row ns i d k) m 48 ≡ 48) ⊎ (get_or (written_row ns i d k) m 48 ≡ written_cell ns i (d + m))
row-cell ns i d zero m = inl refl
row-cell ns i d (suc k) zero = let e : d ≡ d + 0 = omega arith in inr (ap (written_cell ns i) e)
row-cell ns i d (suc k) (suc m) = let e : suc d + m ≡ d + suc m = omega arith in go (row-cell ns i (suc d) k m) (ap (written_cell ns i) e)
  where
    go : {x y z : ℕ} → (x ≡ 48) ⊎ (x ≡ y) → y ≡ z → (x ≡ 48) ⊎ (x ≡ z)
    go (inl e) f = inl e
    go (inr e) f = inr (e ∙ f)

rows-cell : (L : ℕ) (ns : List Note) (k n m c : ℕ) → (byte_in (written_rows L ns k n) m c ≡ 48) ⊎ (byte_in (written_rows L ns k n) m c ≡ written_cell ns (k + m) c)
rows-cell L ns k zero m c = inl refl
rows-cell L ns k (suc n) zero c =
    let e : k ≡ k + 0 = omega arith in
    let f : 0 + c ≡ c = omega arith in
    go (row-cell ns k 0 L c) (ap (written_cell ns k) f ∙ ap (λ i. written_cell ns i c) e)
  where
    go : {x y z : ℕ} → (x ≡ 48) ⊎ (x ≡ y) → y ≡ z → (x ≡ 48) ⊎ (x ≡ z)
    go (inl e) f = inl e
    go (inr e) f = inr (e ∙ f)
rows-cell L ns k (suc n) (suc m) c =
    let e : suc k + m ≡ k + suc m = omega arith in
    go (rows-cell L ns (suc k) n m c) (ap (λ i. written_cell ns i c) e)
  where
    go : {x y z : ℕ} → (x ≡ 48) ⊎ (x ≡ y) → y ≡ z → (x ≡ 48) ⊎ (x ≡ z)
    go (inl e) f = inl e
    go (inr e) f = inr (e ∙ f)

-- what holds of 48 and of each written cell holds of each
by-written : (P : ℕ → Type 0) (L : ℕ) (ns : List Note) (n : ℕ) (rows : List Row) → rows ≡ written_rows L ns 0 n → P 48 → (i c : ℕ) → P (written_cell ns i c) → P (byte_in rows i c)
by-written P L ns n rows e p i c q = subst (λ rs. P (byte_in rs i c)) (sym e) (go (rows-cell L ns 0 n i c))
  where
    go : (byte_in (written_rows L ns 0 n) i c ≡ 48) ⊎ (byte_in (written_rows L ns 0 n) i c ≡ written_cell ns (0 + i) c) → P (byte_in (written_rows L ns 0 n) i c)
    go (inl f) = subst P (sym f) p
    go (inr f) = subst P (sym (f ∙ ap (λ k. written_cell ns k c) (zero-add i))) q

kind-among : (k : Kind) → among (letter_of k) written_letters ≡ true
kind-among Tap = refl
kind-among Hold = refl
kind-among Roll = refl
kind-among Mine = refl
kind-among Lift = refl
kind-among Fake = refl

cell-among : (ns : List Note) (i c : ℕ) → among (written_cell ns i c) written_letters ≡ true
cell-among [] i c = refl
cell-among (y ∷ ns) i c = go (headed i c y) (tailed i c y) (cell-among ns i c)
  where
    go : (s t : Bool) → among (written_cell ns i c) written_letters ≡ true → among (cond s (letter_of y.kind) (cond t 51 (written_cell ns i c))) written_letters ≡ true
    go true t h = kind-among y.kind
    go false true h = refl
    go false false h = h

no-tail : (k : Kind) → letter_of k ≡ 51 → ⊥
no-tail Tap e = omega arith
no-tail Hold e = omega arith
no-tail Roll e = omega arith
no-tail Mine e = omega arith
no-tail Lift e = omega arith
no-tail Fake e = omega arith

cell-tailed : (ns : List Note) (i c : ℕ) → written_cell ns i c ≡ 51 → some_tailed i c ns ≡ true
cell-tailed [] i c e = absurd (omega arith)
cell-tailed (y ∷ ns) i c e = go (headed i c y) (tailed i c y) e (cell-tailed ns i c)
  where
    go : (s t : Bool) → cond s (letter_of y.kind) (cond t 51 (written_cell ns i c)) ≡ 51 → (written_cell ns i c ≡ 51 → some_tailed i c ns ≡ true) → (t || some_tailed i c ns) ≡ true
    go true t f h = absurd (no-tail y.kind f)
    go false true f h = refl
    go false false f h = h f

cell-noted : (ns : List Note) (i c : ℕ) → is_head (written_cell ns i c) ≡ true → 1 ≤ noted i c ns
unfolding is_head
cell-noted [] i c e = absurd (false≢true e)
cell-noted (y ∷ ns) i c e = go (headed i c y) refl (tailed i c y) e (cell-noted ns i c)
  where
    go : (s : Bool) → headed i c y ≡ s → (t : Bool) → is_head (cond s (letter_of y.kind) (cond t 51 (written_cell ns i c))) ≡ true
        → (is_head (written_cell ns i c) ≡ true → 1 ≤ noted i c ns) → 1 ≤ noted i c (y ∷ ns)
    go true q t f h = omega (arith, count-cons (headed i c) y ns, ap number_of_bool q)
    go false q true f h = absurd (false≢true f)
    go false q false f h = omega (arith, count-cons (headed i c) y ns, h f)

empty-no-head : is_head 48 ≡ true → (k : ℕ) → 1 ≤ k
unfolding is_head
empty-no-head h k = absurd (false≢true h)

-- A text whose rows are those that are written for its notes drops no head.
pub no-drops : (L : ℕ) (text : List ℕ) (n : ℕ) → joined (minimised L text) ≡ written_rows L (notes L text) 0 n → dropped_heads L text ≡ []
no-drops L text n e = go (dropped_heads L text) refl
  where
    noted-head : (i c : ℕ) → is_head (byte_in (joined (minimised L text)) i c) ≡ true → 1 ≤ noted i c (notes L text)
    noted-head i c = by-written (λ b. is_head b ≡ true → 1 ≤ noted i c (notes L text)) L (notes L text) n (joined (minimised L text)) e (λ h. empty-no-head h (noted i c (notes L text))) i c (cell-noted (notes L text) i c)

    stands : (d : DroppedHead) (ds : List DroppedHead) → 1 ≤ listed d.row d.column (d ∷ ds)
    stands d ds =
        omega (
          arith,
          count-cons (λ (x : DroppedHead). eqb x.row d.row && eqb x.column d.column) d ds,
          ap number_of_bool (ap₂ (λ s t. s && t) (eq-eqb d.row d.row refl) (eq-eqb d.column d.column refl)),
        )

    never : (d : DroppedHead) → 1 ≤ listed d.row d.column (dropped_heads L text) → (t : Bool) → is_head (byte_in (joined (minimised L text)) d.row d.column) ≡ t → ⊥
    never d h true f = omega (arith, h, (dropped-or-noted L text).heads d.row d.column f, noted-head d.row d.column f)
    never d h false f = omega (arith, h, (dropped-or-noted L text).others d.row d.column f)

    go : (l : List DroppedHead) → dropped_heads L text ≡ l → l ≡ []
    go [] f = refl
    go (d ∷ ds) f =
        absurd (never d (subst (λ l. 1 ≤ listed d.row d.column l) (sym f) (stands d ds)) (is_head (byte_in (joined (minimised L text)) d.row d.column)) refl)

pub only-whole : (L : ℕ) (text : List ℕ) → 1 ≤ L → written_text L (notes L text) (row_counts L text) ≡ minimised_text L text → Whole L text
unfolding written_text written_measures minimised_text
only-whole L text some e =
    let ns : List Note = notes L text in
    let counts : List ℕ = row_counts L text in
    let back : joined (minimised L text) ≡ written_rows L ns 0 (sum_of counts) =
    sym (text-back L (minimised L text) some (minimised-rows L text some))
    ∙ ap (rows_read_back L) (sym e)
    ∙ text-back L (written_from L ns 0 counts) some (chart-rows (from-written L ns 0 counts))
    ∙ rows-joined L ns 0 counts in
    record {
      letters =
          λ i c.
          same-test _ _
          (omega (arith, ap number_of_bool (by-written (λ b. among b written_letters ≡ true) L ns (sum_of counts) (joined (minimised L text)) back refl i c (cell-among ns i c))));
      none_dropped = rw (no-drops L text (sum_of counts) back) refl;
      tails =
          λ i c h.
          same-test _ _
          (omega (
            arith,
            ap number_of_bool
                (by-written (λ b. b ≡ 51 → some_tailed i c ns ≡ true) L ns (sum_of counts) (joined (minimised L text)) back (λ h. absurd (omega arith)) i c (cell-tailed ns i c) h),
          ));
    }
