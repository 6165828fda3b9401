-- Where rows stand in the text, and that a cell put there is that of the notes.
use mathlib.Core.Path.{◌≡◌, refl, ap, ap₂, sym, ◌∙◌}
use mathlib.Core.Logic.{◌⊎◌, inl, inr}
use mathlib.Core.Bool.{Bool, true, false, cond, ◌&&◌}
use mathlib.Core.List.{List, [], ◌∷◌, ◌++◌}
use Prim.Native.Nat.{ℕ, zero, suc, ◌+◌, ◌-◌, ◌*◌, ◌≤◌, ◌<◌}
use native.Mathlib.Nat.{mul-suc, mul-add, mul-zero, mul-le-mul_left}
use native.Mathlib.Omega.{arith}
use borrow.Author.Tests.{eq-eqb, ne_eqb, lt-ltb, le-ltb, ltb-true, ltb-false}
use lib.Dec.{eqb, ltb}
use lib.ListN.{length, drop, get_or}
use Rattle.std.proofs.Common.{set}
use Rattle.std.proofs.lemmas.List.{set-append_left, set-append_right}
use Rattle.definitions.specs.Lines.{Row}
use Rattle.definitions.specs.Figures.{row_text, text_of}
use Rattle.definitions.specs.Written.{written_cell, written_row, written_rows, written_from, written_measures, written_text, written_length, sum_of}
use Rattle.definitions.specs.declared.Note.{Note}
use Rattle.written.specs.Places.{row_place, MeasureAt, FirstPlace, PlaceOf}
use Rattle.written.specs.declared.places.Place.{Place}
use Rattle.written.proofs.Parts.{drop-next, drop-end}
use Rattle.written.proofs.Texts.{row-size, rows-size}

-- ---- Places
more : (L a b : ℕ) → a < b → (L + 1) * a + (L + 1) ≤ (L + 1) * b
more L a b h = let e : a + 1 ≡ suc a = omega arith in omega (arith, mul-suc (L + 1) a, mul-le-mul_left (L + 1) (up a b h))
  where
    up : (a b : ℕ) → a < b → suc a ≤ b
    up a b h = omega arith

place-room : (L : ℕ) (counts : List ℕ) (i : ℕ) → i < sum_of counts → row_place L counts i + (L + 1) ≤ (L + 1) * sum_of counts + 2 * (length counts - 1)
place-room L [] i h = absurd (omega arith)
place-room L (n ∷ counts) i h = at (ltb i n) refl (place-room L counts (i - n))
  where
    at : (t : Bool) → ltb i n ≡ t → (i - n < sum_of counts → row_place L counts (i - n) + (L + 1) ≤ (L + 1) * sum_of counts + 2 * (length counts - 1))
        → cond t ((L + 1) * i) ((L + 1) * n + 2 + row_place L counts (i - n)) + (L + 1) ≤ (L + 1) * (n + sum_of counts) + 2 * (suc (length counts) - 1)
    at true e r = omega (arith, more L i n (ltb-true i n e), mul-add (L + 1) n (sum_of counts))
    at false e r =
        let k = ltb-false i n e in
        let some : 1 ≤ length counts = given counts (omega arith) in
        omega (arith, r (omega arith), mul-add (L + 1) n (sum_of counts))
      where
        given : (l : List ℕ) → 0 < sum_of l → 1 ≤ length l
        given [] q = absurd (omega arith)
        given (m ∷ l) q = omega arith

pub cell-room : (L : ℕ) (counts : List ℕ) (i c : ℕ) → i < sum_of counts → c < L → row_place L counts i + c < written_length L counts
unfolding written_length
cell-room L counts i c h q = omega (arith, place-room L counts i h)

pub place-first : (p : Place) → p.measure ≡ 0 → p.first ≡ 0 → p.at ≡ 0 → FirstPlace p
place-first p e f g L counts =
    record {
      within = omega (arith, e);
      sum = rw (e, f) (none (sum_of counts));
      rows = λ i h. let a : i ≡ i - 0 = omega arith in rw (e, f, g) (ap (row_place L counts) a ∙ none (row_place L counts (i - 0)));
    }
  where
    none : (n : ℕ) → n ≡ 0 + n
    none n = omega arith

module _ {L : ℕ} {counts : List ℕ} {p : Place} (x : MeasureAt L counts p) (h : p.measure < length counts) where
  abbrev n : ℕ
  n = get_or counts p.measure 0

  here : (i : ℕ) → row_place L (drop p.measure counts) i ≡ cond (ltb i n) ((L + 1) * i) ((L + 1) * n + 2 + row_place L (drop (p.measure + 1) counts) (i - n))
  here i = ap (λ l. row_place L l i) (drop-next counts p.measure 0 h)

  pub place-next : (i : ℕ) → p.first ≤ i → n ≤ i - p.first → (p' : Place) → p'.measure ≡ p.measure + 1 → p'.first ≡ p.first + n → p'.at ≡ p.at + (L + 1) * n + 2 → MeasureAt L counts p'
  place-next i a b p' e f g =
      record {
        within = omega (arith, e);
        sum = rw (e, f) (omega (arith, x.sum, ap sum_of (drop-next counts p.measure 0 h)));
        rows = λ j q. rw (e, f, g) (row j (omega (arith, q, f)));
      }
    where
      row : (j : ℕ) → p.first + n ≤ j → row_place L counts j ≡ p.at + (L + 1) * n + 2 + row_place L (drop (p.measure + 1) counts) (j - (p.first + n))
      row j q =
          let s : j - p.first - n ≡ j - (p.first + n) = omega arith in
          omega (
            arith,
            x.rows j (omega arith),
            here (j - p.first) ∙ ap (λ t. cond t ((L + 1) * (j - p.first)) ((L + 1) * n + 2 + row_place L (drop (p.measure + 1) counts) (j - p.first - n))) (le-ltb (j - p.first) n (omega arith)),
            ap (row_place L (drop (p.measure + 1) counts)) s,
          )

  pub place-cell : (i : ℕ) → p.first ≤ i → i - p.first < n → row_place L counts i ≡ p.at + (L + 1) * (i - p.first)
  place-cell i a b =
      x.rows i a
      ∙ ap (λ k. p.at + k)
      (here (i - p.first) ∙ ap (λ t. cond t ((L + 1) * (i - p.first)) ((L + 1) * n + 2 + row_place L (drop (p.measure + 1) counts) (i - p.first - n))) (lt-ltb (i - p.first) n b))

  pub place-few : p.first + n ≤ sum_of counts
  place-few = omega (arith, x.sum, ap sum_of (drop-next counts p.measure 0 h))

-- past the last measure there is no row
pub place-end : {L : ℕ} {counts : List ℕ} {p : Place} → MeasureAt L counts p → length counts ≤ p.measure → (i : ℕ) → p.first ≤ i → i < sum_of counts → ⊥
place-end {L} {counts} {p} x h i a b = let e = ap sum_of (drop-end counts p.measure h) in let s = x.sum in omega arith

-- ---- One cell is another
module _ (L : ℕ) (ns ns' : List Note) (row column v : ℕ) (low : column < L)
    (differ : (i c : ℕ) → written_cell ns' i c ≡ cond (eqb row i && eqb column c) v (written_cell ns i c)) where
  same-cell : (i c : ℕ) → (eqb row i && eqb column c) ≡ false → written_cell ns' i c ≡ written_cell ns i c
  same-cell i c e = differ i c ∙ ap (λ b. cond b v (written_cell ns i c)) e

  row-other : (i c k : ℕ) → (i ≡ row → ⊥) → written_row ns' i c k ≡ written_row ns i c k
  row-other i c zero f = refl
  row-other i c (suc k) f = ap₂ {C = List ℕ} (λ x l. x ∷ l) (same-cell i c (ap (λ b. b && eqb column c) (ne_eqb row i (λ e. f (sym e))))) (row-other i (suc c) k f)

  and-none : (b : Bool) → (b && false) ≡ false
  and-none true = refl
  and-none false = refl

  cell-off : (c : ℕ) → (c ≡ column → ⊥) → written_cell ns' row c ≡ written_cell ns row c
  cell-off c f = same-cell row c (ap (λ b. eqb row row && b) (ne_eqb column c (λ e. f (sym e))) ∙ and-none (eqb row row))

  row-past : (c k : ℕ) → column < c → written_row ns' row c k ≡ written_row ns row c k
  row-past c zero h = refl
  row-past c (suc k) h = ap₂ {C = List ℕ} (λ x l. x ∷ l) (cell-off c (λ e. omega arith)) (row-past (suc c) k (omega arith))

  row-here : (d c k : ℕ) → c + d ≡ column → written_row ns' row c k ≡ set (written_row ns row c k) d v
  row-here d c zero e = empty d
    where
      empty : (d : ℕ) → ◌≡◌ {A = List ℕ} [] (set [] d v)
      empty zero = refl
      empty (suc d) = refl
  row-here zero c (suc k) e =
      let f : c ≡ column = omega arith in
      ap₂ {C = List ℕ} (λ x l. x ∷ l)
      (differ row c ∙ ap₂ (λ a b. cond (a && b) v (written_cell ns row c)) (eq-eqb row row refl) (eq-eqb column c (sym f)))
      (row-past (suc c) k (omega arith))
  row-here (suc d) c (suc k) e = ap₂ {C = List ℕ} (λ x l. x ∷ l) (cell-off c (λ f. omega arith)) (row-here d (suc c) k (omega arith))

  rows-other : (i k : ℕ) → (row < i) ⊎ (i + k ≤ row) → written_rows L ns' i k ≡ written_rows L ns i k
  rows-other i zero o = refl
  rows-other i (suc k) (inl h) = ap₂ {C = List Row} (λ r l. r ∷ l) (row-other i 0 L (λ e. omega arith)) (rows-other (suc i) k (inl (omega arith)))
  rows-other i (suc k) (inr h) = ap₂ {C = List Row} (λ r l. r ∷ l) (row-other i 0 L (λ e. omega arith)) (rows-other (suc i) k (inr (omega arith)))

  from-other : (i : ℕ) (counts : List ℕ) → row < i → written_from L ns' i counts ≡ written_from L ns i counts
  from-other i [] h = refl
  from-other i (n ∷ counts) h = ap₂ {C = List (List Row)} (λ r l. r ∷ l) (rows-other i n (inl h)) (from-other (i + n) counts (omega arith))

  rows-here : (d i k : ℕ) → i + d ≡ row → d < k → row_text (written_rows L ns' i k) ≡ set (row_text (written_rows L ns i k)) ((L + 1) * d + column) v
  rows-here d i zero e h = absurd (omega arith)
  rows-here zero i (suc k) e h =
      let f : i ≡ row = omega arith in
      ap₂ (λ r l. r ++ (10 ∷ row_text l)) (ap (λ j. written_row ns' j 0 L) f ∙ row-here column 0 L (let z : 0 + column ≡ column = omega arith in z) ∙ ap (λ j. set (written_row ns j 0 L) column v) (sym f)) (rows-other (suc i) k (inl (omega arith)))
      ∙ sym (set-append_left (written_row ns i 0 L) (10 ∷ row_text (written_rows L ns (suc i) k)) column v (omega (arith, low, row-size ns i 0 L)))
      ∙ ap (λ j. set (written_row ns i 0 L ++ (10 ∷ row_text (written_rows L ns (suc i) k))) j v) (omega (arith, mul-zero (L + 1)))
  rows-here (suc d) i (suc k) e h =
      ap₂ (λ r l. r ++ (10 ∷ l)) (row-other i 0 L (λ f. omega arith)) (rows-here d (suc i) k (omega arith) (omega arith))
      ∙ ap (λ l. written_row ns i 0 L ++ l) (ap (λ j. set (10 ∷ row_text (written_rows L ns (suc i) k)) j v) past)
      ∙ sym (set-append_right (written_row ns i 0 L) (10 ∷ row_text (written_rows L ns (suc i) k)) L ((L + 1) * suc d + column) v (row-size ns i 0 L) (omega (arith, mul-suc (L + 1) d)))
    where
      past : suc ((L + 1) * d + column) ≡ (L + 1) * suc d + column - L
      past = omega (arith, mul-suc (L + 1) d)

  text-here : (counts : List ℕ) (d i : ℕ) → i + d ≡ row → d < sum_of counts → text_of (written_from L ns' i counts) ≡ set (text_of (written_from L ns i counts)) (row_place L counts d + column) v
  text-here [] d i e h = absurd (omega arith)
  text-here (n ∷ []) d i e h =
      rows-here d i n e (omega arith) ∙ ap (λ t. set (row_text (written_rows L ns i n)) (cond t ((L + 1) * d) ((L + 1) * n + 2 + 0) + column) v) (sym (lt-ltb d n (omega arith)))
  text-here (n ∷ m ∷ counts) d i e h = at (ltb d n) refl (text-here (m ∷ counts) (d - n) (i + n))
    where
      past : (k : ℕ) → suc (suc (k + column)) ≡ (L + 1) * n + 2 + k + column - (L + 1) * n
      past k = omega arith

      at : (t : Bool) → ltb d n ≡ t
          → (i + n + (d - n) ≡ row → d - n < sum_of (m ∷ counts) → text_of (written_from L ns' (i + n) (m ∷ counts)) ≡ set (text_of (written_from L ns (i + n) (m ∷ counts))) (row_place L (m ∷ counts) (d - n) + column) v)
          → text_of (written_from L ns' i (n ∷ m ∷ counts)) ≡ set (row_text (written_rows L ns i n) ++ (44 ∷ 10 ∷ text_of (written_from L ns (i + n) (m ∷ counts)))) (cond t ((L + 1) * d) ((L + 1) * n + 2 + row_place L (m ∷ counts) (d - n)) + column) v
      at true f r =
          let q : d < n = ltb-true d n f in
          ap₂ (λ a b. a ++ (44 ∷ 10 ∷ text_of b)) (rows-here d i n e q) (from-other (i + n) (m ∷ counts) (omega arith))
          ∙ sym (set-append_left (row_text (written_rows L ns i n)) (44 ∷ 10 ∷ text_of (written_from L ns (i + n) (m ∷ counts))) ((L + 1) * d + column) v (omega (arith, rows-size L ns i n, more L d n q, low)))
      at false f r =
          let q : n ≤ d = ltb-false d n f in
          ap₂ (λ a b. row_text a ++ (44 ∷ 10 ∷ b)) (rows-other i n (inr (omega arith))) (r (omega arith) (omega arith))
          ∙ ap (λ j. row_text (written_rows L ns i n) ++ set (44 ∷ 10 ∷ text_of (written_from L ns (i + n) (m ∷ counts))) j v) (past (row_place L (m ∷ counts) (d - n)))
          ∙ sym (set-append_right (row_text (written_rows L ns i n)) (44 ∷ 10 ∷ text_of (written_from L ns (i + n) (m ∷ counts))) ((L + 1) * n) ((L + 1) * n + 2 + row_place L (m ∷ counts) (d - n) + column) v (rows-size L ns i n) (omega arith))

  pub written-put : (counts : List ℕ) → row < sum_of counts → written_text L ns' counts ≡ set (written_text L ns counts) (row_place L counts row + column) v
  unfolding written_text written_measures
  written-put counts h = text-here counts row 0 (let z : 0 + row ≡ row = omega arith in z) h

-- ---- The search for a row's measure
pub record RowAhead (L : ℕ) (counts : List ℕ) (i : ℕ) (p : Place) : Type 0 where
  pub stands : MeasureAt L counts p
  pub after : p.first ≤ i

pub ahead-low : {L : ℕ} {counts : List ℕ} {i : ℕ} {p : Place} → RowAhead L counts i p → i < sum_of counts → p.at + (L + 1) ≤ written_length L counts
unfolding written_length
ahead-low {L} {counts} {i} {p} x h = omega (arith, x.stands.rows i x.after, place-room L counts i h)

pub ahead-next : {L : ℕ} {counts : List ℕ} {i : ℕ} {p : Place} → RowAhead L counts i p → p.measure < length counts → get_or counts p.measure 0 ≤ i - p.first
    → (p' : Place) → p'.measure ≡ p.measure + 1 → p'.first ≡ p.first + get_or counts p.measure 0 → p'.at ≡ p.at + (L + 1) * get_or counts p.measure 0 + 2 → RowAhead L counts i p'
ahead-next x h q p' e f g = record { stands = place-next x.stands h _ x.after q p' e f g; after = let a = x.after in omega (arith, f) }

pub place-value : {L : ℕ} {counts : List ℕ} {i : ℕ} {p : Place} → PlaceOf L counts i p → row_place L counts i ≡ p.at + (L + 1) * (i - p.first)
place-value {L} {counts} {i} {p} x = place-cell x.stands x.given i x.after (let a = x.after in let b = x.before in omega arith)

pub next-low : {L : ℕ} {counts : List ℕ} {i : ℕ} {p : Place} → RowAhead L counts i p → p.measure < length counts → get_or counts p.measure 0 ≤ i - p.first → i < sum_of counts
    → p.at + (L + 1) * get_or counts p.measure 0 + 2 ≤ written_length L counts
next-low {L} {counts} {i} {p} x h q r =
    let n = get_or counts p.measure 0 in
    omega (arith, ahead-low (ahead-next x h q (record { measure = p.measure + 1; first = p.first + n; at = p.at + (L + 1) * n + 2 }) refl refl refl) r)
