-- A row of minimised text: a byte 13 at its line's end takes none of its cells, and the first line is a row by the text's bytes.
use mathlib.Core.Path.{◌≡◌, refl, ap, sym, ◌∙◌}
use mathlib.Core.Logic.{⊎_elim}
use mathlib.Core.Bool.{Bool, true, false, cond, ◌&&◌, ◌||◌, not}
use mathlib.Core.List.{List, [], ◌∷◌, ◌++◌}
use Prim.Native.Nat.{ℕ, zero, suc, ◌-◌, ◌≤◌, ◌<◌}
use native.Mathlib.Decide.{dec_lt}
use native.Mathlib.Omega.{arith}
use borrow.Author.Tests.{eq-eqb, eqb-true, eqb-false, leb-true, le-leb, lt-leb, not-true, ltb-true}
use lib.Dec.{eqb, ltb, leb}
use lib.ListN.{length, get_or, take, drop}
use lib.Seq.{get_or-take, length-take-le, take-take}
use Rattle.definitions.specs.Lists.{among, only_if, up_to, after}
use Rattle.definitions.specs.Lines.{is_row_line}
use Rattle.definitions.specs.ReadBack.{without_cr, begins_mark, back_row, rows_read_back}
use Rattle.definitions.proofs.Bools.{and_left, and_right, and-false}
use Rattle.lines.specs.Lines.{first_line}
use Rattle.lines.proofs.Trims.{trim-cr-last, trim-cr-none}
use Rattle.reader.specs.Reading.{LineStep, near_cells, near_back_row, Below}
use Rattle.reader.proofs.Plain.{near-front, is-row, first-cells, first-within, below-step}
use Rattle.reader.proofs.BackReading.{trim-front, trim-less, trim-most}
use Rattle.reader.proofs.BackLoops.{rows-first, rows-empty}

-- a byte of a list that has no b is none
not_among : (b : ℕ) (l : List ℕ) (k : ℕ) → k < length l → among b l ≡ false → get_or l k 0 ≡ b → ⊥
not_among b [] k h e q = omega arith
not_among b (x ∷ l) zero h e q = let z : ◌≡◌ {A = ℕ} 0 1 = (let t : (eqb b x || among b l) ≡ true = rw (eq-eqb b x (sym q)) in cc) in omega arith
not_among b (x ∷ l) (suc k) h e q = not_among b l k (omega arith) (other (eqb b x) e) q
  where
    other : (t : _) → (t || among b l) ≡ false → among b l ≡ false
    other true n = cc
    other false n = n

-- so one of its bytes is among it
met-among : (b : ℕ) (l : List ℕ) (k : ℕ) → k < length l → get_or l k 0 ≡ b → among b l ≡ true
met-among b l k h q = go (among b l) refl
  where
    go : (t : Bool) → among b l ≡ t → among b l ≡ true
    go true e = e
    go false e = absurd (not_among b l k h e q)

-- whether a line begins with a mark, by its first byte
pub mark-of : (l : List ℕ) → begins_mark l ≡ among (get_or l 0 0) (44 ∷ 59 ∷ [])
mark-of [] = refl
mark-of (x ∷ l) = refl

pub mark-first : (s : List ℕ) → begins_mark (first_line s) ≡ among (get_or s 0 0) (44 ∷ 59 ∷ [])
unfolding first_line up_to
mark-first [] = refl
mark-first (x ∷ s) = go (eqb x 10) refl
  where
    go : (t : Bool) → eqb x 10 ≡ t → begins_mark (cond t [] (x ∷ up_to 10 s)) ≡ among x (44 ∷ 59 ∷ [])
    go true e = rw (eqb-true x 10 e) refl
    go false e = refl

pub back-told : (r : Bool) (L : ℕ) (s : List ℕ) → r ≡ is_row_line L (first_line s)
    → ((not (eqb (get_or s 0 0) 44) && not (eqb (get_or s 0 0) 59)) && r) ≡ (is_row_line L (first_line s) && not (begins_mark (first_line s)))
back-told r L s e = rw (mark-first s, ← e) (go r (eqb (get_or s 0 0) 44) (eqb (get_or s 0 0) 59))
  where
    go : (r c d : Bool) → ((not c && not d) && r) ≡ (r && not (c || (d || false)))
    go true true d = refl
    go true false true = refl
    go true false false = refl
    go false true d = refl
    go false false true = refl
    go false false false = refl

-- a byte 13 at a line's end takes nothing of a row
pub back-whole : (L : ℕ) (l : List ℕ) → 0 < L → back_row L (without_cr l) ≡ back_row L l
unfolding is_row_line
back-whole L l some = elim (dec_lt L (length l)) [
  | yes h ↦
      let m = length (without_cr l) in
      let w : L ≤ m = omega (arith, trim-most l) in
      let f = trim-front l in
      let cells : take L (without_cr l) ≡ take L l = ap (take L) f ∙ take-take L m l w in
      let first : get_or (without_cr l) 0 0 ≡ get_or l 0 0 = ap (λ k. get_or k 0 0) f ∙ get_or-take m l 0 0 (omega arith) in
      rw (cells, mark-of (without_cr l), mark-of l, first, le-leb L m w, le-leb L (length l) (omega arith))
  | no h ↦ elim (dec_lt (length l) L) [
    | yes k ↦ rw (lt-leb L (length l) k, lt-leb L (length (without_cr l)) (omega (arith, trim-less l)))
    | no k ↦ all (omega arith) (eqb (get_or l (length l - 1) 0) 13) refl
  ]
]
  where
    all : L ≡ length l → (t : Bool) → eqb (get_or l (length l - 1) 0) 13 ≡ t → back_row L (without_cr l) ≡ back_row L l
    all e true q =
        let last = eqb-true (get_or l (length l - 1) 0) 13 q in
        let less : length (without_cr l) ≡ length l - 1 = ap length (trim-cr-last l (omega arith) last) ∙ length-take-le (length l - 1) l (omega arith) in
        let met : among 13 (take L l) ≡ true = met-among 13 (take L l) (length l - 1) (omega (arith, length-take-le L l (omega arith))) (get_or-take L l (length l - 1) 0 (omega arith) ∙ last) in
        rw (lt-leb L (length (without_cr l)) (omega arith), met, and-false (leb L (length l)))
    all e false q = ap (back_row L) (trim-cr-none l (omega arith) (eqb-false (get_or l (length l - 1) 0) 13 q))

-- the first line of a text, as a row
pub rows-step : (L : ℕ) (s : List ℕ) (t : Bool) → 0 < L → t ≡ (is_row_line L (first_line s) && not (begins_mark (first_line s)))
    → rows_read_back L s ≡ only_if t (take L s ∷ []) ++ rows_read_back L (after 10 s)
rows-step L s t some e =
    rows-first L s some
    ∙ ap (λ r. r ++ rows_read_back L (after 10 s)) (back-whole L (first_line s) some ∙ cells (is_row_line L (first_line s)) refl)
  where
    cells : (r : Bool) → is_row_line L (first_line s) ≡ r → back_row L (first_line s) ≡ only_if t (take L s ∷ [])
    cells true r = rw (e, first-cells L s r)
    cells false r = rw (e, r)

pub row-within : (L : ℕ) (s : List ℕ) → (is_row_line L (first_line s) && not (begins_mark (first_line s))) ≡ true → L ≤ length s
row-within L s e = first-within L s (and_left (is_row_line L (first_line s)) (not (begins_mark (first_line s))) e)

-- The row that a text begins with, and what follows its line.
pub rows-near : (L : ℕ) (s below : List ℕ) → 4 ≤ L → L ≤ 10 → near_back_row L s ≡ true → Below below (after 10 (drop L s)) → rows_read_back L s ≡ take L s ∷ rows_read_back L below
rows-near L s below low high e w =
    let cells = near_cells L s in
    let past = ltb 15 (get_or s 0 0) in
    let comma = eqb (get_or s 0 0) 44 in
    let semi = eqb (get_or s 0 0) 59 in
    let three = and_left ((cells && past) && not comma) (not semi) e in
    let two = and_left (cells && past) (not comma) three in
    let p = near-front L s low high (and_left cells past two) (ltb-true 15 (get_or s 0 0) (and_right cells past two)) in
    let l = first_line s in
    let row : true ≡ is_row_line L l = is-row L l p.long (ap (among 13) p.cells ∙ p.plain) in
    let mark : begins_mark l ≡ false =
    mark-of l ∙ ap (λ b. among b (44 ∷ 59 ∷ [])) p.first ∙ rw (not-true comma (and_right (cells && past) (not comma) three), not-true semi (and_right ((cells && past) && not comma) (not semi) e)) in
    let rest : rows_read_back L (after 10 s) ≡ rows_read_back L below =
    ap (rows_read_back L) p.rest ∙ ⊎_elim (λ q. ap (rows_read_back L) q) (λ q. ap (rows_read_back L) q ∙ rows-empty L below (omega arith)) w in
    rows-step L s true (omega arith) (rw (← row, mark)) ∙ rw rest

-- the same where its line has so many bytes
pub rows-just : (L step : ℕ) (s : List ℕ) → 4 ≤ L → L ≤ 10 → LineStep L step → (leb 12 (length s) && (near_back_row L s && eqb (get_or s (step - 1) 0) 10)) ≡ true
    → rows_read_back L s ≡ take L s ∷ rows_read_back L (drop step s)
rows-just L step s low high w e =
    let ends = eqb (get_or s (step - 1) 0) 10 in
    let both = and_right (leb 12 (length s)) (near_back_row L s && ends) e in
    let long = leb-true 12 (length s) (and_left (leb 12 (length s)) (near_back_row L s && ends) e) in
    rows-near L s (drop step s) low high (and_left (near_back_row L s) ends both)
    (below-step L step s w (omega arith) (eqb-true (get_or s (step - 1) 0) 10 (and_right (near_back_row L s) ends both)))
