-- The rows of a chart: what each has, and that they are few.
use mathlib.Core.Path.{◌≡◌, refl, ◌∙◌}
use mathlib.Core.Bool.{Bool, true, false, cond, ◌||◌, not}
use mathlib.Core.List.{List, [], ◌∷◌, map, append-nil}
use Prim.Native.Nat.{ℕ, zero, suc, ◌+◌, ◌-◌, ◌*◌, ◌≤◌, ◌<◌}
use native.Mathlib.Nat.{mul-suc, mul-add, mul-zero, mul_comm, le_trans, le_of_eq, le-div_iff_mul-le}
use native.Mathlib.Omega.{arith}
use borrow.Author.Tests.{leb-true, not-true}
use lib.Dec.{eqb, leb}
use lib.ListN.{length, take, length-append, length-take}
use lib.Seq.{length-take-le}
use Rattle.std.specs.List.{onto_first}
use Rattle.definitions.specs.Lists.{among, joined}
use Rattle.definitions.specs.Lanes.{most_rows_in}
use Rattle.definitions.specs.Lines.{Row, cut, is_blank_byte, trim, is_row_line, kind_of, line_kind, line_row}
use Rattle.definitions.specs.Measures.{add_line, measures, chart}
use Rattle.definitions.specs.Reduction.{reduce, minimised}
use Rattle.definitions.specs.Figures.{row_text, text_of, minimised_text}
use Rattle.definitions.specs.ReadBack.{begins_mark}
use Rattle.definitions.specs.declared.LineKind.{LineKind}
use Rattle.definitions.specs.declared.LineKind.TheVariants as line
use Rattle.definitions.proofs.Bools.{and_left, and_right}
use Rattle.definitions.proofs.Lists.{All, none, one, all_map}
use Rattle.definitions.proofs.Thinned.{Thinned, none, keep, leave, reduce-thin, reduce-all}

-- ---- A line and its row
-- trimming takes bytes off the front
pub trim-short : (l : List ℕ) → length (trim l) ≤ length l
trim-short [] = omega arith
trim-short (b ∷ l) = go (is_blank_byte b) (trim-short l)
  where
    go : (t : Bool) → length (trim l) ≤ length l → length (cond t (trim l) (b ∷ l)) ≤ length (b ∷ l)
    go true h = omega arith
    go false h = omega arith

kind-by-row : (a b c r : Bool) → cond a line.Passed (cond b line.Comma (cond c line.Semi (cond r line.Row line.Passed))) ≡ line.Row → r ≡ true
kind-by-row true b c r e = let z : ◌≡◌ {A = ℕ} 0 1 = cc in absurd (omega arith)
kind-by-row false true c r e = let z : ◌≡◌ {A = ℕ} 0 1 = cc in absurd (omega arith)
kind-by-row false false true r e = let z : ◌≡◌ {A = ℕ} 0 1 = cc in absurd (omega arith)
kind-by-row false false false true e = refl
kind-by-row false false false false e = let z : ◌≡◌ {A = ℕ} 0 1 = cc in absurd (omega arith)

-- a row's line passes the row test
row-test : (L : ℕ) (l : List ℕ) → kind_of L l ≡ line.Row → is_row_line L l ≡ true
unfolding kind_of
row-test L [] e = let z : ◌≡◌ {A = ℕ} 0 1 = cc in absurd (omega arith)
row-test L (b ∷ s) e = kind-by-row (eqb b 47) (eqb b 44) (eqb b 59) (is_row_line L (b ∷ s)) e

-- a line that passes it has at least L bytes, and no 13 among the first L
pub test-length : (L : ℕ) (l : List ℕ) → is_row_line L l ≡ true → L ≤ length l
unfolding is_row_line
test-length L l e = leb-true L (length l) (and_left (leb L (length l)) (not (among 13 (take L l))) e)

pub test-plain : (L : ℕ) (l : List ℕ) → is_row_line L l ≡ true → among 13 (take L l) ≡ false
unfolding is_row_line
test-plain L l e = not-true (among 13 (take L l)) (and_right (leb L (length l)) (not (among 13 (take L l))) e)

-- a row's line has at least L bytes
pub row-length : (L : ℕ) (l : List ℕ) → kind_of L l ≡ line.Row → L ≤ length l
row-length L l e = test-length L l (row-test L l e)

-- ---- What every row of a chart has: L bytes, none of them 10 or 13, and no `,` or `;` at its start.
abbrev pub Clean : List ℕ → Type 0
Clean l = All (λ b. eqb b 10 ≡ false) l

pub record ChartRow (L : ℕ) (r : Row) : Type 0 where
  pub size : length r ≡ L
  pub clean : Clean r
  pub plain : among 13 r ≡ false
  pub unmarked : begins_mark r ≡ false

cut-clean : (text : List ℕ) → All Clean (cut text)
cut-clean [] = one none none
cut-clean (b ∷ s) = go (eqb b 10) refl (cut s) (cut-clean s)
  where
    first : (ls : List (List ℕ)) → eqb b 10 ≡ false → All Clean ls → All Clean (onto_first b ls)
    first [] e a = one (one e none) none
    first (l ∷ ls) e (one c a) = one (one e c) a

    go : (t : Bool) → eqb b 10 ≡ t → (ls : List (List ℕ)) → All Clean ls → All Clean (cond t ([] ∷ ls) (onto_first b ls))
    go true e ls a = one none a
    go false e ls a = first ls e a

trim-clean : (l : List ℕ) → Clean l → Clean (trim l)
trim-clean [] a = none
trim-clean (b ∷ l) (one e a) = go (is_blank_byte b) (trim-clean l a)
  where
    go : (t : Bool) → Clean (trim l) → Clean (cond t (trim l) (b ∷ l))
    go true c = c
    go false c = one e a

take-clean : (n : ℕ) (l : List ℕ) → Clean l → Clean (take n l)
take-clean zero l a = none
take-clean (suc n) [] a = none
take-clean (suc n) (b ∷ l) (one e a) = one e (take-clean n l a)

row-unmarked : (L : ℕ) (l : List ℕ) → 1 ≤ L → kind_of L l ≡ line.Row → begins_mark (take L l) ≡ false
unfolding kind_of
row-unmarked zero l w e = absurd (omega arith)
row-unmarked (suc L) [] w e = refl
row-unmarked (suc L) (b ∷ l) w e = go (eqb b 47) (eqb b 44) (eqb b 59) (is_row_line (suc L) (b ∷ l)) e
  where
    go : (x y z r : Bool) → cond x line.Passed (cond y line.Comma (cond z line.Semi (cond r line.Row line.Passed))) ≡ line.Row → (y || (z || false)) ≡ false
    go true y z r e = let n : ◌≡◌ {A = ℕ} 0 1 = cc in absurd (omega arith)
    go false true z r e = let n : ◌≡◌ {A = ℕ} 0 1 = cc in absurd (omega arith)
    go false false true r e = let n : ◌≡◌ {A = ℕ} 0 1 = cc in absurd (omega arith)
    go false false false r e = refl

row_is : (L : ℕ) (l : List ℕ) → 1 ≤ L → Clean l → line_kind L l ≡ line.Row → ChartRow L (line_row L l)
unfolding line_kind
row_is L l w a e =
    record {
      size = length-take-le L (trim l) (row-length L (trim l) e);
      clean = take-clean L (trim l) (trim-clean l a);
      plain = test-plain L (trim l) (row-test L (trim l) e);
      unmarked = row-unmarked L (trim l) w e;
    }

-- what holds of the row of each line that is one holds of each row of the measures
measures-each : (P : Row → Type 0) (L : ℕ) {ls : List (List ℕ)} → All (λ l. line_kind L l ≡ line.Row → P (line_row L l)) ls → All (All P) (measures L ls)
measures-each P L none = one none none
measures-each P L (one {a = l} {l = ls} x a) = go (line_kind L l) refl (measures L ls) (measures-each P L a)
  where
    first : (ms : List (List Row)) (r : Row) → P r → All (All P) ms → All (All P) (onto_first r ms)
    first [] r x m = one (one x none) none
    first (m ∷ ms) r x (one p q) = one (one x p) q

    go : (k : LineKind) → line_kind L l ≡ k → (ms : List (List Row)) → All (All P) ms → All (All P) (add_line k (line_row L l) ms)
    go line.Passed e ms m = m
    go line.Comma e ms m = one none m
    go line.Semi e ms m = one none none
    go line.Row e ms m = first ms (line_row L l) (x e) m

pub chart-rows : (L : ℕ) (text : List ℕ) → 1 ≤ L → All (All (ChartRow L)) (chart L text)
unfolding chart
chart-rows L text w = measures-each (ChartRow L) L (all_map (λ l c. row_is L l w c) (cut-clean text))

reduced-rows : {P : Row → Type 0} {ms : List (List Row)} → All (All P) ms → All (All P) (map reduce ms)
reduced-rows none = none
reduced-rows (one p a) = one (reduce-all p) (reduced-rows a)

pub minimised-rows : (L : ℕ) (text : List ℕ) → 1 ≤ L → All (All (ChartRow L)) (minimised L text)
unfolding minimised
minimised-rows L text w = reduced-rows (chart-rows L text w)

-- whatever L is, no row is wider
pub minimised-narrow : (L : ℕ) (text : List ℕ) → All (All (λ (r : Row). length r ≤ L)) (minimised L text)
unfolding minimised chart
minimised-narrow L text =
    reduced-rows (measures-each (λ (r : Row). length r ≤ L) L (all_map (λ l c e. omega (arith, length-take L (trim l))) (cut-clean text)))

-- ---- Few bytes
-- the bytes of some lines, each with its newline
abbrev pub line_bytes : List (List ℕ) → ℕ
line_bytes [] = 0
line_bytes (l ∷ ls) = length l + 1 + line_bytes ls

pub cut-bytes : (text : List ℕ) → line_bytes (cut text) ≡ length text + 1
cut-bytes [] = refl
cut-bytes (b ∷ s) = go (eqb b 10) (cut s) (cut-bytes s)
  where
    go : (t : Bool) (ls : List (List ℕ)) → line_bytes ls ≡ length s + 1 → line_bytes (cond t ([] ∷ ls) (onto_first b ls)) ≡ suc (length s) + 1
    go true ls h = omega arith
    go false [] h = absurd (omega arith)
    go false (l ∷ ls) h = omega arith

text-bytes : (m : List Row) → length (row_text m) ≡ line_bytes m
text-bytes [] = refl
text-bytes (r ∷ m) = rw length-append (omega (arith, text-bytes m))

-- the bytes of some measures, with two for each
abbrev pub measure_bytes : List (List Row) → ℕ
measure_bytes [] = 0
measure_bytes (m ∷ ms) = line_bytes m + 2 + measure_bytes ms

comma-some : (L : ℕ) (l : List ℕ) → line_kind L l ≡ line.Comma → 1 ≤ length l
unfolding line_kind kind_of
comma-some L [] e = let z : ◌≡◌ {A = ℕ} 0 1 = cc in absurd (omega arith)
comma-some L (b ∷ l) e = omega arith

pub measures-bytes : (L : ℕ) (ls : List (List ℕ)) → measure_bytes (measures L ls) ≤ line_bytes ls + 2
measures-bytes L [] = omega arith
measures-bytes L (l ∷ ls) = go (line_kind L l) refl (measures L ls) (measures-bytes L ls)
  where
    first : (r : Row) → length r ≤ length l → (ms : List (List Row)) → measure_bytes ms ≤ line_bytes ls + 2 → measure_bytes (onto_first r ms) ≤ length l + 1 + line_bytes ls + 2
    first r w [] h = omega arith
    first r w (m ∷ ms) h = omega arith

    go : (k : LineKind) → line_kind L l ≡ k → (ms : List (List Row)) → measure_bytes ms ≤ line_bytes ls + 2 → measure_bytes (add_line k (line_row L l) ms) ≤ length l + 1 + line_bytes ls + 2
    go line.Passed e ms h = omega arith
    go line.Comma e ms h = omega (arith, comma-some L l e)
    go line.Semi e ms h = omega arith
    go line.Row e ms h = first (line_row L l) (omega (arith, length-take L (trim l), trim-short l)) ms h

thin-bytes : {s t : List Row} → Thinned s t → line_bytes t ≤ line_bytes s
thin-bytes none = omega arith
thin-bytes (keep x) = omega (arith, thin-bytes x)
thin-bytes (leave z x) = omega (arith, thin-bytes x)

pub reduced-bytes : (ms : List (List Row)) → measure_bytes (map reduce ms) ≤ measure_bytes ms
reduced-bytes [] = omega arith
reduced-bytes (m ∷ ms) = omega (arith, thin-bytes (reduce-thin m), reduced-bytes ms)

measures-text : (ms : List (List Row)) → length (text_of ms) ≤ measure_bytes ms - 2
measures-text [] = omega arith
measures-text (m ∷ []) = omega (arith, text-bytes m)
measures-text (m ∷ m' ∷ ms) = rw length-append (omega (arith, text-bytes m, measures-text (m' ∷ ms)))

-- Minimised text is at most one byte longer than the text.
pub minimised-short : (L : ℕ) (text : List ℕ) → length (minimised_text L text) ≤ length text + 1
unfolding minimised_text minimised chart
minimised-short L text =
    omega (arith, measures-text (map reduce (measures L (cut text))), reduced-bytes (measures L (cut text)), measures-bytes L (cut text), cut-bytes text)

-- each row takes L + 1 bytes of it
pub rows-bytes : (L : ℕ) (m : List Row) → All (ChartRow L) m → (L + 1) * length m ≡ line_bytes m
rows-bytes L [] a = mul-zero (L + 1)
rows-bytes L (r ∷ m) (one x a) = mul-suc (L + 1) (length m) ∙ omega (arith, x.size, rows-bytes L m a)

rows-text : (L : ℕ) (ms : List (List Row)) → All (All (ChartRow L)) ms → (L + 1) * length (joined ms) ≤ length (text_of ms)
rows-text L [] a = le_of_eq (mul-zero (L + 1))
rows-text L (m ∷ []) (one p a) = rw append-nil (omega (arith, rows-bytes L m p, text-bytes m))
rows-text L (m ∷ m' ∷ ms) (one p a) =
    rw (length-append m (joined (m' ∷ ms)), mul-add, length-append (row_text m) (44 ∷ 10 ∷ text_of (m' ∷ ms)))
    (omega (arith, rows-bytes L m p, text-bytes m, rows-text L (m' ∷ ms) a))

pub minimised-bytes : (L : ℕ) (text : List ℕ) → 1 ≤ L → (L + 1) * length (joined (minimised L text)) ≤ length (minimised_text L text)
unfolding minimised_text
minimised-bytes L text w = rows-text L (minimised L text) (minimised-rows L text w)

-- A text's minimised rows are at most R.
pub minimised-rows-few : (L : ℕ) (text : List ℕ) → 1 ≤ L → length (joined (minimised L text)) ≤ most_rows_in L (length text)
unfolding most_rows_in
minimised-rows-few L text w =
    let rows = length (joined (minimised L text)) in
    let some : 0 < L + 1 = omega arith in
    (le-div_iff_mul-le some).1 (le_trans (le_of_eq (mul_comm rows (L + 1))) (le_trans (minimised-bytes L text w) (minimised-short L text)))
