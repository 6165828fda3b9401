-- Laws of the marks of a text: its first line, a row that one look tells, what marks take in it, and that its measures are those of its marks.
use mathlib.Core.Path.{◌≡◌, refl, ap, sym, ◌∙◌}
use mathlib.Core.Logic.{⊎_elim}
use mathlib.Core.Bool.{Bool, true, false, cond, ◌&&◌, not}
use mathlib.Core.List.{List, [], ◌∷◌, ◌++◌, append_assoc, append-nil}
use Prim.Native.Nat.{ℕ, ◌+◌, ◌-◌, ◌<◌, ◌≤◌}
use native.Mathlib.Omega.{arith}
use lib.ListN.{length, take, drop, get_or}
use lib.Seq.{length-take-le}
use lib.Dec.{eqb, ltb}
use borrow.Author.Tests.{eqb-true, eqb-false, ne_eqb, ltb-true, not-true}
use Rattle.definitions.proofs.Bools.{and_left, and_right}
use Rattle.std.specs.Prelude.{Option, Some, None, fold, sum_by}
use Rattle.std.specs.List.{onto_first}
use Rattle.std.proofs.lemmas.List.Sums.{sum_by-cons}
use Rattle.definitions.specs.Lists.{among, up_to, after}
use Rattle.definitions.specs.Lines.{Row, cut, is_blank_byte, trim, is_row_line, kind_of, line_kind, line_row}
use Rattle.definitions.specs.Measures.{add_line, measures, chart}
use Rattle.definitions.specs.declared.LineKind.{LineKind}
use Rattle.definitions.specs.declared.LineKind.TheVariants as line
use Rattle.lines.specs.Lines.{first_line}
use Rattle.definitions.proofs.Lists.{All, none, one, after-cons}
use Rattle.definitions.proofs.ChartRows.{trim-short, row-length}
use Rattle.reader.specs.Reading.{LineStep, near_cells, near_row, Below}
use Rattle.reader.proofs.Cuts.{lines_bytes, cut-bytes, cut-below}
use Rattle.reader.proofs.LineKinds.{comma-some}
use Rattle.reader.proofs.Plain.{near-long, near-front, bare, bare-row, first-cells, first-within, below-step}
use Rattle.reader.specs.Marks.{add_mark, marks, chart_marks, measures_of, wide, bytes_of, Held, held_with, held}

-- ---- the first line of a text, and what follows it

pub marks-first : (L : ℕ) (s : List ℕ) → chart_marks L s ≡ add_mark (line_kind L (first_line s)) (line_row L (first_line s)) (chart_marks L (after 10 s))
unfolding chart_marks line_kind kind_of
marks-first L s =
    let b = cut-below s in
    let below : marks L b.below ≡ marks L (cut (after 10 s)) = ⊎_elim (λ e. ap (marks L) e) (λ e. rw (e.0, e.1)) b.same in
    rw (b.is_cut, below)

pub marks-none : (L : ℕ) → chart_marks L [] ≡ []
unfolding chart_marks line_kind kind_of
marks-none L = refl

-- an empty line has none
marks-empty : (L : ℕ) (s : List ℕ) → chart_marks L (10 ∷ s) ≡ chart_marks L s
unfolding first_line up_to line_kind kind_of
marks-empty L s = marks-first L (10 ∷ s) ∙ ap (chart_marks L) (after-cons 10 10 s)

-- nor has a blank
marks-blank : (L x : ℕ) (s : List ℕ) → is_blank_byte x ≡ true → chart_marks L (x ∷ s) ≡ chart_marks L s
unfolding first_line up_to line_kind
marks-blank L x s b = go (eqb x 10) refl
  where
    go : (t : Bool) → eqb x 10 ≡ t → chart_marks L (x ∷ s) ≡ chart_marks L s
    go true e = ap (λ n. chart_marks L (n ∷ s)) (eqb-true x 10 e) ∙ marks-empty L s
    go false e = marks-first L (x ∷ s) ∙ rw (after-cons, e, b) (sym (marks-first L s))

pub marks-trim : (L : ℕ) (s : List ℕ) → chart_marks L s ≡ chart_marks L (trim s)
marks-trim L [] = refl
marks-trim L (x ∷ s) = go (is_blank_byte x) refl (marks-trim L s)
  where
    go : (t : Bool) → is_blank_byte x ≡ t → chart_marks L s ≡ chart_marks L (trim s) → chart_marks L (x ∷ s) ≡ chart_marks L (cond t (trim s) (x ∷ s))
    go true e ih = marks-blank L x s e ∙ ih
    go false e ih = refl

pub trim-less : (s : List ℕ) → length (trim s) ≤ length s
trim-less [] = omega arith
trim-less (x ∷ s) = go (is_blank_byte x) (trim-less s)
  where
    go : (t : Bool) → length (trim s) ≤ length s → length (cond t (trim s) (x ∷ s)) ≤ length (x ∷ s)
    go true h = omega arith
    go false h = omega arith

-- a line that begins with `,` or `;`
pub marks-comma : (L : ℕ) (s : List ℕ) → 0 < length s → get_or s 0 0 ≡ 44 → chart_marks L s ≡ None ∷ chart_marks L (after 10 s)
unfolding first_line up_to line_kind kind_of is_blank_byte
marks-comma L [] h e = absurd (omega arith)
marks-comma L (x ∷ s) h e = marks-first L (x ∷ s) ∙ rw e

pub marks-semi : (L : ℕ) (s : List ℕ) → 0 < length s → get_or s 0 0 ≡ 59 → chart_marks L s ≡ []
unfolding first_line up_to line_kind kind_of is_blank_byte
marks-semi L [] h e = absurd (omega arith)
marks-semi L (x ∷ s) h e = marks-first L (x ∷ s) ∙ rw e

-- a newline is a blank
no-newline : (x : ℕ) → is_blank_byte x ≡ false → eqb x 10 ≡ false
unfolding is_blank_byte
no-newline x b = go (eqb x 10) refl
  where
    go : (t : Bool) → eqb x 10 ≡ t → eqb x 10 ≡ false
    go true e = let z : ◌≡◌ {A = ℕ} 0 1 = (let y : is_blank_byte x ≡ true = rw (eqb-true x 10 e) refl in cc) in absurd (omega arith)
    go false e = e

-- what begins with a blank
pub marks-blanks : (L : ℕ) (s : List ℕ) → 0 < length s → is_blank_byte (get_or s 0 0) ≡ true → chart_marks L s ≡ chart_marks L (trim (drop 1 s))
marks-blanks L [] h b = absurd (omega arith)
marks-blanks L (x ∷ s) h b = marks-blank L x s b ∙ marks-trim L s

pub blanks-less : (s : List ℕ) → 0 < length s → length (trim (drop 1 s)) < length s
blanks-less [] h = absurd (omega arith)
blanks-less (x ∷ s) h = omega (arith, trim-less s)

-- any other line: a row where it begins with no `/` and passes the row test, else nothing
abbrev pub row_if : Bool → Row → List (Option Row) → List (Option Row)
row_if true r ms = Some r ∷ ms
row_if false r ms = ms

pub marks-other : (L : ℕ) (s below : List ℕ) (t : Bool) → 0 < length s → is_blank_byte (get_or s 0 0) ≡ false → (get_or s 0 0 ≡ 44 → ⊥) → (get_or s 0 0 ≡ 59 → ⊥)
    → t ≡ (not (eqb (get_or s 0 0) 47) && is_row_line L (first_line s)) → below ≡ after 10 s → chart_marks L s ≡ row_if t (take L s) (chart_marks L below)
unfolding first_line up_to line_kind kind_of
marks-other L [] below t h b comma semi e eb = absurd (omega arith)
marks-other L (x ∷ s) below t h b comma semi e eb = rw eb (line-told (eqb x 47) refl)
  where
    row : (r : Bool) → is_row_line L (first_line (x ∷ s)) ≡ r → eqb x 10 ≡ false → eqb x 47 ≡ false → t ≡ r
        → chart_marks L (x ∷ s) ≡ row_if t (take L (x ∷ s)) (chart_marks L (after 10 (x ∷ s)))
    row true r n slash q =
        marks-first L (x ∷ s) ∙ rw (n, b, slash, ne_eqb x 44 comma, ne_eqb x 59 semi, q, rw n at r)
        (ap (λ c. Some c ∷ chart_marks L (after 10 (x ∷ s))) (rw n at (first-cells L (x ∷ s) r)))
    row false r n slash q =
        marks-first L (x ∷ s) ∙ rw (n, b, slash, ne_eqb x 44 comma, ne_eqb x 59 semi, q, rw n at r)

    line-told : (u : Bool) → eqb x 47 ≡ u → chart_marks L (x ∷ s) ≡ row_if t (take L (x ∷ s)) (chart_marks L (after 10 (x ∷ s)))
    line-told true u =
        let q : t ≡ false = rw u at e in
        let n = no-newline x b in
        marks-first L (x ∷ s) ∙ rw (n, b, u, q)
    line-told false u = row (is_row_line L (first_line (x ∷ s))) refl (no-newline x b) u (rw u at e)

-- a row's cells lie in the text
pub row-within : (L : ℕ) (s : List ℕ) → (not (eqb (get_or s 0 0) 47) && is_row_line L (first_line s)) ≡ true → L ≤ length s
row-within L s e = first-within L s (and_right (not (eqb (get_or s 0 0) 47)) (is_row_line L (first_line s)) e)

-- a row that one look tells
pub marks-near : (L : ℕ) (s below : List ℕ) → 4 ≤ L → L ≤ 10 → near_row L s ≡ true → Below below (after 10 (drop L s)) → chart_marks L s ≡ Some (take L s) ∷ chart_marks L below
unfolding line_kind
marks-near L s below low high e w =
    let cells = near_cells L s in
    let past = ltb 47 (get_or s 0 0) in
    let semi = eqb (get_or s 0 0) 59 in
    let two = and_left (cells && past) (not semi) e in
    let other = eqb-false (get_or s 0 0) 59 (not-true semi (and_right (cells && past) (not semi) e)) in
    let beyond = ltb-true 47 (get_or s 0 0) (and_right cells past two) in
    let p = near-front L s low high (and_left cells past two) (omega (arith, beyond)) in
    let l = first_line s in
    let far : 47 < get_or l 0 0 = rw p.first beyond in
    let whole = bare l far in
    let kind = bare-row L l p.long (ap (among 13) p.cells ∙ p.plain) far (λ q. other (sym p.first ∙ q)) in
    let row : take L (trim l) ≡ take L s = ap (take L) (sym whole) ∙ p.cells in
    let rest : chart_marks L (after 10 s) ≡ chart_marks L below =
    ap (chart_marks L) p.rest ∙ ⊎_elim (λ q. ap (chart_marks L) q) (λ q. ap (chart_marks L) q ∙ marks-empty L below) w in
    marks-first L s ∙ rw (row, rest, ← whole, ← kind)

-- it has twelve bytes
pub row-long : (L : ℕ) (s : List ℕ) → near_row L s ≡ true → 12 ≤ length s
row-long L s e =
    let past = ltb 47 (get_or s 0 0) in
    near-long L s (and_left (near_cells L s) past (and_left (near_cells L s && past) (not (eqb (get_or s 0 0) 59)) e))

-- the same where its line has so many bytes
pub marks-just : (L step : ℕ) (s : List ℕ) → 4 ≤ L → L ≤ 10 → LineStep L step → near_row L s ≡ true → get_or s (step - 1) 0 ≡ 10
    → chart_marks L s ≡ Some (take L s) ∷ chart_marks L (drop step s)
marks-just L step s low high w e n = marks-near L s (drop step s) low high e (below-step L step s w (omega (arith, row-long L s e)) n)

-- ---- what marks take

marks-bytes : (L : ℕ) (ls : List (List ℕ)) → sum_by (bytes_of L) (marks L ls) ≤ lines_bytes ls
unfolding line_kind
marks-bytes L [] = omega arith
marks-bytes L (l ∷ ls) = go (line_kind L l) refl (marks-bytes L ls)
  where
    go : (k : LineKind) → line_kind L l ≡ k → sum_by (bytes_of L) (marks L ls) ≤ lines_bytes ls
        → sum_by (bytes_of L) (add_mark k (line_row L l) (marks L ls)) ≤ lines_bytes (l ∷ ls)
    go line.Passed e h = omega arith
    go line.Comma e h = omega (arith, sum_by-cons (bytes_of L) None (marks L ls), comma-some L l e)
    go line.Semi e h = omega arith
    go line.Row e h = omega (arith, sum_by-cons (bytes_of L) (Some (line_row L l)) (marks L ls), row-length L (trim l) e, trim-short l)

marks-wide : (L : ℕ) (ls : List (List ℕ)) → All (wide L) (marks L ls)
unfolding line_kind
marks-wide L [] = none
marks-wide L (l ∷ ls) = go (line_kind L l) refl (marks-wide L ls)
  where
    go : (n : LineKind) → line_kind L l ≡ n → All (wide L) (marks L ls) → All (wide L) (add_mark n (line_row L l) (marks L ls))
    go line.Passed q p = p
    go line.Comma q p = one {a = None} tt p
    go line.Semi q p = none
    go line.Row q p = one {a = Some (line_row L l)} (length-take-le L (trim l) (row-length L (trim l) q)) p

-- no more than the text has, with a newline after it
pub chart-bytes : (L : ℕ) (text : List ℕ) → sum_by (bytes_of L) (chart_marks L text) ≤ length text + 1
unfolding chart_marks
chart-bytes L text = omega (arith, marks-bytes L (cut text), cut-bytes text)

pub chart-wide : (L : ℕ) (text : List ℕ) → All (wide L) (chart_marks L text)
unfolding chart_marks
chart-wide L text = marks-wide L (cut text)

-- ---- what marks come to

line-measures : (L : ℕ) (ls : List (List ℕ)) → measures L ls ≡ measures_of (marks L ls)
line-measures L [] = refl
line-measures L (l ∷ ls) = go (line_kind L l) (line-measures L ls)
  where
    go : (k : LineKind) → measures L ls ≡ measures_of (marks L ls) → add_line k (line_row L l) (measures L ls) ≡ measures_of (add_mark k (line_row L l) (marks L ls))
    go line.Passed h = h
    go line.Comma h = ap (λ ms. [] ∷ ms) h
    go line.Semi h = refl
    go line.Row h = ap (onto_first (line_row L l)) h

-- A text's measures are those of its marks.
pub chart-measures : (L : ℕ) (text : List ℕ) → chart L text ≡ measures_of (chart_marks L text)
unfolding chart chart_marks
chart-measures L text = line-measures L (cut text)

-- rows put before the first of some measures
abbrev add_first : List Row → List (List Row) → List (List Row)
add_first rs [] = rs ∷ []
add_first rs (m ∷ ms) = (rs ++ m) ∷ ms

at_row : (cur : List Row) (r : Row) (ms : List (List Row)) → add_first cur (onto_first r ms) ≡ add_first (cur ++ (r ∷ [])) ms
at_row cur r [] = refl
at_row cur r (m ∷ ms) = ap (λ l. l ∷ ms) (sym (append_assoc cur (r ∷ []) m))

-- no row before the first measure
add_none : (ms : List (Option Row)) → add_first [] (measures_of ms) ≡ measures_of ms
add_none [] = refl
add_none (None ∷ ms) = refl
add_none (Some r ∷ ms) = first (measures_of ms)
  where
    first : (ms : List (List Row)) → add_first [] (onto_first r ms) ≡ onto_first r ms
    first [] = refl
    first (m ∷ ms) = refl

abbrev all : Held → List (List Row)
all h = h.done ++ (h.cur ∷ [])

abbrev from : List (List Row) → List Row → List (Option Row) → Held
from done cur ms = fold held_with (record { done = done; cur = cur }) ms

all-measures : (ms : List (Option Row)) (done : List (List Row)) (cur : List Row) → done ++ add_first cur (measures_of ms) ≡ all (from done cur ms)
all-measures [] done cur = rw append-nil
all-measures (None ∷ ms) done cur =
    rw append-nil
    (sym (append_assoc done (cur ∷ []) (measures_of ms)) ∙ sym (ap (λ l. (done ++ (cur ∷ [])) ++ l) (add_none ms)) ∙ all-measures ms (done ++ (cur ∷ [])) [])
all-measures (Some r ∷ ms) done cur = ap (λ l. done ++ l) (at_row cur r (measures_of ms)) ∙ all-measures ms done (cur ++ (r ∷ []))

-- They are those that have ended when all marks have come, and the open one.
pub chart-held : (L : ℕ) (text : List ℕ) → chart L text ≡ (held (chart_marks L text)).done ++ ((held (chart_marks L text)).cur ∷ [])
unfolding held
chart-held L text = chart-measures L text ∙ sym (add_none (chart_marks L text)) ∙ all-measures (chart_marks L text) [] []
