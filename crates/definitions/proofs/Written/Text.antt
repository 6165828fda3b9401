-- The text that is written for notes and row counts is read as the measures that it was made of, and these are minimised.
use mathlib.Core.Path.{◌≡◌, refl, ap, sym, ◌∙◌}
use mathlib.Core.Bool.{Bool, true, false, cond}
use mathlib.Core.List.{List, [], ◌∷◌, ◌++◌, map, append_assoc, append-nil}
use Prim.Native.Nat.{ℕ, zero, suc, ◌+◌, ◌≤◌}
use native.Mathlib.Omega.{arith}
use borrow.Author.Tests.{le-leb, ltb-false}
use lib.Dec.{eqb}
use lib.ListN.{length, take}
use lib.Seq.{take_all}
use Rattle.std.proofs.lemmas.Bool.{or_parts}
use Rattle.std.specs.List.{onto_first}
use Rattle.definitions.specs.Lists.{among, joined, only_if}
use Rattle.definitions.specs.Lines.{Row, cut, is_blank_byte, trim, is_row_line, kind_of, line_kind, line_row}
use Rattle.definitions.specs.Measures.{add_line, measures, chart}
use Rattle.definitions.specs.Reduction.{multiple, at_multiples, stride, reduce, minimised}
use Rattle.definitions.specs.Figures.{row_text, text_of}
use Rattle.definitions.specs.ReadBack.{begins_mark}
use Rattle.definitions.specs.Written.{letter_of, headed, tailed, written_cell, written_row, written_rows, written_from, sum_of, shrinks, some_shrink}
use Rattle.definitions.specs.declared.Kind.{Kind}
use Rattle.definitions.specs.declared.Kind.TheVariants.{Tap, Hold, Roll, Mine, Lift, Fake}
use Rattle.definitions.specs.declared.LineKind.TheVariants as line
use Rattle.definitions.specs.declared.Note.{Note}
use Rattle.definitions.proofs.Lists.{All, none, one, all_map}
use Rattle.definitions.proofs.ChartRows.{Clean, ChartRow}
use Rattle.definitions.proofs.OwnRows.{cut-row}

-- ---- The letters that are written
pub record Letter (b : ℕ) : Type 0 where
  clean : eqb b 10 ≡ false
  plain : eqb 13 b ≡ false
  solid : is_blank_byte b ≡ false
  slash : eqb b 47 ≡ false
  comma : eqb b 44 ≡ false
  semi : eqb b 59 ≡ false

empty-letter : Letter 48
unfolding is_blank_byte
empty-letter = record { clean = refl; plain = refl; solid = refl; slash = refl; comma = refl; semi = refl }

tail-letter : Letter 51
unfolding is_blank_byte
tail-letter = record { clean = refl; plain = refl; solid = refl; slash = refl; comma = refl; semi = refl }

kind-letter : (k : Kind) → Letter (letter_of k)
unfolding is_blank_byte
kind-letter Tap = record { clean = refl; plain = refl; solid = refl; slash = refl; comma = refl; semi = refl }
kind-letter Hold = record { clean = refl; plain = refl; solid = refl; slash = refl; comma = refl; semi = refl }
kind-letter Roll = record { clean = refl; plain = refl; solid = refl; slash = refl; comma = refl; semi = refl }
kind-letter Mine = record { clean = refl; plain = refl; solid = refl; slash = refl; comma = refl; semi = refl }
kind-letter Lift = record { clean = refl; plain = refl; solid = refl; slash = refl; comma = refl; semi = refl }
kind-letter Fake = record { clean = refl; plain = refl; solid = refl; slash = refl; comma = refl; semi = refl }

cell-letter : (ns : List Note) (i c : ℕ) → Letter (written_cell ns i c)
cell-letter [] i c = empty-letter
cell-letter (n ∷ ns) i c = go (headed i c n) (tailed i c n) (cell-letter ns i c)
  where
    go : (s t : Bool) → Letter (written_cell ns i c) → Letter (cond s (letter_of n.kind) (cond t 51 (written_cell ns i c)))
    go true t x = kind-letter n.kind
    go false true x = tail-letter
    go false false x = x

pub record WrittenRow (L : ℕ) (r : Row) : Type 0 where
  pub size : length r ≡ L
  letters : All Letter r

row-size : (ns : List Note) (i c k : ℕ) → length (written_row ns i c k) ≡ k
row-size ns i c zero = refl
row-size ns i c (suc k) = ap suc (row-size ns i (suc c) k)

row-letters : (ns : List Note) (i c k : ℕ) → All Letter (written_row ns i c k)
row-letters ns i c zero = none
row-letters ns i c (suc k) = one (cell-letter ns i c) (row-letters ns i (suc c) k)

rows-written : (L : ℕ) (ns : List Note) (i n : ℕ) → All (WrittenRow L) (written_rows L ns i n)
rows-written L ns i zero = none
rows-written L ns i (suc n) = one (record { size = row-size ns i 0 L; letters = row-letters ns i 0 L }) (rows-written L ns (suc i) n)

pub from-written : (L : ℕ) (ns : List Note) (i : ℕ) (counts : List ℕ) → All (All (WrittenRow L)) (written_from L ns i counts)
from-written L ns i [] = none
from-written L ns i (n ∷ counts) = one (rows-written L ns i n) (from-written L ns (i + n) counts)

-- they are rows of a chart
letters-clean : {r : Row} → All Letter r → Clean r
letters-clean none = none
letters-clean (one h a) = one h.clean (letters-clean a)

letters-plain : {r : Row} → All Letter r → among 13 r ≡ false
letters-plain none = refl
letters-plain (one h a) = rw h.plain (letters-plain a)

letters-unmarked : {r : Row} → All Letter r → begins_mark r ≡ false
letters-unmarked none = refl
letters-unmarked (one h a) = rw (h.comma, h.semi) refl

chart-row : {L : ℕ} {r : Row} → WrittenRow L r → ChartRow L r
chart-row x = record { size = x.size; clean = letters-clean x.letters; plain = letters-plain x.letters; unmarked = letters-unmarked x.letters }

pub chart-rows : {L : ℕ} {ms : List (List Row)} → All (All (WrittenRow L)) ms → All (All (ChartRow L)) ms
chart-rows none = none
chart-rows (one p a) = one (all_map (λ r x. chart-row x) p) (chart-rows a)

-- ---- Reading the text
trim-row : (b : ℕ) (s : List ℕ) → Letter b → trim (b ∷ s) ≡ b ∷ s
trim-row b s h = ap (λ x. cond x (trim s) (b ∷ s)) h.solid

row-kind : (L b : ℕ) (s : List ℕ) → Letter b → among 13 (b ∷ s) ≡ false → length (b ∷ s) ≡ L → line_kind L (b ∷ s) ≡ line.Row
unfolding line_kind kind_of is_row_line
row-kind L b s h p e =
    let all : length (b ∷ s) ≤ L = omega arith in
    let wide : L ≤ length (b ∷ s) = omega arith in
    rw (trim-row b s h, h.slash, h.comma, h.semi, le-leb L (length (b ∷ s)) wide, take_all L (b ∷ s) all, p) refl

row-line : (L : ℕ) (r : Row) (ls : List (List ℕ)) → 1 ≤ L → WrittenRow L r → measures L (r ∷ ls) ≡ onto_first r (measures L ls)
row-line L [] ls w x = absurd (let e : 0 ≡ L = x.size in omega arith)
row-line L (b ∷ s) ls w x = go x.letters
  where
    go : All Letter (b ∷ s) → measures L ((b ∷ s) ∷ ls) ≡ onto_first (b ∷ s) (measures L ls)
    go (one h a) =
        ap (λ k. add_line k (line_row L (b ∷ s)) (measures L ls)) (row-kind L b s h (letters-plain x.letters) x.size)
        ∙ ap (λ r. onto_first r (measures L ls))
        (ap (take L) (trim-row b s h) ∙ take_all L (b ∷ s) (omega (arith, x.size)))

measure-read : (L : ℕ) (m : List Row) (t : List ℕ) (k : List Row) (ms : List (List Row)) → 1 ≤ L → All (WrittenRow L) m → measures L (cut t) ≡ k ∷ ms
    → measures L (cut (row_text m ++ t)) ≡ (m ++ k) ∷ ms
measure-read L [] t k ms w none e = e
measure-read L (r ∷ m) t k ms w (one x a) e =
    ap (λ l. measures L (cut l)) (append_assoc r (10 ∷ row_text m) t)
    ∙ ap (measures L) (cut-row r (row_text m ++ t) (letters-clean x.letters))
    ∙ row-line L r (cut (row_text m ++ t)) w x
    ∙ ap (onto_first r) (measure-read L m t k ms w a e)

nothing-read : (L : ℕ) → measures L (cut []) ≡ [] ∷ []
unfolding line_kind kind_of
nothing-read L = refl

comma-read : (L : ℕ) (t : List ℕ) → measures L (cut (44 ∷ 10 ∷ t)) ≡ [] ∷ measures L (cut t)
unfolding line_kind kind_of is_blank_byte
comma-read L t = refl

text-read : (L : ℕ) (m : List Row) (ms : List (List Row)) → 1 ≤ L → All (All (WrittenRow L)) (m ∷ ms) → measures L (cut (text_of (m ∷ ms))) ≡ m ∷ ms
text-read L m [] w (one x none) =
    ap (λ l. measures L (cut l)) (sym (append-nil (row_text m)))
    ∙ measure-read L m [] [] [] w x (nothing-read L)
    ∙ ap (λ (k : List Row). k ∷ []) (append-nil m)
text-read L m (m' ∷ ms) w (one x a) =
    measure-read L m (44 ∷ 10 ∷ text_of (m' ∷ ms)) [] (m' ∷ ms) w x
    (comma-read L (text_of (m' ∷ ms)) ∙ ap (λ (l : List (List Row)). [] ∷ l) (text-read L m' ms w a))
    ∙ ap (λ (k : List Row). k ∷ m' ∷ ms) (append-nil m)

-- ---- Measures that minimising leaves as they are
few-multiples : (s i : ℕ) (rs : List Row) → length (at_multiples s i rs) ≤ length rs
few-multiples s i [] = omega arith
few-multiples s i (r ∷ rs) = go (multiple s i) (few-multiples s (suc i) rs)
  where
    go : (t : Bool) → length (at_multiples s (suc i) rs) ≤ length rs → length (only_if t (r ∷ []) ++ at_multiples s (suc i) rs) ≤ suc (length rs)
    go true h = omega arith
    go false h = omega arith

all-multiples : (s i : ℕ) (rs : List Row) → length rs ≤ length (at_multiples s i rs) → at_multiples s i rs ≡ rs
all-multiples s i [] h = refl
all-multiples s i (r ∷ rs) h = go (multiple s i) h (all-multiples s (suc i) rs)
  where
    go : (t : Bool) → suc (length rs) ≤ length (only_if t (r ∷ []) ++ at_multiples s (suc i) rs)
        → (length rs ≤ length (at_multiples s (suc i) rs) → at_multiples s (suc i) rs ≡ rs) → only_if t (r ∷ []) ++ at_multiples s (suc i) rs ≡ r ∷ rs
    go true g ih = ap (λ (l : List Row). r ∷ l) (ih (omega arith))
    go false g ih = absurd (omega (arith, few-multiples s (suc i) rs))

stays : (m : List Row) → shrinks m ≡ false → reduce m ≡ m
unfolding reduce
stays m h = all-multiples (stride m) 0 m (ltb-false (length (at_multiples (stride m) 0 m)) (length m) h)

all-stay : (ms : List (List Row)) → some_shrink ms ≡ false → map reduce ms ≡ ms
all-stay [] h = refl
all-stay (m ∷ ms) h =
    let p = or_parts (shrinks m) (some_shrink ms) h in
    ap (λ (k : List Row). k ∷ map reduce ms) (stays m p.0) ∙ ap (λ (l : List (List Row)). m ∷ l) (all-stay ms p.1)

-- What is written is read as it was, and is minimised text.
pub written-minimised : (L : ℕ) (ns : List Note) (n : ℕ) (counts : List ℕ) → 1 ≤ L → some_shrink (written_from L ns 0 (n ∷ counts)) ≡ false
    → minimised L (text_of (written_from L ns 0 (n ∷ counts))) ≡ written_from L ns 0 (n ∷ counts)
unfolding minimised chart
written-minimised L ns n counts w h =
    ap (map reduce) (text-read L (written_rows L ns 0 n) (written_from L ns (0 + n) counts) w (from-written L ns 0 (n ∷ counts)))
    ∙ all-stay (written_from L ns 0 (n ∷ counts)) h

-- ---- Its rows and its length
pub rows-length : (L : ℕ) (ns : List Note) (i n : ℕ) → length (written_rows L ns i n) ≡ n
rows-length L ns i zero = refl
rows-length L ns i (suc n) = ap suc (rows-length L ns (suc i) n)

pub counts-back : (L : ℕ) (ns : List Note) (i : ℕ) (counts : List ℕ) → map (λ (m : List Row). length m) (written_from L ns i counts) ≡ counts
counts-back L ns i [] = refl
counts-back L ns i (n ∷ counts) =
    ap (λ k. k ∷ map (λ (m : List Row). length m) (written_from L ns (i + n) counts)) (rows-length L ns i n)
    ∙ ap {B = List ℕ} (λ l. n ∷ l) (counts-back L ns (i + n) counts)

pub rows-more : (L : ℕ) (ns : List Note) (i a b : ℕ) → written_rows L ns i (a + b) ≡ written_rows L ns i a ++ written_rows L ns (i + a) b
rows-more L ns i zero b =
    let e : 0 + b ≡ b = omega arith in
    let f : i ≡ i + 0 = omega arith in
    ap (written_rows L ns i) e ∙ ap (λ k. written_rows L ns k b) f
rows-more L ns i (suc a) b =
    let e : suc a + b ≡ suc (a + b) = omega arith in
    let f : suc i + a ≡ i + suc a = omega arith in
    ap (written_rows L ns i) e
    ∙ ap (λ (l : List Row). written_row ns i 0 L ∷ l) (rows-more L ns (suc i) a b)
    ∙ ap (λ k. written_row ns i 0 L ∷ (written_rows L ns (suc i) a ++ written_rows L ns k b)) f

pub rows-joined : (L : ℕ) (ns : List Note) (i : ℕ) (counts : List ℕ) → joined (written_from L ns i counts) ≡ written_rows L ns i (sum_of counts)
rows-joined L ns i [] = refl
rows-joined L ns i (n ∷ counts) =
    ap (λ l. written_rows L ns i n ++ l) (rows-joined L ns (i + n) counts) ∙ sym (rows-more L ns i n (sum_of counts))
