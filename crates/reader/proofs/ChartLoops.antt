-- A loop over the lines of a chart that count, as `charts::chart_lines` gives them: what has been read when some of them have come, how little that is
-- for a text of so many bytes, and that it is the whole chart at the end.
use mathlib.Core.Path.{◌≡◌, refl, ap, sym, ◌∙◌, subst}
use mathlib.Core.List.{List, [], ◌∷◌, ◌++◌, map, map-append, append_assoc, append-nil}
use Prim.Native.Nat.{ℕ, ◌+◌, ◌*◌, ◌≤◌}
use native.Mathlib.Nat.{le_trans, mul-le-mul_right, le-div_iff_mul-le, mul_comm, le_of_eq}
use native.Mathlib.Omega.{arith}
use lib.ListN.{length, length-append}
use Rattle.std.specs.Prelude.{Option, Some, None, fold, sum_by}
use Rattle.std.proofs.lemmas.List.Sums.{fold_push, sum_by-append}
use Rattle.definitions.specs.Lists.{joined}
use Rattle.definitions.specs.Lanes.{most_rows_in}
use Rattle.definitions.specs.Lines.{Row}
use Rattle.definitions.specs.Measures.{chart}
use Rattle.definitions.proofs.Lists.{All, one, joined_snoc}
use Rattle.reader.specs.declared.charts.ChartLine.{ChartLine}
use Rattle.reader.specs.declared.charts.ChartLine.TheVariants as chart-line
use Rattle.reader.specs.Marks.{chart_marks, wide, bytes_of, Held, held_with, held}
use Rattle.reader.specs.ChartLines.{mark_of, held_of}
use Rattle.reader.proofs.Marks.{chart-bytes, chart-wide, chart-held}

-- ---- what is held takes as many as its marks

abbrev pub bytes_of_held : ℕ → Held → ℕ
bytes_of_held L h = 2 * length h.done + (L + 1) * (length (joined h.done) + length h.cur)

one-more : (L : ℕ) (h : Held) (m : Option Row) → bytes_of_held L (held_with h m) ≡ bytes_of_held L h + bytes_of L m
one-more L h None = rw (length-append, joined_snoc h.done h.cur, length-append) (omega arith)
one-more L h (Some r) = rw length-append (omega arith)

all-bytes : (L : ℕ) (h : Held) (ms : List (Option Row)) → bytes_of_held L (fold held_with h ms) ≡ fold (λ a m. a + bytes_of L m) (bytes_of_held L h) ms
all-bytes L h [] = refl
all-bytes L h (m ∷ ms) = all-bytes L (held_with h m) ms ∙ ap (λ a. fold (λ a m. a + bytes_of L m) a ms) (one-more L h m)

held_bytes : (L : ℕ) (ms : List (Option Row)) → bytes_of_held L (held ms) ≡ sum_by (bytes_of L) ms
unfolding held
held_bytes L ms =
    let none : 2 * 0 + (L + 1) * (0 + 0) ≡ 0 = omega arith in
    all-bytes L _ ms ∙ ap (λ a. fold (λ a m. a + bytes_of L m) a ms) none

-- ---- rows and measures are few for a text of so many bytes

pub record Few (L : ℕ) (len : ℕ) (done : List (List Row)) (cur : List Row) : Type 0 where
  pub rows : length (joined done) + length cur ≤ most_rows_in L len
  pub fifth : 5 * (length (joined done) + length cur) ≤ len + 1
  pub measures : 2 * length done ≤ len + 1

few-of : (L len : ℕ) (h : Held) → 4 ≤ L → bytes_of_held L h ≤ len + 1 → Few L len h.done h.cur
unfolding most_rows_in
few-of L len h w b =
    let rows = length (joined h.done) + length h.cur in
    let five : 5 ≤ L + 1 = omega arith in
    let part : (L + 1) * rows ≤ len + 1 = omega arith in
    record {
      rows = (le-div_iff_mul-le {k = L + 1} (omega arith)).1 (le_trans (le_of_eq (mul_comm rows (L + 1))) part);
      fifth = le_trans (mul-le-mul_right rows five) part;
      measures = omega arith;
    }

-- ---- the loop

held-more : (ls : List ChartLine) (l : ChartLine) → held_of (ls ++ (l ∷ [])) ≡ held_with (held_of ls) (mark_of l)
unfolding held
held-more ls l = ap (fold held_with _) (map-append mark_of ls (l ∷ [])) ∙ fold_push held_with _ (map mark_of ls) (mark_of l)

-- Lines of a text have come, with `rest` left to come.
pub record Come (L : ℕ) (text : List ℕ) (ls : List ChartLine) (rest : List (Option Row)) : Type 0 where
  pub lanes : 4 ≤ L
  pub lines_are : chart_marks L text ≡ map mark_of ls ++ rest

-- A pass holds K of the measures that have ended and of the open one's rows, which are few.
pub record Holds (L : ℕ) (text : List ℕ) (K : List (List Row) → List Row → Type 0) (ls : List ChartLine) (rest : List (Option Row)) : Type 0 where
  pub come : Come L text ls rest
  pub held : K (held_of ls).done (held_of ls).cur
  pub few : Few L (length text) (held_of ls).done (held_of ls).cur

-- The reading is over, and one measure is still open.
pub record Over (L : ℕ) (text : List ℕ) (K : List (List Row) → List Row → Type 0) : Type 0 where
  pub done : List (List Row)
  pub cur : List Row
  pub chart_is : chart L text ≡ done ++ (cur ∷ [])
  pub few : Few L (length text) done cur
  pub held : K done cur

module _ {L : ℕ} {text : List ℕ} {ls : List ChartLine} {rest : List (Option Row)} (x : Come L text ls rest) where
  come-few : Few L (length text) (held_of ls).done (held_of ls).cur
  come-few =
      few-of L (length text) (held_of ls) x.lanes
      (omega (arith, held_bytes L (map mark_of ls), sum_by-append (bytes_of L) (map mark_of ls) rest, ap (sum_by (bytes_of L)) x.lines_are, chart-bytes L text))

  -- One line more has come.
  module _ {below : List (Option Row)} where
    pub come-more : (l : ChartLine) → rest ≡ mark_of l ∷ below → Come L text (ls ++ (l ∷ [])) below
    come-more l e =
        record {
          lanes = x.lanes;
          lines_are = x.lines_are ∙ ap (λ ms. map mark_of ls ++ ms) e ∙ sym (append_assoc (map mark_of ls) (mark_of l ∷ []) below) ∙ ap (λ ms. ms ++ below) (sym (map-append mark_of ls (l ∷ [])));
        }

    -- a row has L bytes
    pub row-wide : {l : ChartLine} → rest ≡ mark_of l ∷ below → (row : _) → l ≡ chart-line.Row row → length row.now ≡ L
    row-wide e row q = go (map mark_of ls) (subst (All (wide L)) (x.lines_are ∙ rw (e, q) refl) (chart-wide L text))
      where
        go : (ms : List (Option Row)) → All (wide L) (ms ++ (Some row.now ∷ below)) → length row.now ≡ L
        go [] (one h p) = h
        go (m ∷ ms) (one h p) = go ms p

pub holds-start : {L : ℕ} {text : List ℕ} {K : List (List Row) → List Row → Type 0} {rest : List (Option Row)} → rest ≡ chart_marks L text → 4 ≤ L → K [] [] → Holds L text K [] rest
unfolding held
holds-start {L = L} {text = text} e w k = record { come = record { lanes = w; lines_are = sym e }; held = k; few = few-of L (length text) (record { done = []; cur = [] }) w (omega arith) }

module _ {L : ℕ} {text : List ℕ} {K : List (List Row) → List Row → Type 0} {ls : List ChartLine} {rest : List (Option Row)} (h : Holds L text K ls rest) where
  -- One line more has come, or none.
  module _ {K' : List (List Row) → List Row → Type 0} {l : ChartLine} {below : List (Option Row)} (e : rest ≡ mark_of l ∷ below) where
    pub holds-row : (row : _) → l ≡ chart-line.Row row → ((done : List (List Row)) (cur : List Row) → K done cur → K' done (cur ++ (row.now ∷ []))) → Holds L text K' (ls ++ (l ∷ [])) below
    holds-row row q f =
        let more = come-more h.come l e in
        record { come = more; held = rw (held-more ls l, q) (f _ _ h.held); few = come-few more }

    pub holds-comma : l ≡ chart-line.Comma → ((done : List (List Row)) (cur : List Row) → K done cur → K' (done ++ (cur ∷ [])) []) → Holds L text K' (ls ++ (l ∷ [])) below
    holds-comma q f =
        let more = come-more h.come l e in
        record { come = more; held = rw (held-more ls l, q) (f _ _ h.held); few = come-few more }

  pub holds-over : rest ≡ [] → Over L text K
  holds-over n =
      record {
        done = (held_of ls).done;
        cur = (held_of ls).cur;
        chart_is = chart-held L text ∙ ap (λ ms. (held ms).done ++ ((held ms).cur ∷ [])) (h.come.lines_are ∙ rw (n, append-nil) refl);
        few = h.few;
        held = h.held;
      }
