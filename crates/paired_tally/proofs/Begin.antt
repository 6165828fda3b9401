-- Where a row begins and where it ends: what is counted of the rows before it hangs on no judging of later rows.
use mathlib.Core.Path.{◌≡◌, refl, sym, ap, ap₂, ◌∙◌}
use mathlib.Core.Bool.{Bool, cond, ◌&&◌}
use mathlib.Core.List.{List, [], ◌∷◌, ◌++◌}
use Prim.Native.Nat.{ℕ, suc, ◌+◌, ◌≤◌, ◌<◌}
use native.Mathlib.Nat.{zero-add}
use native.Mathlib.Omega.{arith}
use borrow.Author.Tests.{eq-eqb, ne_eqb}
use lib.Dec.{eqb}
use lib.ListN.{length, get_or}
use Rattle.definitions.specs.Sizes.{row_numbers_bound}
use Rattle.definitions.specs.Lists.{number_of_bool}
use Rattle.definitions.specs.Lines.{Row}
use Rattle.definitions.specs.Tracker.{Pair, pairs}
use Rattle.definitions.specs.Tally.{empty_stats, empty_sum}
use Rattle.definitions.specs.Correction.{keep_row}
use Rattle.definitions.specs.declared.ArrowStats.{ArrowStats}
use Rattle.definitions.proofs.Lists.{All, none, one, count-cons}
use Rattle.holds.specs.Tracks.{ends_in, ends_at}
use Rattle.holds.proofs.Pairs.{Placed, placed}
use Rattle.holds.proofs.Ends.{sum_same}
use Rattle.row_tally.specs.Raised.{with_cells}
use Rattle.paired_tally.specs.declared.PairedTally.{PairedTally}
use Rattle.paired_tally.specs.Entry.{entry_of}
use Rattle.paired_tally.specs.Paired.{kind_sum, counts_from, PairedRows, LeftByRows, RowCounted}
use Rattle.paired_tally.specs.Cells.{begun, Within, GoneOn}
use Rattle.paired_tally.proofs.Within.{begun-end}
use Rattle.paired_tally.proofs.Rows.{row-begins}

-- ---- Which rows are judged counts for the rows that have come alone
module _ (J J' : ℕ → Bool) where
  counts-judging : (plain : Bool) (ps : ℕ → List Pair) (t : ArrowStats) (i : ℕ) (rs : List Row) → ((j : ℕ) → j < length rs → J (i + j) ≡ J' (i + j))
      → counts_from plain J ps t i rs ≡ counts_from plain J' ps t i rs
  counts-judging plain ps t i [] f = refl
  counts-judging plain ps t i (r ∷ rs) f =
      let z : i + 0 ≡ i = omega arith in
      let e : J i ≡ J' i = rw z at (f 0 (omega arith)) in
      rw e
      (counts-judging plain ps (with_cells t (kind_sum plain (J' i) (keep_row ps i 0 r))) (suc i) rs
      (λ j h. let y : i + suc j ≡ suc i + j = omega arith in rw y at (f (suc j) (omega arith))))

  ends-judging : (n i : ℕ) {ps : List Pair} → ((j : ℕ) → j < n → J j ≡ J' j) → All (Placed n) ps → ends_in J i ps ≡ ends_in J' i ps
  ends-judging n i f none = refl
  ends-judging n i f (one {a = p} {l = ps} q a) =
      let l = q.proper in
      let m = q.inside in
      let e = ap (λ b. number_of_bool (eqb p.tail i && b)) (f p.head (omega arith)) in
      omega (
        arith,
        count-cons (λ (x : Pair). eqb x.tail i && J x.head) p ps,
        count-cons (λ (x : Pair). eqb x.tail i && J' x.head) p ps,
        ends-judging n i f a,
      )

  rows-judging : (plain : Bool) (L : ℕ) (rows : List Row) (t : PairedTally) (work : List ℕ) → ((j : ℕ) → j < length rows → J j ≡ J' j) → PairedRows plain J L rows t work
      → PairedRows plain J' L rows t work
  unfolding ends_at
  rows-judging plain L rows t work f s =
      record {
        wide = s.wide;
        stacks = s.stacks;
        sized = s.sized;
        busy = s.busy;
        stats = s.stats ∙ counts-judging plain (pairs rows) empty_stats 0 rows (λ j h. rw zero-add (f j h));
        entries =
            λ i h.
            s.entries i h
            ∙ ap₂ (λ j n. entry_of plain j (kind_sum plain j (keep_row (pairs rows) i 0 (get_or rows i []))) n) (f i h)
            (sum_same 10 (λ c. ends_in J i (pairs rows c)) (λ c. ends_in J' i (pairs rows c)) (λ c l. ends-judging (length rows) i f (placed rows c)));
        later = s.later;
      }

-- J, with what this row is
judging-at : (ℕ → Bool) → ℕ → Bool → ℕ → Bool
judging-at J row judged i = cond (eqb i row) judged (J i)

at-row : (J : ℕ → Bool) (row : ℕ) (judged : Bool) → judging-at J row judged row ≡ judged
unfolding judging-at
at-row J row judged = ap (λ b. cond b judged (J row)) (eq-eqb row row refl)

before-row : (J : ℕ → Bool) (row : ℕ) (judged : Bool) (j : ℕ) → j < row → J j ≡ judging-at J row judged j
unfolding judging-at
before-row J row judged j h = sym (ap (λ b. cond b judged (J j)) (ne_eqb j row (λ e. omega arith)))

-- ---- A row begins and ends
module _ {plain judged : Bool} {row : ℕ} (cells : Row) (t : PairedTally) (work : List ℕ) {work' : List ℕ} (zero-entry : get_or work row 0 ≡ 0 → get_or work' row 0 ≡ entry_of plain judged empty_sum 0)
    (others : (i : ℕ) → (i ≡ row → ⊥) → get_or work' i 0 ≡ get_or work i 0) where
  begins : (J : ℕ → Bool) (rows : List Row) → length rows ≡ row → J row ≡ judged → PairedRows plain J (length cells) rows t work
      → PairedRows plain J (length cells) (rows ++ (begun cells 0 ∷ [])) t work'
  begins J rows size here s =
      row-begins plain J rows cells t work work' s (rw (size, here) (zero-entry (s.later row (omega arith)))) (rw size others)

  pub begin-within : LeftByRows plain (length cells) row t work → length cells ≤ 10 → row < length work' → row < row_numbers_bound → Within plain judged row cells 0 t work'
  begin-within x narrow room few =
      record {
        judging = judging-at x.judging row judged;
        rows = x.rows;
        size = x.size;
        here = at-row x.judging row judged;
        paired =
            begins (judging-at x.judging row judged) x.rows x.size (at-row x.judging row judged)
            (rows-judging x.judging (judging-at x.judging row judged) plain (length cells) x.rows t work (λ j h. before-row x.judging row judged j (rw x.size at h)) x.paired);
        narrow = narrow;
        room = room;
        few = few;
      }

  pub row-counted : {t' : PairedTally} {work'' : List ℕ} → GoneOn plain judged row cells 0 t work' (length cells) t' work'' → RowCounted plain judged row cells t work t' work''
  row-counted g J rows size here s = rw (begun-end cells (length cells) (omega arith)) at (g J rows size here (begins J rows size here s))
