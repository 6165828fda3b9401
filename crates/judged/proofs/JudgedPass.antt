-- The one pass over a text: what it has of the rows read so far. Once they turn out clean to the end, its tally is the judged one.
use mathlib.Core.Path.{◌≡◌, refl, ap, ap₂, sym, subst, ◌∙◌}
use mathlib.Core.Bool.{Bool, true, false, ◌||◌, or_assoc, or-false, or-true}
use mathlib.Core.List.{List, [], ◌∷◌, ◌++◌}
use Prim.Native.Nat.{ℕ, zero, suc, ◌+◌, ◌*◌, ◌≤◌, ◌<◌}
use native.Mathlib.Decide.{dec_lt}
use native.Mathlib.Nat.{zero-add, not-suc-le-zero, le_of_eq}
use native.Mathlib.Omega.{arith}
use borrow.Author.Tests.{ltb-false}
use lib.Dec.{ltb}
use lib.ListN.{length, get_or, length-append}
use Rattle.std.specs.Prelude.{Option, Some, None}
use Rattle.std.proofs.lemmas.Bool.{or_parts}
use Rattle.definitions.specs.Sizes.{count_bound, row_numbers_bound}
use Rattle.definitions.specs.Lists.{some_column, sum_columns}
use Rattle.definitions.specs.Lines.{Row}
use Rattle.definitions.specs.Cells.{byte_at}
use Rattle.definitions.specs.Tracker.{pairs, hold_at}
use Rattle.definitions.specs.Tally.{empty_stats}
use Rattle.definitions.specs.Correction.{phantom_step, phantom_after}
use Rattle.definitions.specs.Judged.{judged_sum, judge_row, open_before, judge_from, judged_rows}
use Rattle.definitions.specs.declared.ArrowStats.{ArrowStats}
use Rattle.definitions.proofs.Lists.{All, all_map}
use Rattle.phantoms.proofs.Columns.{column-same, column-none, column-each, column-more}
use Rattle.phantoms.proofs.Rows.{after-snoc}
use Rattle.holds.proofs.Ends.{sum_same}
use Rattle.row_tally.specs.Bounds.{Below}
use Rattle.row_tally.proofs.Bounds.{below_more, below_none, below-judged-line}
use Rattle.row_tally.proofs.Rows.{judge-snoc}
use Rattle.judged.specs.Clean.{unpairs, unpairs_from, is_clean, every, clean_answer}
use Rattle.judged.specs.JudgedPass.{row_unpairs, Ready, RowPassed}
use Rattle.judged.specs.declared.judged_pass.CleanRows.{CleanRows}
use Rattle.judged.proofs.Paired.{AllClean, clean-whole, clean-active}
use Rattle.judged.proofs.Rows.{none-unpairs, sum-columns}

-- `all` are the rows of the text, and `rows` those that have come.
pub record Passes (L : ℕ) (all rows : List Row) (t : CleanRows) : Type 0 where
  pub ready : Ready t
  pub depths : (c : ℕ) → c < 10 → get_or t.depths c 0 ≡ phantom_after c 0 rows
  pub whole : (c : ℕ) → c < 10 → unpairs_from c 0 rows ≡ false
  pub stats : AllClean all → t.stats ≡ judge_from L every (pairs all) empty_stats 0 rows
  pub below : Below (10 * length rows) t.stats

pub passes-start : (L : ℕ) (all : List Row) (t : CleanRows) → Ready t → t.stats ≡ empty_stats → ((c : ℕ) → c < 10 → get_or t.depths c 0 ≡ 0) → Passes L all [] t
passes-start L all t r s z = record { ready = r; depths = z; whole = λ c h. refl; stats = λ k. s; below = rw s below_none }

-- ---- The answer
-- rows have a head unpaired in column c
abbrev unclean : List Row → ℕ → Bool
unclean rows c = unpairs_from c 0 rows || ltb 0 (phantom_after c 0 rows)

-- clean rows, and others
answer-clean : (L : ℕ) (rows : List Row) → AllClean rows → Some (judged_rows L every rows) ≡ clean_answer L rows
unfolding clean_answer is_clean
answer-clean L rows k = rw (column-same 10 (unclean rows) (λ c. false) (λ c h. rw ((k c h).whole, (k c h).closed)) ∙ column-none 10)

answer-none : (L : ℕ) (rows : List Row) → some_column 10 (unclean rows) ≡ true → None ≡ clean_answer L rows
unfolding clean_answer is_clean
answer-none L rows e = rw e

-- an answer that is a tally
pub answer_told : (r : Option ArrowStats) (L : ℕ) (rows : List Row) (s : ArrowStats) → r ≡ clean_answer L rows → r ≡ Some s → s ≡ judged_rows L every rows
unfolding clean_answer
answer_told r L rows s e f = go (is_clean rows) refl
  where
    go : (t : Bool) → is_clean rows ≡ t → s ≡ judged_rows L every rows
    go true q = let h : Some s ≡ Some (judged_rows L every rows) = sym f ∙ e ∙ rw q refl in cc
    go false q = let h : Some s ≡ None = sym f ∙ e ∙ rw q refl in cc

-- a sum of zeros
sum-none : (n : ℕ) (f : ℕ → ℕ) → sum_columns n f ≡ 0 → (c : ℕ) → c < n → f c ≡ 0
sum-none zero f e c h = absurd (not-suc-le-zero h)
sum-none (suc n) f e c h =
    elim (dec_lt c n) [
      | yes b ↦ sum-none n f (omega arith) c b
      | no b ↦ let z : c ≡ n = omega arith in rw z (omega arith)
    ]

-- ---- One row more
unpairs-append : (c d : ℕ) (rows more : List Row) → unpairs_from c d (rows ++ more) ≡ (unpairs_from c d rows || unpairs_from c (phantom_after c d rows) more)
unpairs-append c d [] more = refl
unpairs-append c d (q ∷ rows) more =
    rw or_assoc (ap (λ t. unpairs (hold_at (byte_at c q)) d || t) (unpairs-append c (phantom_step (hold_at (byte_at c q)) d) rows more))

-- in clean rows a row is counted with all its heads, and before it as many holds are open as there are open heads
module _ (L : ℕ) (rows : List Row) (r : Row) (rest : List Row) (m : L ≤ 10) (w : length r ≤ 10) (held : ℕ) (s : ArrowStats) where
  abbrev Counted : List Row → Type 0
  Counted all =
      All (λ (q : Row). length q ≤ L) all → AllClean all → held ≡ sum_columns 10 (λ c. phantom_after c 0 rows)
      → s ≡ judge_from L every (pairs all) empty_stats 0 rows
      → judge_row s true held (judged_sum true r) ≡ judge_from L every (pairs all) empty_stats 0 (rows ++ (r ∷ []))

  counted-here : Counted (rows ++ (r ∷ rest))
  counted-here short k a e =
      rw (a, ← clean-active L rows (r ∷ rest) m short k, e)
      (ap (λ (q : Row). judge_row (judge_from L every (pairs (rows ++ (r ∷ rest))) empty_stats 0 rows) true (open_before L every (pairs (rows ++ (r ∷ rest))) (length rows)) (judged_sum true q)) (sym (clean-whole rows r rest w k))
      ∙ sym (rw zero-add at (judge-snoc (pairs (rows ++ (r ∷ rest))) L every empty_stats 0 rows r)))

  counted : (all : List Row) → rows ++ (r ∷ rest) ≡ all → Counted all
  counted all e = subst (λ (q : List Row). Counted q) e counted-here

module _ (L : ℕ) (all rows : List Row) (t : CleanRows) (x : Passes L all rows t) where
  -- the counts of the tally are low
  pub passes-few : length rows ≤ row_numbers_bound → Below count_bound t.stats
  passes-few h = below_more (10 * length rows) count_bound t.stats (omega arith) x.below

  -- the open heads are those of the rows so far
  held : t.active ≡ sum_columns 10 (λ c. phantom_after c 0 rows)
  held = x.ready.active ∙ sum-columns 10 t.depths x.ready.ten ∙ sum_same 10 (λ c. get_or t.depths c 0) (λ c. phantom_after c 0 rows) x.depths

  -- at the end
  module _ (e : all ≡ rows) where
    -- with no head open
    all-clean : t.active ≡ 0 → AllClean all
    all-clean z = rw e (λ c k. record { whole = x.whole c k; closed = sum-none 10 (λ c. phantom_after c 0 rows) (sym held ∙ z) c k })

    pub passes-end : t.active ≡ 0 → Some t.stats ≡ clean_answer L all
    unfolding judged_rows
    passes-end z =
        let k = all-clean z in
        ap Some (x.stats k ∙ ap (judge_from L every (pairs all) empty_stats 0) (sym e)) ∙ answer-clean L all k

    -- with one
    pub passes-open : (t.active ≡ 0 → ⊥) → None ≡ clean_answer L all
    passes-open z = answer-none L all (rw e (go (some_column 10 (unclean rows)) refl))
      where
        closed : some_column 10 (unclean rows) ≡ false → (c : ℕ) → c < 10 → phantom_after c 0 rows ≡ 0
        closed q c n =
            let b = ltb-false 0 (phantom_after c 0 rows) (or_parts (unpairs_from c 0 rows) (ltb 0 (phantom_after c 0 rows)) (column-each 10 (unclean rows) q c n)).1 in
            omega arith

        go : (b : Bool) → some_column 10 (unclean rows) ≡ b → b ≡ true
        go true q = refl
        go false q = absurd (z (held ∙ sum_same 10 (λ c. phantom_after c 0 rows) (λ c. 0) (closed q)))

  module _ (row : Row) (rest : List Row) (e : all ≡ rows ++ (row ∷ rest)) where
    -- the row leaves a head unpaired in this column
    here : (c : ℕ) → c < 10 → unpairs (hold_at (byte_at c row)) (get_or t.depths c 0) ≡ true → unclean (rows ++ (row ∷ rest)) c ≡ true
    here c n u =
        let met : unpairs (hold_at (byte_at c row)) (phantom_after c 0 rows) ≡ true = ap (unpairs (hold_at (byte_at c row))) (sym (x.depths c n)) ∙ u in
        rw (unpairs-append c 0 rows (row ∷ rest), met, or-true (unpairs_from c 0 rows))

    pub passes-unclean : row_unpairs row t.depths ≡ true → None ≡ clean_answer L all
    unfolding row_unpairs
    passes-unclean k =
        answer-none L all (rw e (column-more 10 (λ c. unpairs (hold_at (byte_at c row)) (get_or t.depths c 0)) (unclean (rows ++ (row ∷ rest))) here k))

    pub passes-row : L ≤ 10 → length row ≡ L → All (λ (r : Row). length r ≡ L) all → row_unpairs row t.depths ≡ false → (t' : CleanRows) → RowPassed row t t'
        → Passes L all (rows ++ (row ∷ [])) t'
    passes-row m w wide k t' p =
        let narrow : length row ≤ 10 = omega arith in
        record {
          ready = p.ready;
          depths =
              λ c n.
              p.depths c n
              ∙ ap (phantom_step (hold_at (byte_at c row))) (x.depths c n)
              ∙ sym (after-snoc c 0 rows row);
          whole =
              λ c n.
              unpairs-append c 0 rows (row ∷ [])
              ∙ ap₂ (λ (a b : Bool). a || b) (x.whole c n)
              (or-false (unpairs (hold_at (byte_at c row)) (phantom_after c 0 rows))
              ∙ ap (unpairs (hold_at (byte_at c row))) (sym (x.depths c n))
              ∙ none-unpairs row t.depths k c n);
          stats =
              λ q.
              p.stats
              ∙ counted L rows row rest m narrow t.active t.stats all (sym e) (all_map (λ r h. le_of_eq h) wide) q held (x.stats q);
          below =
              rw p.stats
              (below_more (10 * length rows + 10) (10 * length (rows ++ (row ∷ []))) _ (rw length-append (omega arith))
              (below-judged-line (10 * length rows) t.stats true t.active row narrow x.below));
        }
