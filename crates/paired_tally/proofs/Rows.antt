-- A row more that changes no pairs, and that of a row of zeros, with which each row begins.
use mathlib.Core.Path.{◌≡◌, refl, sym, ap, ap₂, ◌∙◌}
use mathlib.Core.Bool.{Bool, true, false}
use mathlib.Core.List.{List, [], ◌∷◌, ◌++◌, append-nil}
use Prim.Native.Nat.{ℕ, ◌+◌, ◌<◌}
use native.Mathlib.Nat.{zero-add}
use native.Mathlib.Decide.{ℕ_discrete}
use native.Mathlib.Omega.{arith}
use lib.ListN.{length, get_or, length-append, get_or-append}
use lib.Seq.{get_or-append_seam}
use Rattle.definitions.specs.Lines.{Row}
use Rattle.definitions.specs.Cells.{cell_of, byte_at, is_arrow}
use Rattle.definitions.specs.Reduction.{all_zero}
use Rattle.definitions.specs.Tracker.{next_stack, paired, hold_at, pairs, is_head_of}
use Rattle.definitions.specs.Tally.{row_sum, empty_stats, empty_sum}
use Rattle.definitions.specs.Correction.{keep_row}
use Rattle.definitions.specs.Judged.{is_judged_arrow, is_unjudged_fake, sum_of_fakes, judged_sum}
use Rattle.definitions.specs.declared.DepthEffect.TheVariants.{Nothing}
use Rattle.definitions.specs.declared.RowSum.{RowSum}
use Rattle.definitions.proofs.Columns.{zero-byte}
use Rattle.holds.specs.Tracks.{stack_after, ends_in, ends_at}
use Rattle.holds.proofs.Pairs.{pairs-snoc}
use Rattle.holds.proofs.Ends.{ends-late, ends-old, sum_same}
use Rattle.row_tally.specs.Raised.{with_cells}
use Rattle.row_tally.proofs.Raised.{cells-none}
use Rattle.row_tally.proofs.Zeros.{zero-stays, zero-count, zero-sum}
use Rattle.paired_tally.specs.declared.PairedTally.{PairedTally}
use Rattle.paired_tally.specs.Entry.{entry_of}
use Rattle.paired_tally.specs.Paired.{kind_sum, head_number, numbers_after, PairedRows}
use Rattle.paired_tally.specs.Cells.{begun}
use Rattle.paired_tally.proofs.Numbers.{numbers_snoc}
use Rattle.paired_tally.proofs.Keep.{Same, keep-same}
use Rattle.paired_tally.proofs.Counts.{counts-snoc, counts-same}
use Rattle.paired_tally.proofs.Columns.{zero-nothing}
use Rattle.paired_tally.proofs.Within.{begun-long}

module _
    (plain : Bool)
    (J : ℕ → Bool)
    (L : ℕ)
    (rows : List Row)
    (r : Row)
    (t t' : PairedTally)
    (work work' : List ℕ)
    (s : PairedRows plain J L rows t work)
    (wide : length r ≡ L)
    (pairs-same : (c : ℕ) → paired (hold_at (byte_at c r)) (length rows) (stack_after rows c) ≡ [])
    (stays : (c : ℕ) → c < 10 → next_stack (hold_at (byte_at c r)) (head_number (length rows) (byte_at c r)) (numbers_after rows c) ≡ numbers_after rows c)
    (sum : RowSum)
    (sum-is : kind_sum plain (J (length rows)) (keep_row (pairs rows) (length rows) 0 r) ≡ sum)
    (tracked : t'.tracker ≡ t.tracker)
    (counted : t'.stats ≡ with_cells t.stats sum)
    (entry : get_or work' (length rows) 0 ≡ entry_of plain (J (length rows)) sum 0)
    (others : (i : ℕ) → (i ≡ length rows → ⊥) → get_or work' i 0 ≡ get_or work i 0)
  where
    abbrev n : ℕ
    n = length rows

    abbrev After : List Row
    After = rows ++ (r ∷ [])

    long : length After ≡ n + 1
    long = length-append rows (r ∷ [])

    last : get_or After n [] ≡ r
    last = get_or-append_seam rows r [] []

    first : (i : ℕ) → i < n → get_or After i [] ≡ get_or rows i []
    first i h = get_or-append rows (r ∷ []) [] i h

    pairs-after : (c : ℕ) → pairs After c ≡ pairs rows c
    pairs-after c = pairs-snoc rows r c ∙ ap (λ ps. pairs rows c ++ ps) (pairs-same c) ∙ append-nil (pairs rows c)

    heads : (i : ℕ) → Same (pairs rows) (pairs After) i
    heads i d = ap (is_head_of i) (pairs-after d)

    sum-last : kind_sum plain (J n) (keep_row (pairs After) n 0 r) ≡ sum
    sum-last = ap (kind_sum plain (J n)) (keep-same (pairs rows) (pairs After) n 0 r (heads n)) ∙ sum-is

    no-ends : ends_at J After n ≡ 0
    unfolding ends_at
    no-ends =
        sum_same 10 (λ c. ends_in J n (pairs After c)) (λ c. 0) (λ c h. ap (ends_in J n) (pairs-after c) ∙ ends-late J rows c n (omega arith))

    -- the rows with this one
    pub row-more : PairedRows plain J L After t' work'
    row-more =
        record {
          wide =
              λ i h.
              elim (ℕ_discrete i n) [
                | yes e ↦ rw e (ap length last ∙ wide)
                | no ne ↦ ap length (first i (omega (arith, long))) ∙ s.wide i (omega (arith, long))
              ];
          stacks = λ c h. rw tracked (s.stacks c h ∙ sym (numbers_snoc rows r c ∙ stays c h));
          sized = rw tracked s.sized;
          busy = rw tracked s.busy;
          stats =
              counted ∙ ap (λ u. with_cells u sum) s.stats
              ∙ sym (rw zero-add at (counts-snoc plain J (pairs After) empty_stats 0 rows r)
              ∙ ap₂ with_cells (counts-same plain J (pairs rows) (pairs After) empty_stats 0 rows (λ j l. heads j)) sum-last);
          entries =
              λ i h.
              elim (ℕ_discrete i n) [
                | yes e ↦
                    rw e
                    (entry
                    ∙ ap₂ (entry_of plain (J n)) (sym (ap (λ q. kind_sum plain (J n) (keep_row (pairs After) n 0 q)) last ∙ sum-last)) (sym no-ends))
                | no ne ↦
                    others i ne ∙ s.entries i (omega (arith, long))
                    ∙ ap₂ (entry_of plain (J i))
                    (sym (ap (λ q. kind_sum plain (J i) (keep_row (pairs After) i 0 q)) (first i (omega (arith, long)))
                    ∙ ap (kind_sum plain (J i)) (keep-same (pairs rows) (pairs After) i 0 (get_or rows i []) (heads i))))
                    (sym (ends-old J rows r i ne))
              ];
          later = λ i h. others i (λ e. omega (arith, long)) ∙ s.later i (omega (arith, long));
        }

-- ---- A row of zeros
begun-none : (cells : Row) → all_zero (begun cells 0) ≡ true
begun-none [] = refl
begun-none (b ∷ cells) = begun-none cells

zero-kind : (plain judged : Bool) (r : Row) → all_zero r ≡ true → kind_sum plain judged r ≡ empty_sum
unfolding row_sum judged_sum cell_of
zero-kind true judged r z = zero-sum r z is_arrow refl
zero-kind false true r z = zero-sum r z is_judged_arrow refl
zero-kind false false r z = ap sum_of_fakes (zero-count (λ b. is_unjudged_fake (cell_of b)) refl r z)

pub row-begins : (plain : Bool) (J : ℕ → Bool) (rows : List Row) (cells : Row) (t : PairedTally) (work work' : List ℕ) → PairedRows plain J (length cells) rows t work
    → get_or work' (length rows) 0 ≡ entry_of plain (J (length rows)) empty_sum 0
    → ((i : ℕ) → (i ≡ length rows → ⊥) → get_or work' i 0 ≡ get_or work i 0)
    → PairedRows plain J (length cells) (rows ++ (begun cells 0 ∷ [])) t work'
row-begins plain J rows cells t work work' s entry others =
    let z = begun-none cells in
    let nothing : (c : ℕ) → hold_at (byte_at c (begun cells 0)) ≡ Nothing = λ c. ap hold_at (zero-byte c (begun cells 0) z) ∙ zero-nothing in
    row-more plain J (length cells) rows (begun cells 0) t t work work' s (begun-long cells 0)
    (λ c. rw (nothing c))
    (λ c h. rw (nothing c))
    empty_sum
    (ap (kind_sum plain (J (length rows))) (zero-stays (pairs rows) (length rows) 0 (begun cells 0) z) ∙ zero-kind plain (J (length rows)) (begun cells 0) z)
    refl (sym (cells-none t.stats)) entry others
