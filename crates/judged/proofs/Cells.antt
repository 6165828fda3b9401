-- The cells of a row: what the pass has when those before a column have passed, a cell more, and the whole row.
use mathlib.Core.Path.{◌≡◌, refl, ap, sym, ◌∙◌}
use mathlib.Core.Bool.{Bool, true, false, not, true≢false}
use Prim.Native.Nat.{ℕ, ◌+◌, ◌-◌, ◌≤◌, ◌<◌}
use native.Mathlib.Decide.{dec_lt}
use native.Mathlib.Nat.{not-suc-le-zero}
use native.Mathlib.Numerals.{add-one}
use native.Mathlib.Omega.{arith}
use lib.ListN.{length, get_or}
use lib.Seq.{get_or-set_same, get_or-set_other}
use Rattle.std.specs.Prelude.{Option, Some, None, is_some, OnSome}
use Rattle.definitions.proofs.Lists.{any-default}
use Rattle.definitions.specs.Sizes.{count_bound}
use Rattle.definitions.specs.Lists.{some_column}
use Rattle.definitions.specs.Lines.{Row}
use Rattle.definitions.specs.Cells.{cell_of, byte_at}
use Rattle.definitions.specs.Tracker.{hold_at}
use Rattle.definitions.specs.Correction.{phantom_step}
use Rattle.definitions.specs.Judged.{judged_sum, judge_row}
use Rattle.definitions.specs.declared.DepthEffect.TheVariants.{Nothing}
use Rattle.definitions.specs.declared.RowSum.{RowSum}
use Rattle.definitions.proofs.Columns.{past_end}
use Rattle.phantoms.proofs.Columns.{column-past, column-each}
use Rattle.row_tally.specs.Before.{sum_before}
use Rattle.row_tally.specs.Bounds.{Below, EndsBelow}
use Rattle.row_tally.specs.Raised.{judged_row_end}
use Rattle.row_tally.proofs.Before.{before-under, before-whole, before-next, before-below}
use Rattle.row_tally.proofs.Raised.{cells-none, judged-row-ended, cells-ends, cells-arrows, cells-mines, cells-fakes}
use Rattle.judged.specs.Clean.{unpairs}
use Rattle.judged.specs.JudgedPass.{row_unpairs, DepthsPassed, Ready, RowPassed, CellPassed, Passing, Reached, PassingOn, Before, Begun, Ended, EndsOn}
use Rattle.judged.specs.declared.judged_pass.CleanRows.{CleanRows}

-- before the first cell
pub passing-start : (row : Row) (t : CleanRows) → Ready t → Passing row 0 t t
passing-start row t r =
    record {
      stats = sym (cells-none t.stats);
      done = λ c h. absurd (not-suc-le-zero h);
      left = λ c h. refl;
      whole = refl;
      ready = r;
    }

pub reached-on : (row : Row) (i j : ℕ) (t' t'' : CleanRows) → PassingOn row i j t' t'' → Reached row i t' → Reached row j t''
reached-on row i j t' t'' p x = record { start = x.start; few = x.few; passing = p x.start x.passing }

pub reached-below : (row : Row) (i : ℕ) (t' : CleanRows) → i ≤ length row → Reached row i t' → Below (count_bound + i) t'.stats
reached-below row i t' h x = before-below true row x.start.stats t'.stats i x.passing.stats count_bound h x.few

-- whether the row's cell in column c leaves a head of t unpaired
abbrev unpaired : Row → CleanRows → ℕ → Bool
unpaired row t c = unpairs (hold_at (byte_at c row)) (get_or t.depths c 0)

-- ---- A cell more
module _ (row : Row) (i : ℕ) (h : i < length row) (w : length row ≤ 10) (t t' : CleanRows) (x : Passing row i t t') where
  depth-there : get_or t'.depths i 0 ≡ get_or t.depths i 0
  depth-there = x.left i (omega arith)

  byte-there : get_or row i 0 ≡ byte_at i row
  byte-there = any-default row i 0 48 h

  -- it leaves a head unpaired
  pub passing-none : unpairs (hold_at (get_or row i 0)) (get_or t'.depths i 0) ≡ true → row_unpairs row t.depths ≡ true
  unfolding row_unpairs
  passing-none u = go (some_column 10 (unpaired row t)) refl
    where
      go : (b : Bool) → some_column 10 (unpaired row t) ≡ b → b ≡ true
      go true e = refl
      go false e = absurd (true≢false (sym u ∙ rw (depth-there, byte-there) (column-each 10 (unpaired row t) e i (omega arith))))

  module _ (t'' : CleanRows) (u : unpairs (hold_at (get_or row i 0)) (get_or t'.depths i 0) ≡ false) (p : CellPassed (length row) i (hold_at (get_or row i 0)) (cell_of (get_or row i 0)) t' t'') where
    next-done : (c : ℕ) → c < i + 1 → get_or t''.depths c 0 ≡ phantom_step (hold_at (byte_at c row)) (get_or t.depths c 0)
    next-done c m =
        ap (λ l. get_or l c 0) p.depths
        ∙ elim (dec_lt c i) [
          | yes b ↦ get_or-set_other t'.depths i c _ 0 (λ q. omega arith) ∙ x.done c b
          | no b ↦
              let q : c ≡ i = omega arith in
              rw q (get_or-set_same t'.depths i _ 0 (omega (arith, x.ready.ten)) ∙ rw (depth-there, byte-there))
        ]

    pub passing-next : Passing row (i + 1) t t''
    passing-next =
        record {
          stats = before-next true row t.stats t'.stats i x.stats t''.stats p.stats;
          done = next-done;
          left = λ c m. ap (λ l. get_or l c 0) p.depths ∙ get_or-set_other t'.depths i c _ 0 (λ q. omega arith) ∙ x.left c (omega arith);
          whole = rw (add-one, x.whole) (rw (depth-there, byte-there) at u);
          ready = p.ready;
        }

-- ---- What is answered
pub none-then : (r : Option Unit) (u : Bool) → is_some r ≡ not u → r ≡ None → u ≡ true
none-then None true e n = refl
none-then None false e n = absurd (true≢false (sym e))
none-then (Some x) u e n = cc

pub some-then : {P Q : Type 0} (r : Option Unit) (u : Bool) → is_some r ≡ not u → (u ≡ false → P → Q) → OnSome r P → OnSome r Q
some-then None u e f p = p
some-then (Some x) true e f p = absurd (true≢false e)
some-then (Some x) false e f p = f refl p

-- ---- The whole row
-- Since there were so many arrows, and so many mines and fakes, the tally has those of the row more, and few they are.
pub record Grew (row : Row) (arrows others : ℕ) (t' : CleanRows) : Type 0 where
  pub arrows_then : t'.stats.total_arrows ≡ arrows + (sum_before true row (length row)).arrows
  pub others_then : t'.stats.mines + t'.stats.fakes ≡ others + ((sum_before true row (length row)).mines + (sum_before true row (length row)).fakes)
  pub arrows_few : (sum_before true row (length row)).arrows ≤ 10
  pub others_few : (sum_before true row (length row)).mines + (sum_before true row (length row)).fakes ≤ 20

module _ (row : Row) (t t' : CleanRows) (x : Passing row (length row) t t') (w : length row ≤ 10) where
  past : (c : ℕ) → length row ≤ c → hold_at (byte_at c row) ≡ Nothing
  past c m = past_end row c m

  pub passing-clean : row_unpairs row t.depths ≡ false
  unfolding row_unpairs
  passing-clean =
      let e : length row + (10 - length row) ≡ 10 = omega arith in
      let none = column-past (length row) (10 - length row) (unpaired row t) (λ c m. ap (λ e. unpairs e (get_or t.depths c 0)) (past c m)) in
      sym (ap (λ n. some_column n (unpaired row t)) e) ∙ none ∙ x.whole

  passing-depths : DepthsPassed row t.depths t'.depths
  passing-depths c m =
      elim (dec_lt c (length row)) [
        | yes b ↦ x.done c b
        | no b ↦ x.left c (omega arith) ∙ ap (λ e. phantom_step e (get_or t.depths c 0)) (sym (past c (omega arith)))
      ]

  abbrev sum : RowSum
  sum = sum_before true row (length row)

  whole-sum : sum ≡ judged_sum true row
  unfolding judged_sum
  whole-sum = before-whole true row (length row) refl

  pub grew : (arrows others held : ℕ) → Before arrows others held t → Grew row arrows others t'
  grew arrows others held b =
      let u = before-under true row (length row) (omega arith) in
      record {
        arrows_then = omega (arith, b.arrows_then, cells-arrows t.stats t'.stats sum x.stats);
        others_then = omega (arith, b.others_then, cells-mines t.stats t'.stats sum x.stats, cells-fakes t.stats t'.stats sum x.stats);
        arrows_few = omega (arith, u);
        others_few = omega (arith, u);
      }

  pub ends-few : Below count_bound t.stats → EndsBelow count_bound t'.stats
  ends-few b = rw x.stats (cells-ends count_bound t.stats sum b)

  -- and the tally after the row's end
  pub row-passed : (t'' : CleanRows) → t''.depths ≡ t'.depths → t''.active ≡ t'.active → t''.busy ≡ t'.busy → (arrows others : ℕ) → arrows ≡ sum.arrows → others ≡ sum.mines + sum.fakes
      → t''.stats ≡ judged_row_end t'.stats true arrows others t.active → RowPassed row t t''
  row-passed t'' d a b arrows others ea eo h =
      record {
        depths = λ c m. ap (λ l. get_or l c 0) d ∙ passing-depths c m;
        stats = judged-row-ended t.stats t'.stats t''.stats sum x.stats arrows ea true others t.active eo h ∙ ap (judge_row t.stats true t.active) whole-sum;
        ready =
            record {
              ten = rw d x.ready.ten;
              low = λ c m. rw d (x.ready.low c m);
              active = rw (a, d) x.ready.active;
              busy = rw (b, d) x.ready.busy;
            };
      }

-- ---- The row's end
module _ (row : Row) (i arrows others held : ℕ) (t' : CleanRows) where
  pub begun-on : (j : ℕ) (t'' : CleanRows) → PassingOn row i j t' t'' → Begun row i arrows others held t' → Begun row j arrows others held t''
  begun-on j t'' p b = record { reached = record { start = b.reached.start; few = b.reached.few; passing = p b.reached.start b.reached.passing }; ready = b.ready; before = b.before }

  -- the row is as long as those that have passed
  pub ended-at : (n : ℕ) (t'' : CleanRows) → length row ≡ n → length row ≤ 10 → PassingOn row i n t' t'' → Begun row i arrows others held t' → Ended arrows others held t''
  ended-at n t'' e w p b = record { row = row; narrow = w; begun = rw e (begun-on n t'' p b) }

  pub ends-at : (n : ℕ) (t'' t3 : CleanRows) → length row ≡ n → PassingOn row i n t' t'' → EndsOn row (length row) arrows others held t'' t3
      → EndsOn row i arrows others held t' t3
  ends-at n t'' t3 l p e = λ t r b x. e t r b (rw l (p t x))

  pub then-ends : (j : ℕ) (t'' t3 : CleanRows) (r : Option Unit) → PassingOn row i j t' t'' → OnSome r (EndsOn row j arrows others held t'' t3)
      → OnSome r (EndsOn row i arrows others held t' t3)
  then-ends j t'' t3 None p e = e
  then-ends j t'' t3 (Some y) p e = λ t r b x. e t r b (p t x)

pub ended-grew : {arrows others held : ℕ} {t' : CleanRows} (e : Ended arrows others held t') → Grew e.row arrows others t'
ended-grew {arrows} {others} {held} {t'} e = grew e.row e.begun.reached.start t' e.begun.reached.passing e.narrow arrows others held e.begun.before

-- what is answered of a whole row
pub row-told : (r : Option Unit) (u : Bool) → (r ≡ None → u ≡ true) → OnSome r (u ≡ false) → is_some r ≡ not u
row-told None u n s = sym (ap not (n refl))
row-told (Some x) u n s = sym (ap not s)

-- before the row
pub before-row : (t : CleanRows) (others : ℕ) → others ≡ t.stats.mines + t.stats.fakes → Before t.stats.total_arrows others t.active t
before-row t others e = record { arrows_then = refl; others_then = e; held_then = refl }

module _ (row : Row) (arrows others held : ℕ) (t : CleanRows) (b : Before arrows others held t) (ready : Ready t) where
  pub begun-start : Below count_bound t.stats → Begun row 0 arrows others held t
  begun-start f = record { reached = record { start = t; few = f; passing = passing-start row t ready }; ready = ready; before = b }

  module _ (t' : CleanRows) where
    pub ended-whole : (r : Option Unit) → OnSome r (EndsOn row 0 arrows others held t t') → OnSome r (row_unpairs row t.depths ≡ false)
    ended-whole None e = e
    ended-whole (Some x) e = (e t ready b (passing-start row t ready)).whole

    pub ended-passed : (r : Option Unit) → OnSome r (EndsOn row 0 arrows others held t t') → OnSome r (RowPassed row t t')
    ended-passed None e = e
    ended-passed (Some x) e = (e t ready b (passing-start row t ready)).passed
