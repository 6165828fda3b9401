-- Within a row: a cell more, by what it does to the open heads of its column.
use mathlib.Core.Path.{◌≡◌, refl, sym, ap, ap₂, ◌∙◌}
use mathlib.Core.Bool.{Bool, true, false, cond, ◌||◌}
use mathlib.Core.List.{List, [], ◌∷◌, ◌++◌}
use Prim.Native.Nat.{ℕ, zero, suc, ◌+◌, ◌*◌, ◌%◌, ◌≤◌, ◌<◌}
use native.Mathlib.Nat.{add-zero}
use native.Mathlib.Numerals.{add-one}
use native.Mathlib.Omega.{arith}
use lib.Dec.{eqb}
use lib.ListN.{length, get_or, set, length-append}
use lib.Seq.{get_or-set_same, get_or-set_other}
use Rattle.std.specs.Prelude.{Option, Some}
use Rattle.std.proofs.lemmas.List.{set-get_or, get_or_append_left}
use Rattle.definitions.specs.Sizes.{count_bound}
use Rattle.definitions.specs.Lines.{Row}
use Rattle.definitions.specs.Cells.{cell_of, byte_at, hold_effect}
use Rattle.definitions.specs.Tracker.{Pair, paired, hold_at, pairs}
use Rattle.definitions.specs.Tally.{direction, empty_sum}
use Rattle.definitions.specs.Correction.{is_opening, head_if_paired}
use Rattle.definitions.specs.declared.Cell.{Cell}
use Rattle.definitions.specs.declared.Cell.TheVariants.{Empty, Tail}
use Rattle.definitions.specs.declared.DepthEffect.{DepthEffect}
use Rattle.definitions.specs.declared.DepthEffect.TheVariants.{Opens, Closes}
use Rattle.definitions.proofs.Lists.{All, one, any-default}
use Rattle.holds.specs.Stacks.{stack_of, TrackReady, TrackStepped, ended_at}
use Rattle.holds.specs.Tracks.{stack_after, ends_at}
use Rattle.holds.specs.declared.Tracker.{Tracker}
use Rattle.holds.proofs.Stacks.{stack-length}
use Rattle.row_tally.specs.Bounds.{Below}
use Rattle.row_tally.specs.Raised.{with_cells}
use Rattle.row_tally.proofs.Bounds.{below_more}
use Rattle.row_tally.proofs.Kept.{kept_cell}
use Rattle.row_tally.proofs.Raised.{cells-none}
use Rattle.holds.proofs.Opens.{ends-few}
use Rattle.paired_tally.specs.declared.PairedTally.{PairedTally}
use Rattle.paired_tally.specs.Entry.{entry_of}
use Rattle.paired_tally.specs.Paired.{sum_at, head_number, numbers_after, PairedRows}
use Rattle.paired_tally.specs.Cells.{begun, Within, GoneOn, add_kind, own_entry, head_cell, head_counts, pair_stats, pair_work}
use Rattle.paired_tally.proofs.Numbers.{half, numbers-halves, numbers-few, numbers-told, Told}
use Rattle.paired_tally.proofs.Sums.{kind-empty}
use Rattle.paired_tally.proofs.Columns.{ZeroAt, numbers-before, pair-is, head-earlier}
use Rattle.paired_tally.proofs.Bounds.{row-under, entries_low, paired-below}
use Rattle.paired_tally.proofs.Entries.{own-gains, counts-told, pair-adds, head-gains, tail-gains, paired-head, paired-tail, paired-others}
use Rattle.paired_tally.proofs.Heads.{effect-of, number-told, pairs-none, Popped, popped}
use Rattle.paired_tally.proofs.Step.{own, closed}

-- ---- The row so far
pub begun-long : (cells : Row) (k : ℕ) → length (begun cells k) ≡ length cells
begun-long [] k = refl
begun-long (b ∷ cells) zero = ap suc (begun-long cells zero)
begun-long (b ∷ cells) (suc k) = ap suc (begun-long cells k)

begun-zero : (cells : Row) (k : ℕ) → k < length cells → get_or (begun cells k) k 0 ≡ 48
begun-zero [] k h = absurd (omega arith)
begun-zero (b ∷ cells) zero h = refl
begun-zero (b ∷ cells) (suc k) h = begun-zero cells k (omega arith)

begun-set : (cells : Row) (k : ℕ) → k < length cells → set (begun cells k) k (get_or cells k 0) ≡ begun cells (suc k)
begun-set [] k h = absurd (omega arith)
begun-set (b ∷ cells) zero h = refl
begun-set (b ∷ cells) (suc k) h = ap (λ (r : Row). b ∷ r) (begun-set cells k (omega arith))

begun-next : (cells : Row) (k : ℕ) → k < length cells → set (begun cells k) k (get_or cells k 0) ≡ begun cells (k + 1)
begun-next cells k h = begun-set cells k h ∙ ap (begun cells) (sym (add-one k))

pub begun-end : (cells : Row) (k : ℕ) → length cells ≤ k → begun cells k ≡ cells
begun-end [] k h = refl
begun-end (b ∷ cells) zero h = absurd (omega arith)
begun-end (b ∷ cells) (suc k) h = ap (λ (r : Row). b ∷ r) (begun-end cells k (omega arith))

-- ---- A cell and its byte
own-empty : (plain judged : Bool) (entry : ℕ) → own_entry plain judged Empty entry ≡ entry
own-empty true judged entry = simp add-zero
own-empty false true entry = simp add-zero
own-empty false false entry = refl

-- a cell that is no head is kept as it is
plain-cell : (b : ℕ) (x : Cell) → x ≡ cell_of b → is_opening (hold_effect x) ≡ false → cell_of (head_if_paired (hold_at b) false b) ≡ x
plain-cell b x e o = kept_cell false b x (sym e) ∙ ap (λ t. cond t Empty x) o

stepped : (b : ℕ) {x : Cell} {e : DepthEffect} {row c : ℕ} {t t' : Tracker} {ps : List Pair} → x ≡ cell_of b → hold_effect x ≡ e → TrackStepped e row c t t' ps → TrackStepped (hold_at b) row c t t' ps
stepped b e f s = rw (effect-of b e, f) s

pub ended-is : {e : DepthEffect} {row c : ℕ} {t t' : Tracker} {r r' : Option ℕ} → r ≡ r' → TrackStepped e row c t t' (ended_at row r) → TrackStepped e row c t t' (ended_at row r')
ended-is q s = rw (← q) s

-- ---- Within a row
module _ {plain judged : Bool} {row : ℕ} {cells : Row} {k : ℕ} {t : PairedTally} {work : List ℕ} (w : Within plain judged row cells k t work) where
  pub within-few : Below (count_bound + 9) t.stats
  within-few =
      below_more (10 * length (w.rows ++ (begun cells k ∷ []))) (count_bound + 9) _
      (let e = length-append w.rows (begun cells k ∷ []) in omega (arith, e, w.size, w.few))
      (paired-below w.paired w.narrow)

  pub within-low : (i : ℕ) → get_or work i 0 ≤ 15018
  within-low = entries_low w.paired w.narrow

  pub within-on : {k' : ℕ} {t' : PairedTally} {work' : List ℕ} → GoneOn plain judged row cells k t work k' t' work' → length work' ≡ length work → Within plain judged row cells k' t' work'
  within-on g e =
      record {
        judging = w.judging;
        rows = w.rows;
        size = w.size;
        here = w.here;
        paired = g w.judging w.rows w.size w.here w.paired;
        narrow = w.narrow;
        room = omega (arith, w.room);
        few = w.few;
      }

  -- some columns, and then others
  pub gone-on : (k' : ℕ) {k'' j : ℕ} {t' t'' : PairedTally} {work' work'' : List ℕ} → GoneOn plain judged row cells k t work k' t' work'
      → GoneOn plain judged row cells k' t' work' k'' t'' work'' → k'' ≡ j → GoneOn plain judged row cells k t work j t'' work''
  gone-on k' p q e J rows size here s = rw (← e) (q J rows size here (p J rows size here s))

  module _ (inside : k < length cells) where
    abbrev b : ℕ
    b = get_or cells k 0

    abbrev d : ℕ
    d = direction (length cells) k

    zero-here : ZeroAt (begun cells k) k
    zero-here = record { inside = rw begun-long inside; zero_there = begun-zero cells k inside }

    pub within-ready : TrackReady k t.tracker
    within-ready =
        record {
          inside = omega (arith, w.narrow);
          sized = w.paired.sized;
          low =
              λ c l.
              let a = stack-length t.tracker c in
              let b = ap length (w.paired.stacks c l) in
              omega (arith, numbers-few (w.rows ++ (begun cells k ∷ [])) c);
        }

    -- ---- A cell that pairs with none
    own-on : {t' : PairedTally} {work' : List ℕ} (x : Cell) → TrackStepped (hold_at b) (head_number row b) k t.tracker t'.tracker []
        → cell_of (head_if_paired (hold_at b) false b) ≡ x → is_opening (hold_effect x) ≡ false
        → t'.stats ≡ with_cells t.stats (add_kind plain judged empty_sum d x) → work' ≡ set work row (own_entry plain judged x (get_or work row 0))
        → GoneOn plain judged row cells k t work (k + 1) t' work'
    own-on {t'} {work'} x m cell no-head counted entry J rows size here s =
        let r = begun cells k in
        let R = rows ++ (r ∷ []) in
        let n = length rows in
        let long = length-append rows (r ∷ []) in
        let last : n < length R = omega arith in
        let now = own_entry plain judged x (get_or work row 0) in
        let no-pair : paired (hold_at b) n (stack_after rows k) ≡ [] =
        rw (← numbers-halves rows k, ← numbers-before rows b zero-here, ← s.stacks k (omega (arith, w.narrow)))
        (pairs-none (hold_at b) (head_number row b) n (stack_of t.tracker k) m.pairs) in
        let is-judged : judged ≡ J n = sym (rw size here) in
        rw begun-next at
        (own rows b zero-here t' work' s [] (rw size m) no-pair x cell (rw (← is-judged) counted)
        (ap₂ (λ l i. get_or l i 0) entry size ∙ get_or-set_same work row now 0 w.room
        ∙ ap (own_entry plain judged x) (ap (λ i. get_or work i 0) (sym size) ∙ s.entries n last)
        ∙ rw is-judged (own-gains plain (J n) x (sum_at plain J (pairs R) R n) (ends_at J R n) d no-head (row-under s w.narrow n last) (ends-few J R n)))
        (λ i ne. ap (λ l. get_or l i 0) entry ∙ get_or-set_other work row i now 0 (λ e. ne (e ∙ sym size))))

    -- a head, which is only pushed
    pub open-on : {t' : PairedTally} {work' : List ℕ} → hold_at b ≡ Opens → TrackStepped Opens (head_number row b) k t.tracker t'.tracker [] → t'.stats ≡ t.stats → work' ≡ work
        → GoneOn plain judged row cells k t work (k + 1) t' work'
    unfolding hold_at
    open-on opens m e f =
        own-on Empty (rw opens m)
        (kept_cell false b (cell_of b) refl ∙ ap (λ o. cond (is_opening o) Empty (cell_of b)) opens)
        refl
        (e ∙ sym (cells-none t.stats) ∙ ap (with_cells t.stats) (sym (kind-empty plain judged empty_sum d)))
        (f ∙ sym (ap (set work row) (own-empty plain judged (get_or work row 0)) ∙ set-get_or work row 0))

    -- a cell of this kind, which is no head
    pub cell-on : {t' : PairedTally} {work' : List ℕ} {e : DepthEffect} (x : Cell) → x ≡ cell_of b → hold_effect x ≡ e → is_opening e ≡ false
        → TrackStepped e (head_number row b) k t.tracker t'.tracker []
        → t'.stats ≡ with_cells t.stats (add_kind plain judged empty_sum d x) → work' ≡ set work row (own_entry plain judged x (get_or work row 0))
        → GoneOn plain judged row cells k t work (k + 1) t' work'
    cell-on x known e o m = own-on x (stepped b known e m) (plain-cell b x known (rw e o)) (rw e o)

    -- ---- A tail that pairs with the head of number v
    module _ {u : Tracker} (v : ℕ) (tail : cell_of b ≡ Tail) (m : TrackStepped Closes (head_number row b) k t.tracker u (ended_at (head_number row b) (Some v))) where
      closes : hold_at b ≡ Closes
      closes = effect-of b (sym tail)

      taken : Popped v (stack_of t.tracker k)
      taken = popped v (head_number row b) (stack_of t.tracker k) m.pairs

      abbrev h : ℕ
      h = half v

      module _ (J : ℕ → Bool) (rows : List Row) (s : PairedRows plain J (length cells) (rows ++ (begun cells k ∷ [])) t work) where
        abbrev R : List Row
        R = rows ++ (begun cells k ∷ [])

        abbrev n : ℕ
        n = length rows

        open-now : numbers_after rows k ≡ v ∷ taken.rest
        open-now = sym (numbers-before rows b zero-here) ∙ sym (s.stacks k (omega (arith, w.narrow))) ∙ taken.shown

        earlier : h < n
        earlier = head-earlier rows k b closes open-now

        headed : Row
        headed = get_or rows h []

        told : Told k (λ i. get_or rows i []) v
        told = go (rw open-now at (numbers-told rows k))
          where
            go : All (Told k (λ i. get_or rows i [])) (v ∷ taken.rest) → Told k (λ i. get_or rows i []) v
            go (one l a) = l

        long : length R ≡ n + 1
        long = length-append rows (begun cells k ∷ [])

        wide-head : length headed ≡ length cells
        unfolding headed
        wide-head = ap length (sym (get_or_append_left rows (begun cells k ∷ []) [] h earlier)) ∙ s.wide h (omega (arith, long, earlier))

        byte-told : byte_at k headed ≡ get_or headed k 0
        byte-told = any-default headed k 48 0 (omega (arith, wide-head))

        opens : hold_at (get_or headed k 0) ≡ Opens
        unfolding headed
        opens = ap hold_at (sym byte-told) ∙ told.opens

        head-is : cell_of (get_or headed k 0) ≡ head_cell v
        unfolding headed
        head-is = number-told v h (get_or headed k 0) (told.number ∙ ap (head_number h) byte-told) opens

        abbrev entry-at : ℕ → ℕ
        entry-at i = entry_of plain (J i) (sum_at plain J (pairs R) R i) (ends_at J R i)

        entry-is : (i : ℕ) → i ≤ n → get_or work i 0 ≡ entry-at i
        entry-is i l = s.entries i (omega (arith, long))

        -- its head counts where the head's row does
        counts : head_counts plain (get_or work h 0) ≡ (plain || J h)
        counts = rw (entry-is h (omega (arith, earlier))) (counts-told plain (J h) (sum_at plain J (pairs R) R h) (ends_at J R h) (ends-few J R h))

      -- the head of a pair is before the row
      pub head-before : h < row
      head-before = rw (← w.size) (earlier w.judging w.rows w.paired)

      pub close-on : {t' : PairedTally} {work' : List ℕ} → t'.tracker ≡ u → t'.stats ≡ pair_stats (head_counts plain (get_or work h 0)) v d t.stats
          → work' ≡ pair_work (head_counts plain (get_or work h 0)) h row work → GoneOn plain judged row cells k t work (k + 1) t' work'
      unfolding headed
      close-on {t'} {work'} tracked counted entry J rows size here s =
          let l = earlier J rows s in
          let R' = R J rows s in
          let n' = length rows in
          let on = plain || J h in
          let sum = λ (i : ℕ). sum_at plain J (pairs R') R' i in
          let work-is : work' ≡ pair_work on h n' work = rw (size, ← counts J rows s) entry in
          let room : n' < length work = omega (arith, w.room) in
          rw begun-next at
          (closed rows b zero-here t' work' s (ended_at (head_number row b) (Some v))
          (rw (size, tracked, closes) m)
          (pair-is rows k b closes (open-now J rows s)) l (omega (arith, w.narrow)) tail (opens J rows s) (head_cell v) (head-is J rows s)
          (rw (counts J rows s) at counted ∙ ap (with_cells t.stats) (pair-adds plain (J h) empty_sum d (eqb (v % 2) 1)))
          (ap (λ l. get_or l h 0) work-is ∙ paired-head h n' work l room on
          ∙ ap (λ x. cond on (x + 17) x) (entry-is J rows s h (omega arith)) ∙ head-gains plain (J h) (sum h) (ends_at J R' h) d (eqb (v % 2) 1))
          (ap (λ l. get_or l n' 0) work-is ∙ paired-tail h n' work l room on
          ∙ ap (λ x. cond on (x + 256) x) (entry-is J rows s n' (omega arith)) ∙ tail-gains plain (J h) (J n') (sum n') (ends_at J R' n') d)
          (λ i ne nh. ap (λ l. get_or l i 0) work-is ∙ paired-others h n' work l room on i ne nh))
