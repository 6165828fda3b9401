-- The loops over the entries of rows: the first rows are counted with their ends, and of the others the cells alone.
use mathlib.Core.Path.{◌≡◌, refl, ap, sym, subst, ◌∙◌}
use mathlib.Core.Bool.{Bool, true, false, cond}
use mathlib.Core.List.{List, [], ◌∷◌}
use Prim.Native.Nat.{ℕ, suc, ◌+◌, ◌*◌, ◌≤◌, ◌<◌}
use native.Mathlib.Nat.{le_trans, mul-le-mul_right}
use native.Mathlib.Numerals.{add-one}
use native.Mathlib.Omega.{arith}
use lib.Dec.{leb}
use lib.ListN.{length, get_or, drop, drop_of_length-le}
use lib.Seq.{drop-cons}
use Rattle.definitions.specs.Lists.{number_of_bool}
use Rattle.definitions.specs.Lines.{Row}
use Rattle.definitions.specs.Tracker.{pairs}
use Rattle.definitions.specs.Tally.{empty_stats, row_sum_by, tally_with_row, tally_from, tally}
use Rattle.definitions.specs.Correction.{keep_row, keep_from, paired_only}
use Rattle.definitions.specs.Judged.{judged_sum, judge_row, open_before, judge_from, judged_rows}
use Rattle.definitions.specs.declared.RowSum.{RowSum}
use Rattle.definitions.specs.declared.ArrowStats.{ArrowStats}
use Rattle.definitions.proofs.Lists.{All, none, one, one-le}
use Rattle.holds.specs.Tracks.{ends_at, paired_heads}
use Rattle.holds.proofs.Heads.{counted-heads}
use Rattle.holds.proofs.Opens.{opens, opens-start, opens-most, ends-few}
use Rattle.row_tally.specs.Bounds.{Under, EndsBelow}
use Rattle.row_tally.specs.Ends.{cells_from}
use Rattle.row_tally.specs.Raised.{row_end, judged_row_end}
use Rattle.row_tally.proofs.Ends.{plain_sum, judged_sum_at, plain-next, judged-next, others-told, cells-from-ends, ends-plain, ends-judged}
use Rattle.paired_tally.specs.Entry.{entry_of, arrows_of, heads_of, ends_of, others_of}
use Rattle.paired_tally.specs.Paired.{PairedRows}
use Rattle.paired_tally.specs.declared.PairedTally.{PairedTally}
use Rattle.paired_tally.proofs.Bounds.{row-under}

-- ---- An entry by its parts
record Parts (entry arrows heads ends : ℕ) : Type 0 where
  arrows_are : arrows_of entry ≡ arrows
  heads_are : heads_of entry ≡ heads
  ends_are : ends_of entry ≡ ends

plain-parts : (judged : Bool) (s : RowSum) (ends : ℕ) → Under 10 s → Parts (entry_of true judged s ends) s.arrows (s.holds + s.rolls) s.tails
plain-parts judged s ends u =
    record {
      arrows_are = omega (arith, u.counts, u.heads);
      heads_are = omega (arith, u.counts, u.heads);
      ends_are = omega (arith, u.counts, u.heads);
    }

-- and of a judged tally
record JudgedParts (judged : Bool) (s : RowSum) (entry ends : ℕ) : Type 0 where
  ends_are : ends_of entry ≡ ends
  heads_are : heads_of entry ≡ s.holds + s.rolls
  few : arrows_of entry ≤ 10
  end_is : (t : ArrowStats) (held : ℕ) → judged_row_end t true (arrows_of entry) (others_of entry) held ≡ judged_row_end t judged s.arrows (s.mines + s.fakes) held

told-once : (n : ℕ) → leb 1 (number_of_bool (leb 1 n)) ≡ leb 1 n
told-once n = go (leb 1 n)
  where
    go : (b : Bool) → leb 1 (number_of_bool b) ≡ b
    go true = refl
    go false = refl

judged-parts : (judged : Bool) (r : Row) (ends : ℕ) → Under 10 (judged_sum judged r) → ends ≤ 10
    → JudgedParts judged (judged_sum judged r) (entry_of false judged (judged_sum judged r) ends) ends
unfolding judged_sum
judged-parts true r ends u h =
    let s : RowSum = judged_sum true r in
    let o = one-le (leb 1 (s.mines + s.fakes)) in
    let a : arrows_of (entry_of false true s ends) ≡ s.arrows = omega (arith, u.counts, u.heads) in
    let b : others_of (entry_of false true s ends) ≡ number_of_bool (leb 1 (s.mines + s.fakes)) = omega (arith, u.counts, u.heads) in
    record {
      ends_are = omega (arith, u.counts, u.heads);
      heads_are = omega (arith, u.counts, u.heads);
      few = omega (arith, u.counts);
      end_is = λ t held. rw (a, b) (others-told t true s.arrows _ _ held (told-once (s.mines + s.fakes)));
    }
judged-parts false r ends u h =
    let a : arrows_of (256 * ends) ≡ 0 = omega arith in
    let b : others_of (256 * ends) ≡ 0 = omega arith in
    record {
      ends_are = omega arith;
      heads_are = omega arith;
      few = omega arith;
      end_is = λ t held. rw (a, b);
    }

-- ---- A loop over the entries of rows: of the first i rows the ends are told too, of the others the cells alone. What all rows come to is what `rest` makes
-- of those from one on.
pub record Ending (sum : ℕ → Row → RowSum) (rest : ArrowStats → ℕ → List Row → ArrowStats) (rows : List Row) (i : ℕ) (stats : ArrowStats) : Type 0 where
  pub within : i ≤ length rows
  pub told : ArrowStats
  pub counted : stats ≡ cells_from sum told i (drop i rows)
  pub whole : rest told i (drop i rows) ≡ rest empty_stats 0 rows
  pub low : EndsBelow (10 * i) stats

module _ {sum : ℕ → Row → RowSum} {rest : ArrowStats → ℕ → List Row → ArrowStats} {rows : List Row} where
  no-ends : {stats : ArrowStats} → stats ≡ cells_from sum empty_stats 0 rows → Ending sum rest rows 0 stats
  no-ends e =
      record {
        within = omega arith;
        told = empty_stats;
        counted = e;
        whole = refl;
        low = rw e (cells-from-ends sum 0 empty_stats 0 rows (omega arith));
      }

  one-end : {i : ℕ} {stats stats' : ArrowStats} → i < length rows → (e : Ending sum rest rows i stats) (told' : ArrowStats)
      → ((rs : List Row) → stats ≡ cells_from sum e.told i (get_or rows i [] ∷ rs) → stats' ≡ cells_from sum told' (suc i) rs)
      → ((rs : List Row) → rest e.told i (get_or rows i [] ∷ rs) ≡ rest told' (suc i) rs)
      → EndsBelow (10 * i + 10) stats' → Ending sum rest rows (suc i) stats'
  one-end {i} {stats} {stats'} h e told' counted whole low =
      let here = drop-cons rows i [] h in
      record {
        within = omega arith;
        told = told';
        counted = counted (drop (suc i) rows) (e.counted ∙ ap (cells_from sum e.told i) here);
        whole = sym (whole (drop (suc i) rows)) ∙ ap (rest e.told i) (sym here) ∙ e.whole;
        low = subst (λ k. EndsBelow k stats') (omega arith) low;
      }

  all-ends : {i : ℕ} {stats : ArrowStats} → length rows ≤ i → ((t : ArrowStats) → rest t i [] ≡ t) → Ending sum rest rows i stats → stats ≡ rest empty_stats 0 rows
  all-ends {i} h whole e =
      let over : drop i rows ≡ [] = drop_of_length-le rows h in
      e.counted ∙ rw over (sym (whole e.told) ∙ (rw over at e.whole))

-- ---- The loop over the entries of plain rows
abbrev pub PlainEnding : List Row → ℕ → ArrowStats → Type 0
PlainEnding rows i stats = Ending (plain_sum (pairs rows)) (λ t k rs. tally_from t (keep_from (pairs rows) k rs)) rows i stats

module _ {J : ℕ → Bool} {L : ℕ} {rows : List Row} {t : PairedTally} {work : List ℕ} (x : PairedRows true J L rows t work) where
  pub ending-start : PlainEnding rows 0 t.stats
  ending-start = no-ends x.stats

  module _ (i : ℕ) (h : i < length rows) (m : L ≤ 10) where
    abbrev r : Row
    r = get_or rows i []

    abbrev s : RowSum
    s = plain_sum (pairs rows) i r

    abbrev word : ℕ
    word = get_or work i 0

    under : Under 10 s
    under = row-under x m i h

    entry_parts : Parts word s.arrows (s.holds + s.rolls) s.tails
    entry_parts = rw (x.entries i h) (plain-parts (J i) s (ends_at J rows i) under)

    -- a row's entry has few arrows and heads
    pub entry-few : (arrows_of word ≤ 10) × (heads_of word ≤ 10)
    entry-few = (omega (arith, entry_parts.arrows_are, under.counts), omega (arith, entry_parts.heads_are, under.heads))

    pub ending-next : {stats stats' : ArrowStats} → PlainEnding rows i stats → stats' ≡ row_end stats (arrows_of word) (heads_of word) (ends_of word) → PlainEnding rows (i + 1) stats'
    ending-next {stats} {stats'} e f =
        rw add-one
        (one-end h e (tally_with_row e.told s)
        (λ rs q. f ∙ ap (λ u. row_end u (arrows_of word) (heads_of word) (ends_of word)) q
        ∙ plain-next (pairs rows) e.told i r rs _ _ _ entry_parts.arrows_are entry_parts.heads_are entry_parts.ends_are)
        (λ rs. refl)
        (rw f (ends-plain (10 * i) stats e.low _ _ _ entry-few.1)))

pub ending-end : {rows : List Row} {i : ℕ} {stats : ArrowStats} → length rows ≤ i → PlainEnding rows i stats → stats ≡ tally (paired_only rows)
unfolding tally paired_only
ending-end h e = all-ends h (λ t. refl) e

-- ---- The loop over the entries of judged rows, where `active` holds are open before row i
pub record JudgedEnding (J : ℕ → Bool) (L : ℕ) (rows : List Row) (i active : ℕ) (stats : ArrowStats) : Type 0 where
  pub ending : Ending (judged_sum_at (pairs rows) J) (judge_from L J (pairs rows)) rows i stats
  pub held : active ≡ open_before L J (pairs rows) i

-- rows of one width
all-wide : (L : ℕ) (rows : List Row) → ((i : ℕ) → i < length rows → length (get_or rows i []) ≡ L) → All (λ (r : Row). length r ≤ L) rows
all-wide L [] h = none
all-wide L (r ∷ rows) h = one {a = r} (omega (arith, h 0 (omega arith))) (all-wide L rows (λ i l. h (suc i) (omega arith)))

module _ {J : ℕ → Bool} {L : ℕ} {rows : List Row} {t : PairedTally} {work : List ℕ} (x : PairedRows false J L rows t work) where
  pub judged-start : JudgedEnding J L rows 0 0 t.stats
  judged-start =
      record {
        ending = no-ends x.stats;
        held = sym (opens-start L J rows);
      }

  module _ (i : ℕ) (h : i < length rows) (m : L ≤ 10) where
    abbrev row : Row
    row = get_or rows i []

    abbrev sum : RowSum
    sum = judged_sum_at (pairs rows) J i row

    abbrev entry : ℕ
    entry = get_or work i 0

    parts : JudgedParts (J i) sum entry (ends_at J rows i)
    parts = rw (x.entries i h) (judged-parts (J i) (keep_row (pairs rows) i 0 row) (ends_at J rows i) (row-under x m i h) (ends-few J rows i))

    pub arrows-few : arrows_of entry ≤ 10
    arrows-few = parts.few

    -- the holds that it opens
    opened : (b : Bool) → (judged_sum b (keep_row (pairs rows) i 0 row)).holds + (judged_sum b (keep_row (pairs rows) i 0 row)).rolls ≡ cond b (paired_heads L (pairs rows) i) 0
    unfolding judged_sum row_sum_by
    opened true = counted-heads rows i row refl ∙ ap (λ n. paired_heads n (pairs rows) i) (x.wide i h)
    opened false = refl

    step : open_before L J (pairs rows) (suc i) + ends_of entry ≡ open_before L J (pairs rows) i + heads_of entry
    step = rw (parts.ends_are, parts.heads_are, opened (J i)) (opens L J rows i m (all-wide L rows x.wide))

    module _ {active : ℕ} {stats : ArrowStats} (e : JudgedEnding J L rows i active stats) where
      -- no more holds end than are open, and few are
      pub ends-open : ends_of entry ≤ active + heads_of entry
      ends-open = omega (arith, step, e.held)

      pub held-few : active ≤ 10 * i
      held-few = le_trans (rw e.held (opens-most L J rows m (all-wide L rows x.wide) i)) (mul-le-mul_right i m)

      pub judged-ending : {active' : ℕ} {stats' : ArrowStats} → stats' ≡ judged_row_end stats true (arrows_of entry) (others_of entry) active
          → active' + ends_of entry ≡ active + heads_of entry → JudgedEnding J L rows (i + 1) active' stats'
      judged-ending {active'} {stats'} f g =
          rw add-one
          (record {
            ending =
                one-end h e.ending (judge_row e.ending.told (J i) (open_before L J (pairs rows) i) sum)
                (λ rs q. f ∙ parts.end_is stats active
                ∙ ap (λ u. judged_row_end u (J i) sum.arrows (sum.mines + sum.fakes) active) q
                ∙ judged-next (pairs rows) J e.ending.told i row rs active
                ∙ ap (λ n. cells_from (judged_sum_at (pairs rows) J) (judge_row e.ending.told (J i) n sum) (suc i) rs) e.held)
                (λ rs. refl)
                (rw f (ends-judged (10 * i) stats e.ending.low true _ _ active));
            held = omega (arith, step, e.held);
          })

pub judged-end : {J : ℕ → Bool} {L : ℕ} {rows : List Row} {i active : ℕ} {stats : ArrowStats} → length rows ≤ i → JudgedEnding J L rows i active stats → stats ≡ judged_rows L J rows
unfolding judged_rows
judged-end h e = all-ends h (λ t. refl) e.ending
