-- A loop over a row's cells: the columns before i are counted, and those from i on are as they were.
use mathlib.Core.Path.{◌≡◌, refl, ap, sym, ◌∙◌}
use mathlib.Core.Bool.{Bool, ◌||◌, or_assoc, or-false}
use mathlib.Core.List.{List, [], ◌∷◌, ◌++◌}
use Prim.Native.Nat.{ℕ, suc, ◌+◌, ◌*◌, ◌-◌, ◌<◌, ◌≤◌}
use native.Mathlib.Decide.{dec_lt}
use native.Mathlib.Numerals.{add-one}
use native.Mathlib.Nat.{not-suc-le-zero}
use native.Mathlib.Omega.{arith}
use lib.ListN.{length, get_or, drop, length-set, length-append, drop_of_length-le}
use lib.Seq.{drop-cons}
use Rattle.definitions.proofs.Columns.{past_end}
use Rattle.definitions.proofs.Lists.{any-default, count-cons}
use Rattle.std.specs.List.{count_by}
use Rattle.definitions.specs.Lists.{number_of_bool, some_column}
use Rattle.definitions.specs.Lines.{Row}
use Rattle.definitions.specs.Cells.{byte_at, cell_of, hold_effect}
use Rattle.definitions.specs.declared.Cell.TheVariants.{Empty}
use Rattle.definitions.specs.declared.DepthEffect.TheVariants.{Nothing}
use Rattle.definitions.specs.Tracker.{hold_at}
use Rattle.definitions.specs.Correction.{phantom_step, meets_phantom, phantom_met, is_opening, is_closing}
use Rattle.phantoms.specs.Phantoms.{phantom_at, Low, Counts, with_effect}
use Rattle.phantoms.specs.declared.Phantoms.{Phantoms}
use Rattle.phantoms.proofs.Effects.{effect-here, effect-others, effect-low}
use Rattle.definitions.specs.declared.DepthEffect.{DepthEffect}
use Rattle.phantoms.proofs.Columns.{column-same, column-or, column-past}
use Rattle.phantoms.proofs.Rows.{after-snoc, met-snoc, heads-snoc, tails-snoc}

pub low-more : (j k : ℕ) (p : Phantoms) → j ≤ k → Low j p → Low k p
low-more j k p h l =
    record {
      depths = λ c m. omega (arith, l.depths c m);
      heads = omega (arith, l.heads);
      tails = omega (arith, l.tails);
    }

abbrev is_head : ℕ → Bool
is_head b = is_opening (hold_at b)

abbrev is_tail : ℕ → Bool
is_tail b = is_closing (hold_at b)

-- the depth after a row's cell in a column, and whether the cell meets a phantom depth there
abbrev after : Row → Phantoms → ℕ → ℕ
after row p c = phantom_step (hold_at (byte_at c row)) (phantom_at p c)

abbrev meets : Row → Phantoms → ℕ → Bool
meets row p c = meets_phantom (hold_at (byte_at c row)) (phantom_at p c)

-- With p before the row: what r holds when the loop is at column i.
pub record Passed (row : Row) (p r : Phantoms) (i : ℕ) : Type 0 where
  pub within : i ≤ length row
  pub size : length r.depths ≡ 10
  pub done : (c : ℕ) → c < i → phantom_at r c ≡ after row p c
  pub left : (c : ℕ) → i ≤ c → phantom_at r c ≡ phantom_at p c
  pub heads : r.heads + count_by is_head (drop i row) ≡ p.heads + count_by is_head row
  pub tails : r.tails + count_by is_tail (drop i row) ≡ p.tails + count_by is_tail row
  pub met : r.met ≡ (p.met || some_column i (meets row p))
  pub low : (k : ℕ) → Low k p → Low (k + i) r

pub passed_start : (row : Row) (p : Phantoms) → length p.depths ≡ 10 → Passed row p p 0
passed_start row p h =
    record {
      within = omega arith;
      size = h;
      done = λ c k. absurd (not-suc-le-zero k);
      left = λ c k. refl;
      heads = refl;
      tails = refl;
      met = sym (or-false p.met);
      low = λ k l. low-more k (k + 0) p (omega arith) l;
    }

-- one cell more of a count
count_next : (p : ℕ → Bool) (row : Row) (i n m k : ℕ) → i < length row → m ≡ number_of_bool (p (get_or row i 0)) → n + count_by p (drop i row) ≡ k
    → (n + m) + count_by p (drop (i + 1) row) ≡ k
count_next p row i n m k h e f =
    let d : count_by p (drop i row) ≡ number_of_bool (p (get_or row i 0)) + count_by p (drop (i + 1) row) = rw (add-one, drop-cons row i 0 h) (count-cons p (get_or row i 0) (drop (suc i) row)) in
    omega arith

-- no cell is left to count
count-end : (p : ℕ → Bool) (row : Row) (i n k : ℕ) → length row ≤ i → n + count_by p (drop i row) ≡ k → n ≡ k
count-end p row i n k h f = let d : count_by p (drop i row) ≡ 0 = rw (drop_of_length-le row h) in omega arith

module _ (row : Row) (p r : Phantoms) (i : ℕ) (s : Passed row p r i) (h : i < length row) (m : i < 10) where
  -- the cell, as the row has it, and what it does
  byte : get_or row i 0 ≡ byte_at i row
  byte = any-default row i 0 48 h

  abbrev effect : DepthEffect
  effect = hold_at (get_or row i 0)

  others : (c : ℕ) → (c ≡ i → ⊥) → phantom_at (with_effect r i effect) c ≡ phantom_at r c
  others c n = effect-others r i effect c n

  next_here : phantom_at (with_effect r i effect) i ≡ after row p i
  next_here = effect-here r i effect (omega (arith, s.size)) ∙ rw (byte, s.left i (omega arith))

  next-met : (with_effect r i effect).met ≡ (p.met || some_column (i + 1) (meets row p))
  unfolding with_effect
  next-met = rw (s.met, byte, s.left i (omega arith), add-one, or_assoc)

  next-heads : (with_effect r i effect).heads + count_by is_head (drop (i + 1) row) ≡ p.heads + count_by is_head row
  unfolding with_effect
  next-heads = count_next is_head row i r.heads (number_of_bool (is_opening effect)) _ h refl s.heads

  next-tails : (with_effect r i effect).tails + count_by is_tail (drop (i + 1) row) ≡ p.tails + count_by is_tail row
  unfolding with_effect
  next-tails = count_next is_tail row i r.tails (number_of_bool (is_closing effect)) _ h refl s.tails

  next-size : length (with_effect r i effect).depths ≡ 10
  unfolding with_effect
  next-size = length-set r.depths i (phantom_step effect (phantom_at r i)) ∙ s.size

  pub passed-next : Passed row p (with_effect r i effect) (i + 1)
  passed-next =
      record {
        within = omega arith;
        size = next-size;
        done =
            λ c k.
            elim (dec_lt c i) [
              | yes b ↦ others c (λ e. omega arith) ∙ s.done c b
              | no b ↦ let e : c ≡ i = omega arith in rw e next_here
            ];
        left = λ c k. others c (λ e. omega arith) ∙ s.left c (omega arith);
        heads = next-heads;
        tails = next-tails;
        met = next-met;
        low = λ k l. low-more (k + i + 1) (k + (i + 1)) _ (omega arith) (effect-low r i effect (k + i) (s.low k l));
      }

-- an empty cell does nothing
pub empty-hold : (b : ℕ) → cell_of b ≡ Empty → hold_at b ≡ Nothing
unfolding hold_at
empty-hold b e = ap hold_effect e

module _ (row : Row) (p r : Phantoms) (i : ℕ) (s : Passed row p r i) (h : length row ≤ i) where
  all_done : (c : ℕ) → phantom_at r c ≡ after row p c
  all_done c =
      elim (dec_lt c i) [
        | yes b ↦ s.done c b
        | no b ↦ s.left c (omega arith) ∙ rw (past_end row c (omega arith))
      ]

  -- the row's heads and tails are what theirs grew by
  pub passed-heads : r.heads ≡ p.heads + count_by is_head row
  passed-heads = count-end is_head row i r.heads _ h s.heads

  pub passed-tails : r.tails ≡ p.tails + count_by is_tail row
  passed-tails = count-end is_tail row i r.tails _ h s.tails

  module _ (L : ℕ) (rows : List Row) (wide : length row ≤ L) (narrow : L ≤ 10) (counts : Counts L rows p) where
    met-row : r.met ≡ (p.met || some_column L (meets row p))
    met-row =
        let e : i + (L - i) ≡ L = omega (arith, s.within) in
        let past = column-past i (L - i) (meets row p) (λ c k. rw (past_end row c (omega arith))) in
        s.met ∙ ap (λ t. p.met || t) (sym past ∙ ap (λ n. some_column n (meets row p)) e)

    met_all : r.met ≡ some_column L (λ c. phantom_met c 0 (rows ++ (row ∷ [])))
    met_all =
        met-row
        ∙ rw counts.met
        (sym (column-or L (λ c. phantom_met c 0 rows) (meets row p))
        ∙ column-same L _ _ (λ c k. rw (counts.depths c k) (sym (met-snoc c 0 rows row))))

    pub passed-end : Counts L (rows ++ (row ∷ [])) r
    passed-end =
        record {
          depths = λ c k. all_done c ∙ rw (counts.depths c k) (sym (after-snoc c 0 rows row));
          heads = passed-heads ∙ rw counts.heads (sym (heads-snoc rows row));
          tails = passed-tails ∙ rw counts.tails (sym (tails-snoc rows row));
          met = met_all;
          low =
              let n = length-append rows (row ∷ []) in
              low-more (10 * length rows + i) (10 * length (rows ++ (row ∷ []))) r (omega (arith, s.within, narrow))
              (s.low (10 * length rows) counts.low);
        }
