-- 1 and 15, from the first count on.
use mathlib.Core.Path.{◌≡◌, refl, ap, sym, ◌∙◌}
use mathlib.Core.Bool.{Bool, true, false, cond, not, ◌&&◌, ◌||◌}
use mathlib.Core.List.{List, [], ◌∷◌}
use Prim.Native.Nat.{ℕ, zero, suc, ◌+◌, ◌≤◌, ◌<◌}
use native.Mathlib.Omega.{arith}
use borrow.Author.Tests.{ltb-true, ltb-false, lt-ltb, le-ltb, le-leb, lt-leb}
use lib.Dec.{leb, ltb}
use lib.ListN.{length, drop, get_or}
use Rattle.definitions.specs.Lines.{Row}
use Rattle.definitions.specs.Halving.{evens, halvable, halved, ReduceHalved}
use Rattle.definitions.specs.Written.{written_rows, written_from, written_measures, sum_of, last_of, some_past, shrinks, some_shrink}
use Rattle.definitions.specs.declared.Note.{Note}
use Rattle.definitions.proofs.Reduction.{reduce-halved}
use Rattle.definitions.proofs.WriterMakes.{no_note}
use Rattle.written.proofs.Parts.{drop-next, drop-end}
use Rattle.note_records.proofs.Kept.{NoteAt}
use Rattle.written.specs.Standing.{Standing}
use Rattle.written.specs.declared.rows.NotesAbove.{NotesAbove}

-- ---- The rows of all measures
pub record SumFrom (counts : List ℕ) (i rows : ℕ) : Type 0 where
  pub within : i ≤ length counts
  pub few : rows ≤ 4194304
  pub same : sum_of counts ≡ rows + sum_of (drop i counts)

pub sum-start : (counts : List ℕ) → SumFrom counts 0 0
sum-start counts = record { within = omega arith; few = omega arith; same = zero-plus (sum_of counts) }
  where
    zero-plus : (n : ℕ) → n ≡ 0 + n
    zero-plus n = omega arith

sum-here : (counts : List ℕ) (i : ℕ) → i < length counts → sum_of (drop i counts) ≡ get_or counts i 0 + sum_of (drop (i + 1) counts)
sum-here counts i h = ap sum_of (drop-next counts i 0 h)

module _ {counts : List ℕ} {i rows : ℕ} (x : SumFrom counts i rows) (h : i < length counts) where
  pub sum-next : rows + get_or counts i 0 ≤ 4194304 → SumFrom counts (i + 1) (rows + get_or counts i 0)
  sum-next q = record { within = omega arith; few = q; same = omega (arith, x.same, sum-here counts i h) }

  pub sum-over : 4194304 < rows + get_or counts i 0 → 4194304 < sum_of counts
  sum-over q = omega (arith, x.same, sum-here counts i h)

pub sum-end : {counts : List ℕ} {i rows : ℕ} → SumFrom counts i rows → length counts ≤ i → rows ≡ sum_of counts
sum-end {counts} {i} x h = omega (arith, x.same, ap sum_of (drop-end counts i h))

-- ---- The notes within the rows
pub record PastFrom (t : ℕ) (ns : List Note) (i : ℕ) (within : Bool) : Type 0 where
  pub same : some_past t ns ≡ (not within || some_past t (drop i ns))

pub past-start : (t : ℕ) (ns : List Note) → PastFrom t ns 0 true
past-start t ns = record { same = refl }

pub past-next : {t : ℕ} {ns : List Note} {i : ℕ} {within : Bool} → PastFrom t ns i within → (n : Note) → NoteAt ns i n → PastFrom t ns (i + 1) (within && ltb (last_of n.row n.tail) t)
past-next {t} {ns} {i} {within} x n y =
    record {
      same =
          x.same
          ∙ ap (λ l. not within || some_past t l) (drop-next ns i no_note y.within ∙ ap (λ z. z ∷ drop (i + 1) ns) (sym y.same))
          ∙ ap (λ b. not within || (b || some_past t (drop (i + 1) ns))) (past t (last_of n.row n.tail))
          ∙ either within (ltb (last_of n.row n.tail) t) (some_past t (drop (i + 1) ns));
    }
  where
    past : (t r : ℕ) → leb t r ≡ not (ltb r t)
    past t r = go (ltb r t) refl
      where
        go : (b : Bool) → ltb r t ≡ b → leb t r ≡ not b
        go true e = let h = ltb-true r t e in lt-leb t r h
        go false e = let h = ltb-false r t e in le-leb t r h

    either : (a b c : Bool) → (not a || (not b || c)) ≡ (not (a && b) || c)
    either true b c = refl
    either false b c = refl

pub past-end : {t : ℕ} {ns : List Note} {i : ℕ} {within : Bool} → PastFrom t ns i within → length ns ≤ i → some_past t ns ≡ not within
past-end {t} {ns} {i} {within} x h = x.same ∙ ap (λ l. not within || some_past t l) (drop-end ns i h) ∙ none (not within)
  where
    none : (a : Bool) → (a || false) ≡ a
    none true = refl
    none false = refl

-- ---- A measure could be minimised further if it can be halved, and has rows.
evens-short : (rs : List Row) → length (evens rs) ≤ length rs
evens-short [] = omega arith
evens-short (r ∷ []) = omega arith
evens-short (r ∷ r' ∷ rs) = omega (arith, evens-short rs)

halved-short : (k : ℕ) (rs : List Row) → length (halved k rs) ≤ length rs
halved-short zero rs = omega arith
halved-short (suc k) rs = go (halvable rs) (halved-short k (evens rs))
  where
    go : (t : Bool) → length (halved k (evens rs)) ≤ length (evens rs) → length (cond t (halved k (evens rs)) rs) ≤ length rs
    go true h = omega (arith, h, evens-short rs)
    go false h = omega arith

pub shrinks-halvable : (m : List Row) → shrinks m ≡ (halvable m && ltb 0 (length m))
unfolding ReduceHalved
shrinks-halvable m = ap (λ (r : List Row). ltb (length r) (length m)) (reduce-halved m) ∙ go m
  where
    go : (m : List Row) → ltb (length (halved (length m) m)) (length m) ≡ (halvable m && ltb 0 (length m))
    go [] = refl
    go (r ∷ []) = le-ltb (length (halved 0 (r ∷ []))) 1 (omega arith)
    go (r ∷ r' ∷ rs) = at (halvable (r ∷ r' ∷ rs))
      where
        at : (t : Bool) → ltb (length (cond t (halved (suc (length rs)) (r ∷ evens rs)) (r ∷ r' ∷ rs))) (suc (suc (length rs))) ≡ (t && ltb 0 (suc (suc (length rs))))
        at true =
            lt-ltb (length (halved (suc (length rs)) (r ∷ evens rs))) (suc (suc (length rs))) (omega (arith, halved-short (suc (length rs)) (r ∷ evens rs), evens-short rs))
            ∙ sym (lt-ltb 0 (suc (suc (length rs))) (omega arith))
        at false = le-ltb (suc (suc (length rs))) (suc (suc (length rs))) (omega arith)

-- ---- No measure could
pub record ShrinkFrom (L : ℕ) (ns : List Note) (counts : List ℕ) (i first : ℕ) (w : NotesAbove) : Type 0 where
  pub within : i ≤ length counts
  pub sum : sum_of counts ≡ first + sum_of (drop i counts)
  pub same : some_shrink (written_measures L ns counts) ≡ some_shrink (written_from L ns first (drop i counts))
  pub standing : Standing ns first w

pub shrink-start : (L : ℕ) (ns : List Note) (counts : List ℕ) (w : NotesAbove) → Standing ns 0 w → ShrinkFrom L ns counts 0 0 w
unfolding written_measures
shrink-start L ns counts w s = record { within = omega arith; sum = zero-plus (sum_of counts); same = refl; standing = s }
  where
    zero-plus : (n : ℕ) → n ≡ 0 + n
    zero-plus n = omega arith

module _ {L : ℕ} {ns : List Note} {counts : List ℕ} {i first : ℕ} {w : NotesAbove} (x : ShrinkFrom L ns counts i first w) (h : i < length counts) where
  pub first-few : sum_of counts ≤ 4194304 → first + get_or counts i 0 ≤ 4194304
  first-few q = omega (arith, x.sum, sum-here counts i h)

  abbrev rows : List Row
  rows = written_rows L ns first (get_or counts i 0)

  measure-shrinks : some_shrink (written_measures L ns counts) ≡ (shrinks rows || some_shrink (written_from L ns (first + get_or counts i 0) (drop (i + 1) counts)))
  measure-shrinks = x.same ∙ ap (λ l. some_shrink (written_from L ns first l)) (drop-next counts i 0 h)

  pub shrink-found : shrinks rows ≡ true → some_shrink (written_measures L ns counts) ≡ true
  shrink-found p = measure-shrinks ∙ ap (λ b. b || some_shrink (written_from L ns (first + get_or counts i 0) (drop (i + 1) counts))) p

  pub shrink-next : shrinks rows ≡ false → (w' : NotesAbove) → Standing ns (first + get_or counts i 0) w' → ShrinkFrom L ns counts (i + 1) (first + get_or counts i 0) w'
  shrink-next p w' s =
      record {
        within = omega arith;
        sum = omega (arith, x.sum, sum-here counts i h);
        same = measure-shrinks ∙ ap (λ b. b || some_shrink (written_from L ns (first + get_or counts i 0) (drop (i + 1) counts))) p;
        standing = s;
      }

pub shrink-end : {L : ℕ} {ns : List Note} {counts : List ℕ} {i first : ℕ} {w : NotesAbove} → ShrinkFrom L ns counts i first w → length counts ≤ i → some_shrink (written_measures L ns counts) ≡ false
shrink-end {L} {ns} {counts} {i} {first} x h = x.same ∙ ap (λ l. some_shrink (written_from L ns first l)) (drop-end counts i h)
