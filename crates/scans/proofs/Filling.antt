-- What a scan that fills a slice with the figure f of each measure holds: the measures that have ended are stored, and S ties the loop's state to
-- the rows of the open one.
use mathlib.Core.Path.{◌≡◌, refl, ap, sym, ◌∙◌}
use mathlib.Core.List.{List, [], ◌∷◌, ◌++◌, map, map-append}
use Prim.Native.Nat.{ℕ, ◌+◌, ◌*◌, ◌≤◌, ◌<◌}
use native.Mathlib.Numerals.{add-one}
use native.Mathlib.Omega.{arith}
use lib.ListN.{length, take, set, length-append, length-set}
use lib.Seq.{take-suc-set, length-take-le}
use Rattle.definitions.specs.Lists.{padded}
use Rattle.definitions.specs.Lines.{Row}
use Rattle.definitions.specs.Measures.{chart}
use Rattle.reader.proofs.ChartLoops.{Over}
use Rattle.slices.specs.Zeroed.{zeroed}
use Rattle.slices.proofs.Zeroed.{zeroed-padded}

module _ (f : List Row → ℕ) where
  pub record Filling (S : List Row → Type 0) (m : ℕ) (dst : List ℕ) (done : List (List Row)) (cur : List Row) : Type 0 where
    pub count : m ≡ length done
    pub stored : take m dst ≡ map f done
    pub state : S cur

  -- The reading is over: with v, the last measure's figure, all figures are there.
  pub record Filled (L : ℕ) (text : List ℕ) (m v : ℕ) (dst : List ℕ) : Type 0 where
    pub room : 2 * m ≤ length text + 1
    pub figures : map f (chart L text) ≡ take m dst ++ (v ∷ [])

  pub filling_start : (S : List Row → Type 0) (dst : List ℕ) → S [] → Filling S 0 dst [] []
  filling_start S dst s = record { count = refl; stored = refl; state = s }

  module _ (S S' : List Row → Type 0) (m : ℕ) (dst : List ℕ) where
    pub filling_row : (row : Row) → ((cur : List Row) → S cur → S' (cur ++ (row ∷ [])))
        → (done : List (List Row)) (cur : List Row) → Filling S m dst done cur → Filling S' m dst done (cur ++ (row ∷ []))
    filling_row row g done cur x = record { count = x.count; stored = x.stored; state = g cur x.state }

    pub filling_comma : (v : ℕ) → m < length dst → ((cur : List Row) → S cur → v ≡ f cur) → S' []
        → (done : List (List Row)) (cur : List Row) → Filling S m dst done cur → Filling S' (m + 1) (set dst m v) (done ++ (cur ∷ [])) []
    filling_comma v w g s done cur x =
        record {
          count = rw length-append (omega (arith, x.count));
          stored = rw (add-one, take-suc-set dst m v w, x.stored, g cur x.state) (sym (map-append f done (cur ∷ [])));
          state = s;
        }

  pub filling_over : (S : List Row → Type 0) (L : ℕ) (text : List ℕ) (m : ℕ) (dst : List ℕ) (v : ℕ) → ((cur : List Row) → S cur → v ≡ f cur) → Over L text (Filling S m dst) → Filled L text m v dst
  filling_over S L text m dst v g x =
      record {
        room = omega (arith, x.held.count, x.few.measures);
        figures = ap (map f) x.chart_is ∙ map-append f x.done (x.cur ∷ []) ∙ rw (← g x.cur x.held.state, ← x.held.stored);
      }

  -- the last figure stored and zeros after it: the whole slice
  module _ (L : ℕ) (text : List ℕ) (m v : ℕ) (dst : List ℕ) (w : m < length dst) (x : Filled L text m v dst) where
    pub filled_count : m + 1 ≡ length (map f (chart L text))
    filled_count = sym (ap length x.figures ∙ length-append (take m dst) (v ∷ []) ∙ ap (λ k. k + 1) (length-take-le m dst (omega arith)))

    pub filled_slice : (n : ℕ) → length dst ≡ n → zeroed 0 (m + 1) (set dst m v) ≡ padded 0 n (map f (chart L text))
    filled_slice n e =
        ap (λ k. zeroed 0 k (set dst m v)) filled_count
        ∙ zeroed-padded 0 (map f (chart L text)) (set dst m v) front
        ∙ ap (λ k. padded 0 k (map f (chart L text))) (length-set dst m v ∙ e)
      where
        front : take (length (map f (chart L text))) (set dst m v) ≡ map f (chart L text)
        front = rw (← filled_count, add-one, take-suc-set dst m v w) (sym x.figures)
