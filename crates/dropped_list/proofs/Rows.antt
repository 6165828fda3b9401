-- A row, its cells read from the last on.
use mathlib.Core.Path.{◌≡◌, refl, ap, ap₂, sym, ◌∙◌, subst}
use mathlib.Core.List.{List, ◌∷◌, ◌++◌, append_assoc}
use Prim.Native.Nat.{ℕ, suc, ◌+◌, ◌≤◌, ◌<◌}
use native.Mathlib.Decide.{dec_lt}
use native.Mathlib.Omega.{arith}
use lib.ListN.{length, drop, get_or}
use lib.Seq.{drop-cons, drop-length}
use Rattle.definitions.specs.Lines.{Row}
use Rattle.definitions.specs.Cells.{byte_at}
use Rattle.definitions.specs.Notes.{effect_at}
use Rattle.definitions.specs.Dropped.{decides, fate_of, cell_drops, made_row, drops_from, dropped_records}
use Rattle.definitions.specs.declared.DroppedHead.{DroppedHead}
use Rattle.definitions.proofs.Lists.{any-default}
use Rattle.dropped_list.specs.Listed.{fate_in, Lists, CellListed, Listed}
use Rattle.dropped_list.specs.declared.Listing.{Listing}

-- of a row numbered i with these rows below it, the cells from column c on
pub record CellsListed (row : Row) (i c : ℕ) (rows : List Row) (s : Listing) (list : List ℕ) : Type 0 where
  pub left : (k : ℕ) → k < c → fate_in s k ≡ fate_of k (suc i) rows
  pub told : (k : ℕ) → c ≤ k → k < length row → fate_in s k ≡ fate_of k i (row ∷ rows)
  pub heads : Lists s list (made_row cell_drops i c (drop c row) rows ++ drops_from (suc i) rows)

-- what the loop holds at column c, from the listing and the slice before the row
pub record RowListed (row : Row) (i : ℕ) (s₀ : Listing) (list₀ : List ℕ) (c : ℕ) (s : Listing) (list : List ℕ) : Type 0 where
  pub within : c ≤ length row
  pub fewer : s.first ≤ s₀.first
  pub few_records : s₀.first + c ≤ s.first + length row
  pub same_length : length list ≡ length list₀
  pub listed : (rows : List Row) → Listed (length row) (suc i) rows s₀ list₀ → CellsListed row i c rows s list

pub row-start : (row : Row) (i : ℕ) (s : Listing) (list : List ℕ) → RowListed row i s list (length row) s list
row-start row i s list =
    record {
      within = omega arith;
      fewer = omega arith;
      few_records = omega arith;
      same_length = refl;
      listed = λ rows x. record {
        left = x.fates;
        told = λ k h g. absurd (omega arith);
        heads = x.heads ∙ ap (λ l. dropped_records (made_row cell_drops i (length row) l rows ++ drops_from (suc i) rows)) (sym (drop-length row));
      };
    }

module _ (row : Row) (i : ℕ) (s₀ : Listing) (list₀ : List ℕ) (c : ℕ) (s : Listing) (list : List ℕ) (x : RowListed row i s₀ list₀ (suc c) s list)
    (s' : Listing) (list' : List ℕ) (y : CellListed (get_or row c 0) i c s list s' list') where
  inside : c < length row
  inside = omega (arith, x.within)

  next-cells : (rows : List Row) → CellsListed row i (suc c) rows s list → CellsListed row i c rows s' list'
  next-cells rows z =
      let later : fate_in s c ≡ fate_of c (suc i) rows = z.left c (omega arith) in
      let here : get_or row c 0 ≡ byte_at c row = any-default row c 0 48 inside in
      let told : fate_in s' c ≡ fate_of c i (row ∷ rows) = y.fate ∙ ap₂ (λ b f. decides (effect_at b) i f) here later in
      let parts : drop c row ≡ get_or row c 0 ∷ drop (suc c) row = drop-cons row c 0 inside in
      let first : List DroppedHead = cell_drops (effect_at (get_or row c 0)) i c (fate_of c (suc i) rows) in
      let others : List DroppedHead = made_row cell_drops i (suc c) (drop (suc c) row) rows in
      record {
        left = λ k h. y.others k (λ e. omega arith) ∙ z.left k (omega arith);
        told = λ k h g. elim (dec_lt c k) [
          | yes b ↦ y.others k (λ e. omega arith) ∙ z.told k (omega arith) g
          | no b ↦ let q : c ≡ k = omega arith in subst (λ n. fate_in s' n ≡ fate_of n i (row ∷ rows)) q told
        ];
        heads =
            y.heads (others ++ drops_from (suc i) rows) z.heads
            ∙ ap (λ f. dropped_records (cell_drops (effect_at (get_or row c 0)) i c f ++ (others ++ drops_from (suc i) rows))) later
            ∙ ap dropped_records (sym (append_assoc first others (drops_from (suc i) rows)))
            ∙ ap (λ bs. dropped_records (made_row cell_drops i c bs rows ++ drops_from (suc i) rows)) (sym parts);
      }

  next : RowListed row i s₀ list₀ c s' list'
  next =
      record {
        within = omega (arith, x.within);
        fewer = omega (arith, x.fewer, y.longer.fewer);
        few_records = omega (arith, x.few_records, y.longer.one);
        same_length = y.longer.same_length ∙ x.same_length;
        listed = λ rows l. next-cells rows (x.listed rows l);
      }

-- one cell more, in the column before
pub row-next : (row : Row) (i : ℕ) (s₀ : Listing) (list₀ : List ℕ) (n c : ℕ) (s : Listing) (list : List ℕ) → RowListed row i s₀ list₀ n s list → n ≡ suc c
    → (s' : Listing) (list' : List ℕ) → CellListed (get_or row c 0) i c s list s' list' → RowListed row i s₀ list₀ c s' list'
row-next row i s₀ list₀ n c s list x e s' list' y = next row i s₀ list₀ c s list (subst (λ k. RowListed row i s₀ list₀ k s list) e x) s' list' y

pub row-end : (row : Row) (i : ℕ) (s₀ : Listing) (list₀ : List ℕ) (s : Listing) (list : List ℕ) → RowListed row i s₀ list₀ 0 s list
    → (rows : List Row) → Listed (length row) (suc i) rows s₀ list₀ → Listed (length row) i (row ∷ rows) s list
row-end row i s₀ list₀ s list x rows l =
    let z : CellsListed row i 0 rows s list = x.listed rows l in record { fates = λ c h. z.told c (omega arith) h; heads = z.heads }
