-- The loop of `row_has_object`: the columns before i are done, and those from i on are as they were.
use mathlib.Core.Path.{◌≡◌, refl, ap, sym, ◌∙◌}
use mathlib.Core.Bool.{Bool, false, ◌||◌, or_assoc, or-false}
use mathlib.Core.List.{List}
use Prim.Native.Nat.{ℕ, ◌+◌, ◌<◌, ◌≤◌}
use native.Mathlib.Decide.{dec_lt}
use native.Mathlib.Numerals.{add-one}
use native.Mathlib.Nat.{not-suc-le-zero}
use native.Mathlib.Omega.{arith}
use lib.ListN.{length, get_or, set, drop, length-set, drop_of_length-le, get_or-eq_default}
use lib.Seq.{drop-cons, get_or-set_same, get_or-set_other}
use Rattle.definitions.specs.Lines.{Row}
use Rattle.definitions.specs.Cells.{cell_of, byte_at}
use Rattle.definitions.specs.Objects.{object_at, is_object, deeper, object_row, object_from}
use Rattle.definitions.specs.Objects as objects
use Rattle.definitions.proofs.Lists.{any-default}
use Rattle.objects.specs.Rows.{depth_at, DepthsHeld, DepthsLow, RowDone}
use Rattle.objects.specs.declared.Depths.{Depths}
use Rattle.definitions.specs.declared.DepthEffect.{DepthEffect}
use Rattle.definitions.specs.declared.DepthEffect.TheVariants.{Nothing, Blocks, Opens, Closes}

-- the depth after a row's cell in a column, from the depths l on
abbrev pub after : Row → List ℕ → ℕ → ℕ
after row l c = deeper (object_at (byte_at c row)) (get_or l c 0)

-- With the depths l₀ before the row: what l and `object` hold when the loop is at column i.
pub record Scanned (row : Row) (l₀ l : List ℕ) (object : Bool) (i : ℕ) : Type 0 where
  pub within : i ≤ length row
  pub size : length l ≡ 10
  pub found : (D : objects.Depths) → DepthsHeld D (record { depths = l₀ }) → object_row D row ≡ (object || object_from D i (drop i row))
  pub done : (c : ℕ) → c < i → get_or l c 0 ≡ after row l₀ c
  pub left : (c : ℕ) → i ≤ c → get_or l c 0 ≡ get_or l₀ c 0

pub scan-start : (row : Row) (l : List ℕ) → length l ≡ 10 → Scanned row l l false 0
scan-start row l h =
    record {
      within = omega arith;
      size = h;
      found = λ D held. refl;
      done = λ c k. absurd (not-suc-le-zero k);
      left = λ c k. refl;
    }

module _ (row : Row) (l₀ l : List ℕ) (object : Bool) (i : ℕ) (s : Scanned row l₀ l object i) where
  -- the depth that the cell at i meets
  pub scan-depth : get_or l i 0 ≡ get_or l₀ i 0
  scan-depth = s.left i (omega arith)

  next-object : (o : Bool) → i < length row → i < 10 → o ≡ is_object (object_at (get_or row i 0)) (get_or l i 0)
      → (D : objects.Depths) → DepthsHeld D (record { depths = l₀ }) → object_row D row ≡ ((object || o) || object_from D (i + 1) (drop (i + 1) row))
  next-object o h k e D held =
      let d : get_or l i 0 ≡ D i = scan-depth ∙ held i k in
      s.found D held
      ∙ rw (or_assoc, e, d, add-one, drop-cons row i 0)

  module _ (o : Bool) (n : ℕ) (h : i < length row) (k : i < 10) where
    next-done : n ≡ deeper (object_at (get_or row i 0)) (get_or l i 0) → (c : ℕ) → c < i + 1 → get_or (set l i n) c 0 ≡ after row l₀ c
    next-done e c m =
        elim (dec_lt c i) [
          | yes b ↦ get_or-set_other l i c n 0 (λ q. omega arith) ∙ s.done c b
          | no b ↦
              let q : c ≡ i = omega arith in
              rw q (get_or-set_same l i n 0 (omega (arith, s.size)) ∙ e ∙ rw (scan-depth, any-default row i 0 48 h))
        ]

    pub scan-next : o ≡ is_object (object_at (get_or row i 0)) (get_or l i 0) → n ≡ deeper (object_at (get_or row i 0)) (get_or l i 0)
        → Scanned row l₀ (set l i n) (object || o) (i + 1)
    scan-next e f =
        record {
          within = omega arith;
          size = length-set l i n ∙ s.size;
          found = next-object o h k e;
          done = next-done f;
          left = λ c m. get_or-set_other l i c n 0 (λ q. omega arith) ∙ s.left c (omega arith);
        }

-- past the row's end a byte is a `0`, which leaves the depth
past_end : (row : Row) (l : List ℕ) (c : ℕ) → length row ≤ c → get_or l c 0 ≡ after row l c
unfolding object_at cell_of
past_end row l c h = rw (get_or-eq_default row 48 h)

pub deeper-le : (e : DepthEffect) (d : ℕ) → deeper e d ≤ d + 1
deeper-le Nothing d = omega arith
deeper-le Blocks d = omega arith
deeper-le Opens d = omega arith
deeper-le Closes d = omega arith

-- past the last column every depth is the one after the row
all_done : (row : Row) (l₀ l : List ℕ) (object : Bool) (i : ℕ) → Scanned row l₀ l object i → length row ≤ i
    → (c : ℕ) → get_or l c 0 ≡ after row l₀ c
all_done row l₀ l object i s h c =
    elim (dec_lt c i) [ yes b ↦ s.done c b | no b ↦ s.left c (omega arith) ∙ past_end row l₀ c (omega arith) ]

pub scan-end : (row : Row) (old : Depths) (l : List ℕ) (object : Bool) (i : ℕ) → Scanned row old.depths l object i
    → length row ≤ i → RowDone row old (record { object = object; depths = record { depths = l } })
scan-end row old l object i s h =
    let d = all_done row old.depths l object i s h in
    record {
      object = λ D held. sym (s.found D held ∙ rw (drop_of_length-le row h, or-false object));
      depths = λ D held c k. d c ∙ ap (deeper (object_at (byte_at c row))) (held c k);
      low =
          λ k low c m.
          let e = d c in
          omega (arith, deeper-le (object_at (byte_at c row)) (depth_at old c), low c m);
    }

-- ---- For callers
pub low-more : (j k : ℕ) (s : Depths) → j ≤ k → DepthsLow j s → DepthsLow k s
low-more j k s h low c m = omega (arith, low c m)
