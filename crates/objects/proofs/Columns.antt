-- A row's cells, column by column: how large the depths are, and what is held when all are done.
use mathlib.Core.Path.{◌≡◌, refl, ap, sym, ◌∙◌}
use mathlib.Core.Bool.{Bool, true, false, cond, ◌||◌}
use mathlib.Core.Logic.{inl, inr}
use mathlib.Core.List.{List, ◌∷◌, [], ◌++◌}
use Rattle.std.specs.Prelude.{Some}
use Prim.Native.Nat.{ℕ, zero, suc, ◌+◌, ◌<◌, ◌≤◌}
use native.Mathlib.Decide.{dec_lt, ℕ_discrete}
use native.Mathlib.Omega.{arith}
use lib.ListN.{length, get_or, set, length-set, get_or-eq_default}
use types.Run.{OneOf}
use lib.Seq.{set-get_or, get_or-set_same, get_or-set_other}
use Rattle.definitions.specs.Lines.{Row}
use Rattle.definitions.specs.Cells.{cell_of}
use Rattle.definitions.specs.declared.Cell.TheVariants.{Empty}
use Rattle.definitions.specs.declared.DepthEffect.TheVariants.{Blocks}
use Rattle.definitions.specs.Objects.{object_at, is_object, deeper}
use Rattle.objects.specs.declared.LastScan.{LastScan}
use Rattle.objects.specs.Rows.{depth_at, DepthsLow}
use Rattle.objects.specs.LastHeld.{LastHeld}
use Rattle.objects.specs.Columns.{EffectDone, ColumnDone, ColumnsDone}
use Rattle.objects.proofs.Scan.{Scanned, scan-start, scan-next, scan-end, deeper-le}
use Rattle.objects.proofs.LastHeld.{held-row}
use Rattle.taps.specs.Taps.{FreeAre}

-- ---- by the byte

pub done-empty : (c b : ℕ) (s : LastScan) → cell_of b ≡ Empty → EffectDone c (object_at b) s s
unfolding object_at
done-empty c b s e =
    rw e (record { depths = sym (set-get_or s.depths.depths c 0); row = refl; found = refl; rows = refl; midx = refl; free = λ f. f })

pub blocking : (b : ℕ) → OneOf (75 ∷ 77 ∷ []) b → object_at b ≡ Blocks
unfolding object_at cell_of
blocking b (inl e) = rw e
blocking b (inr e) = rw e

-- ---- each depth grows by at most 1

set-most : (l : List ℕ) (c n : ℕ) → n ≤ get_or l c 0 + 1 → get_or (set l c n) c 0 ≤ get_or l c 0 + 1
set-most l c n h =
    elim (dec_lt c (length l)) [
      | yes b ↦ omega (arith, get_or-set_same l c n 0 b)
      | no b ↦ let past : length (set l c n) ≤ c = rw (length-set l c n) (omega arith) in omega (arith, get_or-eq_default (set l c n) 0 past)
    ]

pub column-low : (row : Row) (c k : ℕ) (s r : LastScan) → ColumnDone row c s r → DepthsLow k s.depths → DepthsLow (k + 1) r.depths
column-low row c k s r w low d b =
    rw w.depths
    (elim (ℕ_discrete d c) [
      | yes q ↦ rw q (omega (arith, set-most s.depths.depths c _ (deeper-le (object_at (get_or row c 0)) (depth_at s.depths c)), low c (rw q at b)))
      | no n ↦ omega (arith, get_or-set_other s.depths.depths c d (deeper (object_at (get_or row c 0)) (depth_at s.depths c)) 0 n, low d b)
    ])

pub columns-low : (row : Row) (c n k : ℕ) (s r : LastScan) → ColumnsDone row c n s r → DepthsLow k s.depths → DepthsLow (k + n) r.depths
columns-low row c zero k s r w low d b = rw w (omega (arith, low d b))
columns-low row c (suc n) k s r (m, (w, v)) low d b =
    let more = columns-low row (c + 1) n (k + 1) m r v (column-low row c k s m w low) d b in
    omega (arith, more)

-- ---- columns after columns

pub columns-append : (row : Row) (c m n : ℕ) (s t r : LastScan) → ColumnsDone row c m s t → ColumnsDone row (c + m) n t r → ColumnsDone row c (m + n) s r
columns-append row c zero n s t r w v =
    let first : c + 0 ≡ c = omega arith in
    let none : 0 + n ≡ n = omega arith in
    rw (none, ← w) (rw first at v)
columns-append row c (suc m) n s t r (a, (w, u)) v =
    let next : c + suc m ≡ c + 1 + m = omega arith in
    let more : suc m + n ≡ suc (m + n) = omega arith in
    rw more (a, (w, columns-append row (c + 1) m n a t r u (rw next at v)))

-- ---- With s₀ before the row: what s holds when the columns before i are done.

record Lined (row : Row) (s₀ s : LastScan) (i : ℕ) : Type 0 where
  object : Bool
  scanned : Scanned row s₀.depths.depths s.depths.depths object i
  row-is : s.row ≡ cond object (Some s₀.rows) s₀.row
  found : s.found ≡ s₀.found
  rows : s.rows ≡ s₀.rows
  midx : s.midx ≡ s₀.midx
  free : FreeAre s₀.busy 0 s₀.depths.depths → FreeAre s.busy 0 s.depths.depths

lined-next : (row : Row) (s₀ s r : LastScan) (i : ℕ) → i < length row → length row ≤ 10 → Lined row s₀ s i → ColumnDone row i s r → Lined row s₀ r (i + 1)
lined-next row s₀ s r i h narrow x w = record {
  object = x.object || is_object (object_at (get_or row i 0)) (depth_at s.depths i);
  scanned = rw w.depths (scan-next row s₀.depths.depths s.depths.depths x.object i x.scanned _ _ h (omega arith) refl refl);
  row-is = w.row ∙ either x.object (is_object (object_at (get_or row i 0)) (depth_at s.depths i)) x.row-is;
  found = w.found ∙ x.found;
  rows = w.rows ∙ x.rows;
  midx = w.midx ∙ x.midx;
  free = λ f. w.free (x.free f);
}
  where
    either : (a b : Bool) → s.row ≡ cond a (Some s₀.rows) s₀.row → cond b (Some s.rows) s.row ≡ cond (a || b) (Some s₀.rows) s₀.row
    either true true e = ap Some x.rows
    either true false e = e
    either false true e = ap Some x.rows
    either false false e = e

lined-columns : (row : Row) (s₀ s r : LastScan) (i n : ℕ) → i + n ≤ length row → length row ≤ 10 → Lined row s₀ s i → ColumnsDone row i n s r → Lined row s₀ r (i + n)
lined-columns row s₀ s r i zero h narrow x w = let here : i + 0 ≡ i = omega arith in rw (here, w) x
lined-columns row s₀ s r i (suc n) h narrow x (m, (w, v)) =
    let next : i + suc n ≡ i + 1 + n = omega arith in
    rw next (lined-columns row s₀ m r (i + 1) n (omega arith) narrow (lined-next row s₀ s m i (omega arith) narrow x w) v)

pub columns-rows : (row : Row) (c n : ℕ) (s r : LastScan) → ColumnsDone row c n s r → r.rows ≡ s.rows
columns-rows row c zero s r w = ap (λ (z : LastScan). z.rows) w
columns-rows row c (suc n) s r (m, (w, v)) = columns-rows row (c + 1) n m r v ∙ w.rows

-- one row more
module _ (row : Row) (s r : LastScan) (done : List (List Row)) (cur : List Row) (x : LastHeld s done cur) where
  lined-held : Lined row s r (length row) → LastHeld (record r { rows = r.rows + 1 }) done (cur ++ (row ∷ []))
  lined-held y =
      rw (y.row-is, y.found, y.rows, y.midx)
      (held-row s done cur x row (record { object = y.object; depths = r.depths }) (scan-end row s.depths r.depths.depths y.object (length row) y.scanned (omega arith)) r.busy (y.free x.free))

  pub columns-held : length s.depths.depths ≡ 10 → length row ≤ 10 → ColumnsDone row 0 (length row) s r → LastHeld (record r { rows = r.rows + 1 }) done (cur ++ (row ∷ []))
  columns-held size narrow w =
      let start : Lined row s s 0 = record { object = false; scanned = scan-start row s.depths.depths size; row-is = refl; found = refl; rows = refl; midx = refl; free = λ f. f } in
      let first : 0 + length row ≡ length row = omega arith in
      lined-held (rw first at (lined-columns row s s r 0 (length row) (omega arith) narrow start w))
