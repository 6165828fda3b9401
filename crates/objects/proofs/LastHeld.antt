-- What is held of the last object row, with one row more and at the end of a measure.
use mathlib.Core.Path.{◌≡◌, refl, ap, ap₂, sym, ◌∙◌, subst}
use mathlib.Core.Bool.{Bool, true, false, cond}
use mathlib.Core.List.{List, [], ◌∷◌, ◌++◌, append_assoc, append-nil}
use Rattle.std.specs.Prelude.{Option, Some, None}
use Prim.Native.Nat.{ℕ, suc, ◌+◌, ◌≤◌, ◌<◌}
use native.Mathlib.Nat.{add-zero, zero-add, add-suc, suc-add}
use native.Mathlib.Omega.{arith}
use lib.ListN.{length, length-append}
use Rattle.definitions.specs.Sizes.{measures_bound, row_count_bound}
use Rattle.definitions.specs.Lists.{joined, only_if}
use Rattle.definitions.specs.Lines.{Row}
use Rattle.definitions.specs.Objects.{Depths, after_row, after_rows, object_row, Place, objects_in, objects_from, last_of}
use Rattle.definitions.proofs.Lists.{joined_snoc}
use Rattle.taps.specs.Taps.{FreeAre}
use Rattle.beats.proofs.Placed.{placed-nothing, placed_at}
use Rattle.objects.specs.declared.Depths.{Depths as Held}
use Rattle.objects.specs.Rows.{DepthsHeld, DepthsLow, NoDepths, Objects, RowDone}
use Rattle.objects.proofs.Scan.{low-more}
use Rattle.objects.specs.declared.LastScan.{LastScan}
use Rattle.objects.specs.LastHeld.{row_last, depths_after, LastHeld, counted}

-- one row more
rows_snoc : (D : Depths) (xs : List Row) (x : Row) → after_rows D (xs ++ (x ∷ [])) ≡ after_row (after_rows D xs) x
rows_snoc D [] x = refl
rows_snoc D (y ∷ xs) x = rows_snoc (after_row D y) xs x

row_snoc : (D : Depths) (r : ℕ) (o : Option ℕ) (xs : List Row) (x : Row)
    → row_last D r o (xs ++ (x ∷ [])) ≡ cond (object_row (after_rows D xs) x) (Some (r + length xs)) (row_last D r o xs)
row_snoc D r o [] x = rw add-zero
row_snoc D r o (y ∷ xs) x = row_snoc (after_row D y) (suc r) (cond (object_row D y) (Some r) o) xs x ∙ rw (suc-add, ← add-suc)

rows_append : (D : Depths) (xs ys : List Row) → after_rows D (xs ++ ys) ≡ after_rows (after_rows D xs) ys
rows_append D [] ys = refl
rows_append D (x ∷ xs) ys = rows_append (after_row D x) xs ys

-- the last of two lists run together
abbrev or_else : Option Place → Option Place → Option Place
or_else None p = p
or_else (Some q) p = Some q

none-else : (o : Option Place) → o ≡ or_else o None
none-else None = refl
none-else (Some p) = refl

last-append : (s t : List Place) → last_of (s ++ t) ≡ or_else (last_of t) (last_of s)
last-append [] t = none-else (last_of t)
last-append (p ∷ []) [] = refl
last-append (p ∷ []) (q ∷ t) = go q t
  where
    go : (q : Place) (t : List Place) → last_of (q ∷ t) ≡ or_else (last_of (q ∷ t)) (Some p)
    go q [] = refl
    go q (x ∷ t) = go x t
last-append (p ∷ q ∷ s) t = last-append (q ∷ s) t

-- the object rows with one measure more
objects-snoc : (D : Depths) (m : ℕ) (ms : List (List Row)) (x : List Row)
    → objects_from D m (ms ++ (x ∷ [])) ≡ objects_from D m ms ++ objects_in (after_rows D (joined ms)) (m + length ms) 0 (length x) x
objects-snoc D m [] x = rw (add-zero, append-nil)
objects-snoc D m (y ∷ ms) x =
    ap (λ l. objects_in D m 0 (length y) y ++ l)
    (objects-snoc (after_rows D y) (suc m) ms x
    ∙ ap₂ (λ E k. objects_from (after_rows D y) (suc m) ms ++ objects_in E k 0 (length x) x) (sym (rows_append D y (joined ms))) (suc-add m (length ms) ∙ sym (add-suc m (length ms))))
    ∙ sym (append_assoc (objects_in D m 0 (length y) y) (objects_from (after_rows D y) (suc m) ms) _)

-- a measure's last object row as a place
abbrev to_place : ℕ → ℕ → Option ℕ → Option Place
to_place m n None = None
to_place m n (Some r) = Some (record { m = m; r = r; n = n })

in-last : (D : Depths) (m r n : ℕ) (o : Option ℕ) (xs : List Row) → or_else (last_of (objects_in D m r n xs)) (to_place m n o) ≡ to_place m n (row_last D r o xs)
in-last D m r n o [] = refl
in-last D m r n o (x ∷ xs) = go (object_row D x) (λ p. in-last (after_row D x) m (suc r) n p xs)
  where
    put : (l : List Place) (p : Place) → last_of (p ∷ l) ≡ or_else (last_of l) (Some p)
    put [] p = refl
    put (q ∷ l) p = last-append (p ∷ []) (q ∷ l)

    twice : (a : Option Place) (p : Place) (b : Option Place) → or_else (or_else a (Some p)) b ≡ or_else a (Some p)
    twice None p b = refl
    twice (Some q) p b = refl

    go : (t : Bool) → ((o : Option ℕ) → or_else (last_of (objects_in (after_row D x) m (suc r) n xs)) (to_place m n o) ≡ to_place m n (row_last (after_row D x) (suc r) o xs))
        → or_else (last_of (only_if t (record { m = m; r = r; n = n } ∷ []) ++ objects_in (after_row D x) m (suc r) n xs)) (to_place m n o) ≡ to_place m n (row_last (after_row D x) (suc r) (cond t (Some r) o) xs)
    go true ih =
        let l = objects_in (after_row D x) m (suc r) n xs in
        let p : Place = record { m = m; r = r; n = n } in
        ap (λ z. or_else z (to_place m n o)) (put l p) ∙ twice (last_of l) p (to_place m n o) ∙ ih (Some r)
    go false ih = ih o

-- A measure ends: the last object row of all, by that of the measure.
measure-last : (done : List (List Row)) (cur : List Row)
    → last_of (objects_from (λ c. 0) 0 (done ++ (cur ∷ []))) ≡ or_else (to_place (length done) (length cur) (row_last (depths_after done) 0 None cur)) (last_of (objects_from (λ c. 0) 0 done))
measure-last done cur =
    ap last_of (objects-snoc (λ c. 0) 0 done cur)
    ∙ last-append (objects_from (λ c. 0) 0 done) (objects_in (depths_after done) (0 + length done) 0 (length cur) cur)
    ∙ ap (λ z. or_else z (last_of (objects_from (λ c. 0) 0 done)))
    (ap (λ m. last_of (objects_in (depths_after done) m 0 (length cur) cur)) (zero-add (length done))
    ∙ none-else (last_of (objects_in (depths_after done) (length done) 0 (length cur) cur))
    ∙ in-last (depths_after done) (length done) 0 (length cur) None cur)

pub held-start : (d : Held) → NoDepths d → LastHeld (record { depths = d; busy = 0; found = None; row = None; rows = 0; midx = 0 }) [] []
held-start d n =
    record {
      depths = n.none;
      low = n.low;
      found = refl;
      placed = placed-nothing;
      row = refl;
      inside = λ r e. let z : ◌≡◌ {A = ℕ} 0 1 = cc in absurd (omega arith);
      rows = refl;
      midx = refl;
      free = λ c h e. n.none c h;
    }

module _ (s : LastScan) (done : List (List Row)) (cur : List Row) (x : LastHeld s done cur) where
  -- any row, by what the object row's test says
  module _ (row : Row) (o : Objects) (w : RowDone row s.depths o) (busy : ℕ) (free : FreeAre busy 0 o.depths.depths) where
    depths-after : DepthsHeld (after_rows (depths_after done) (cur ++ (row ∷ []))) o.depths
    depths-after = subst (λ E. DepthsHeld E o.depths) (sym (rows_snoc (depths_after done) cur row)) (w.depths (after_rows (depths_after done) cur) x.depths)

    low-after : DepthsLow (length (joined done) + length (cur ++ (row ∷ []))) o.depths
    low-after = low-more _ _ o.depths (rw length-append (omega arith)) (w.low _ x.low)

    is-object : (t : Bool) → o.object ≡ t → object_row (after_rows (depths_after done) cur) row ≡ t
    is-object t e = sym (w.object (after_rows (depths_after done) cur) x.depths) ∙ e

    pub held-object : o.object ≡ true → LastHeld (record { depths = o.depths; busy = busy; found = s.found; row = Some s.rows; rows = s.rows + 1; midx = s.midx }) done (cur ++ (row ∷ []))
    held-object e =
        record {
          depths = depths-after;
          low = low-after;
          found = x.found;
          placed = x.placed;
          row = ap Some (x.rows ∙ sym (zero-add (length cur))) ∙ sym (row_snoc (depths_after done) 0 None cur row ∙ rw (is-object true e));
          inside = λ r q. let z : s.rows ≡ r = cc in rw length-append (omega (arith, x.rows));
          rows = rw length-append (omega (arith, x.rows));
          midx = x.midx;
          free = free;
        }

    pub held-other : o.object ≡ false → LastHeld (record { depths = o.depths; busy = busy; found = s.found; row = s.row; rows = s.rows + 1; midx = s.midx }) done (cur ++ (row ∷ []))
    held-other e =
        record {
          depths = depths-after;
          low = low-after;
          found = x.found;
          placed = x.placed;
          row = x.row ∙ sym (row_snoc (depths_after done) 0 None cur row ∙ rw (is-object false e));
          inside = λ r q. rw length-append (omega (arith, x.inside r q));
          rows = rw length-append (omega (arith, x.rows));
          midx = x.midx;
          free = free;
        }

    pub held-row : LastHeld (counted (record { depths = o.depths; busy = busy; found = s.found; row = s.row; rows = s.rows; midx = s.midx }) o.object) done (cur ++ (row ∷ []))
    held-row = go o.object refl
      where
        go : (t : Bool) → o.object ≡ t → LastHeld (counted (record { depths = o.depths; busy = busy; found = s.found; row = s.row; rows = s.rows; midx = s.midx }) t) done (cur ++ (row ∷ []))
        go true e = held-object e
        go false e = held-other e

  -- the measure ends, with an object row or without one
  depths-held : DepthsHeld (after_rows (depths_after (done ++ (cur ∷ []))) []) s.depths
  depths-held = subst (λ E. DepthsHeld E s.depths) (sym (ap (after_rows (λ c. 0)) (joined_snoc done cur) ∙ rows_append (λ c. 0) (joined done) cur)) x.depths

  low-held : DepthsLow (length (joined (done ++ (cur ∷ []))) + 0) s.depths
  low-held = subst (λ n. DepthsLow n s.depths) (sym (add-zero (length (joined (done ++ (cur ∷ [])))) ∙ ap length (joined_snoc done cur) ∙ length-append (joined done) cur)) x.low

  one_more : s.midx + 1 ≡ length (done ++ (cur ∷ []))
  one_more = rw length-append (omega (arith, x.midx))

  nothing-inside : (r : ℕ) → ◌≡◌ {A = Option ℕ} None (Some r) → r < 0
  nothing-inside r e = let z : ◌≡◌ {A = ℕ} 0 1 = cc in absurd (omega arith)

  no-row : (o : Option ℕ) → ((r : ℕ) → o ≡ Some r → ⊥) → o ≡ None
  no-row None f = refl
  no-row (Some r) f = absurd (f r refl)

  pub held-none : ((r : ℕ) → s.row ≡ Some r → ⊥) → LastHeld (record { depths = s.depths; busy = s.busy; found = s.found; row = None; rows = 0; midx = s.midx + 1 }) (done ++ (cur ∷ [])) []
  held-none e =
      record {
        depths = depths-held;
        low = low-held;
        found = x.found ∙ sym (measure-last done cur ∙ rw (sym x.row ∙ no-row s.row e));
        placed = x.placed;
        row = refl;
        inside = nothing-inside;
        rows = refl;
        midx = one_more;
        free = x.free;
      }

  pub held_at : (r : ℕ) → s.row ≡ Some r → s.rows < row_count_bound → s.midx ≤ measures_bound
      → LastHeld (record { depths = s.depths; busy = s.busy; found = Some (record { measure = s.midx; row = r; rows = s.rows }); row = None; rows = 0; midx = s.midx + 1 }) (done ++ (cur ∷ [])) []
  held_at r e f g =
      let inside : r < length cur = x.inside r e in
      record {
        depths = depths-held;
        low = low-held;
        found = rw (x.midx, x.rows) (sym (measure-last done cur ∙ rw (sym x.row ∙ e)));
        placed = placed_at _ (record { row = omega (arith, x.rows); rows = f; measure = g });
        row = refl;
        inside = nothing-inside;
        rows = refl;
        midx = one_more;
        free = x.free;
      }
