-- What the walk holds before the first row, and at the end of a measure.
use mathlib.Core.Path.{◌≡◌, refl, sym, ◌∙◌}
use mathlib.Core.Bool.{false}
use mathlib.Core.List.{List, [], ◌∷◌, ◌++◌}
use Prim.Native.Nat.{ℕ, ◌+◌, ◌-◌, ◌≤◌, ◌<◌}
use native.Mathlib.Omega.{arith}
use borrow.Author.Tests.{le-ltb, lt-ltb}
use lib.ListN.{get_or, replicate, get_or-replicate}
use Rattle.std.specs.Prelude.{Option, Some, None}
use Rattle.definitions.specs.Sizes.{measures_bound, row_count_bound}
use Rattle.definitions.specs.Lines.{Row}
use Rattle.beats.specs.declared.RowPlace.{RowPlace}
use Rattle.objects.proofs.LastHeld.{held-start, held-none, held_at}
use Rattle.row_notes.specs.Writer.{no_head}
use Rattle.row_notes.specs.Drafts.{step_rows}
use Rattle.row_notes.specs.Written.{Written}
use Rattle.row_notes.proofs.Rows.{none-stored}
use Rattle.tap_walk.specs.Noted.{Noted, NotedRows}
use Rattle.row_walk.specs.declared.cell_walk.Run.{Run}
use Rattle.tap_walk.specs.Held.{Rest, row_at, noting_of}
use Rattle.tap_walk.proofs.Rows.{noted-start, noted-measure}

none : (c : ℕ) → c < 10 → ◌≡◌ {A = ℕ} (get_or (replicate 10 0) c 0) 0
none c h = get_or-replicate 10 c 0 0 h

none-written : (l : List ℕ) → Written [] (record { hold_heads = replicate 10 no_head; count = 0; row_index = 0; has_invalid = false }) l
unfolding step_rows
none-written l = record { row = refl; holds = none-stored l; cells = omega arith; low = omega arith }

pub noted-new : (L : ℕ) (l : List ℕ)
    → Noted L (record {
      scratch = record { hold_heads = replicate 10 no_head; count = 0; row_index = 0; has_invalid = false };
      last = record { depths = record { depths = replicate 10 0 }; busy = 0; found = None; row = None; rows = 0; midx = 0 };
    }) l []
noted-new L l = noted-start L l _ _ (none-written l) (held-start _ (record { none = λ c h. none c h; low = λ c h. omega (arith, none c h) }))

-- a measure's end, without an object row and with one
module _ (L first : ℕ) (q : Rest) (r : Run) (above : first ≤ r.row) (few : r.row - first < row_count_bound) (least : q.midx ≤ measures_bound)
    (l : List ℕ) (done : List (List Row)) (cur : List Row) (x : NotedRows L (noting_of first q r) l done cur) where
  abbrev after : Option RowPlace → Rest
  after found = record { before = q.before; found = found; midx = q.midx + 1 }

  abbrev ended : Run
  ended = record r { last = 0 }

  same : r.row - r.row ≡ 0
  same = omega arith

  gone : row_at r.row 0 ≡ None
  gone = rw (le-ltb r.row 0 (omega arith))

  pub ended-none : r.last ≤ first → Noted L (noting_of r.row (after q.found) ended) l (done ++ (cur ∷ []))
  ended-none h =
      let none : row_at first r.last ≡ None = rw (le-ltb first r.last h) in
      let nothing : (n : ℕ) → row_at first r.last ≡ Some n → ⊥ = λ n e. let q : ◌≡◌ {A = Option ℕ} None (Some n) = sym none ∙ e in let z : ◌≡◌ {A = ℕ} 0 1 = cc in absurd (omega arith) in
      rw (same, gone) (noted-measure L _ l done cur x _ (held-none _ done cur x.last nothing) refl)

  pub ended-some : first < r.last
      → Noted L (noting_of r.row (after (Some (record { measure = q.midx; row = r.last - 1 - first; rows = r.row - first }))) ended) l (done ++ (cur ∷ []))
  ended-some h =
      let some : row_at first r.last ≡ Some (r.last - 1 - first) = rw (lt-ltb first r.last h) in
      rw (same, gone) (noted-measure L _ l done cur x _ (held_at _ done cur x.last _ some few least) refl)
