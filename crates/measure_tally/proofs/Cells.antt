-- One cell: what it leaves of the columns' mask, by the match over its letter, and how large the counts are.
use mathlib.Core.Path.{◌≡◌, refl, ap, sym, ◌∙◌}
use mathlib.Core.Bool.{Bool, false}
use Prim.Native.Nat.{ℕ, ◌+◌}
use native.Mathlib.Decide.{ℕ_discrete}
use Rattle.definitions.specs.Cells.{cell_of, hold_effect}
use Rattle.definitions.specs.Tracker.{hold_at}
use Rattle.definitions.specs.Tally.{direction}
use Rattle.definitions.specs.Correction.{phantom_step}
use Rattle.definitions.specs.declared.ArrowStats.{ArrowStats}
use Rattle.definitions.specs.declared.Cell.{Cell}
use Rattle.definitions.specs.declared.Cell.TheVariants.{Empty}
use Rattle.definitions.specs.declared.DepthEffect.{DepthEffect}
use Rattle.definitions.specs.declared.DepthEffect.TheVariants.{Nothing}
use Rattle.taps.specs.Taps.{FreeAre, Marked}
use Rattle.taps.proofs.Marks.{free-marked}
use Rattle.phantoms.specs.Phantoms.{phantom_at, Low, with_effect}
use Rattle.phantoms.specs.declared.Phantoms.{Phantoms}
use Rattle.phantoms.proofs.Effects.{effect-none, effect-others, effect-zero, effect-low}
use Rattle.row_tally.specs.Bounds.{Below}
use Rattle.row_tally.proofs.Raised.{cell-none, cell-below}
use Rattle.measure_tally.specs.declared.Counting.{Counting}
use Rattle.measure_tally.specs.Cells.{EffectDone, CellCounted, with_cell}

module _ (busy : ℕ) (p : Phantoms) (c : ℕ) (e : DepthEffect) (free : FreeAre busy 0 p.depths) where
  -- the column's bit is as told, and where it has none the depth is 0 now
  pub free-put : (r : ℕ) (used : Bool) → Marked busy c used r → (used ≡ false → phantom_at (with_effect p c e) c ≡ 0) → FreeAre r 0 (with_effect p c e).depths
  free-put r used M h = free-marked busy c r used 0 p.depths (with_effect p c e).depths M h (effect-others p c e) free

  -- the mask stays, since the effect leaves the depth 0 as it is
  pub free-zero : phantom_step e 0 ≡ 0 → FreeAre busy 0 (with_effect p c e).depths
  free-zero z d k b =
      elim (ℕ_discrete d c) [
        | yes q ↦ rw q (effect-zero p c e z (free c (rw q at k) (rw q at b)))
        | no n ↦ effect-others p c e d n ∙ free d k b
      ]

-- a cell by what its letter does

pub cell-counted : (columns c b : ℕ) (k m r : Counting) (x : Cell) → cell_of b ≡ x → EffectDone c (hold_effect x) k m → r ≡ with_cell m columns c x
    → CellCounted columns c b k r
unfolding hold_at
cell-counted columns c b k m r x e w v =
    rw v
    (record {
      phantoms = w.phantoms ∙ ap (λ z. with_effect k.phantoms c (hold_effect z)) (sym e);
      stats = rw (e, w.stats);
      rows = w.rows;
      before = w.before;
      free = w.free;
    })

-- a cell that leaves its column's depth
pub cell-unheld : (columns c b : ℕ) (k r : Counting) (x : Cell) → cell_of b ≡ x → hold_effect x ≡ Nothing → r ≡ with_cell k columns c x
    → CellCounted columns c b k r
cell-unheld columns c b k r x e z v =
    cell-counted columns c b k k r x e
    (record { phantoms = rw z (sym (effect-none k.phantoms c)); stats = refl; rows = refl; before = refl; free = λ q. q }) v

-- an empty cell changes nothing
pub cell-empty : (columns c b : ℕ) (k : Counting) → cell_of b ≡ Empty → CellCounted columns c b k k
cell-empty columns c b k e =
    cell-unheld columns c b k k Empty e refl (ap (λ (t : ArrowStats). record k { stats = t }) (sym (cell-none k.stats false (direction columns c))))

-- a cell adds at most 1 to each count
module _ (columns c b n : ℕ) (k r : Counting) (w : CellCounted columns c b k r) where
  pub cell-few : Below n k.stats → Below (n + 1) r.stats
  cell-few h = rw w.stats (cell-below n k.stats false (direction columns c) (cell_of b) h)

  pub cell-low : Low n k.phantoms → Low (n + 1) r.phantoms
  cell-low h = rw w.phantoms (effect-low k.phantoms c (hold_at b) n h)
