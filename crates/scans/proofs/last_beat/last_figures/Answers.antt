-- `last_beat::last_figures` meets its contract: the last object row found among the raw rows has the last beat of the definitions.
use mathlib.Core.Path.{◌≡◌, ap, ◌∙◌}
use Prim.Native.Nat.{ℕ}
use lib.Ieee.{Float, binary64, to_bits}
use Rattle.definitions.specs.Beats.{row_to_beat}
use Rattle.definitions.specs.Objects.{last_beat_of}
use Rattle.definitions.specs.Entries.{figures_of_last}
use Rattle.definitions.specs.declared.LastBeat.{LastBeat}
use Rattle.scans.proofs.Looking.{looked-48}
use Rattle.scans.proofs.last_beat.last_figures.Goals as goal

made : {a b : Float} {c d e f : ℕ} → a ≡ b → c ≡ d → e ≡ f → ◌≡◌ {A = LastBeat} (record { beat = a; bits = c; row = e }) (record { beat = b; bits = d; row = f })
made p q r = cc

pub returns : goal.returns
unfolding figures_of_last last_beat_of
returns c =
    let row = looked-48 c.args.lanes.count c.args.«data».now _ c.scan_last-last.ensures.placed c.scan_last-last.ensures.value in
    made
    (c.calc_last_beat.ensures ∙ ap row_to_beat row)
    (c.last_beat_bits.ensures ∙ ap (λ n. to_bits binary64 (row_to_beat n)) row)
    (c.last_note_row.ensures.value ∙ row)
