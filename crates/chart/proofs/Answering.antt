-- From the pass over a whole text to what the main call answers.
use mathlib.Core.Path.{◌≡◌, refl, ap, ◌∙◌, subst}
use mathlib.Core.List.{List, append-nil}
use Prim.Native.Nat.{ℕ, ◌+◌, ◌≤◌}
use native.Mathlib.Omega.{arith}
use lib.Ieee.{Float, binary64, to_bits}
use lib.ListN.{length, take}
use Rattle.definitions.specs.Lists.{joined, padded}
use Rattle.definitions.specs.Lanes.{most_rows_in}
use Rattle.definitions.specs.Lines.{Row}
use Rattle.definitions.specs.Reduction.{minimised}
use Rattle.definitions.specs.Beats.{f32, row_to_beat, beats as beats_of}
use Rattle.definitions.specs.Objects.{place48, last_object, last48, last_beat_of}
use Rattle.definitions.specs.Notes.{notes}
use Rattle.definitions.specs.Records.{records}
use Rattle.definitions.specs.ReadBack.{main_tally}
use Rattle.definitions.specs.Entries.{figures_of_chart}
use Rattle.definitions.specs.declared.ArrowStats.{ArrowStats}
use Rattle.beats.specs.Places.{place_of}
use Rattle.row_notes.specs.Written.{Written, Finished}
use Rattle.slices.specs.Zeroed.{zeroed}
use Rattle.slices.proofs.Zeroed.{zeroed-answer}
use Rattle.definitions.specs.declared.ChartFigures.{ChartFigures}
use Rattle.definitions.proofs.ChartRows.{minimised-rows-few}
use Rattle.kept_pass.specs.Kept.{KeptAll}
use Rattle.kept_pass.proofs.Answering.{all-bytes}
use Rattle.tap_walk.specs.Noted.{Noted}
use Rattle.measure_walk.specs.declared.Walk.{Walk}
use Rattle.measure_walk.specs.Views.{noting}
use Rattle.chart_pass.specs.declared.Minimised.{Minimised}
use Rattle.chart_pass.specs.ChartPass.{kept_of}

module _ (w : Walk) {L : ℕ} {data-text : List ℕ} {p : Minimised} {text densities : List ℕ} (kept : KeptAll L data-text (kept_of w p) text densities) where
  pub rows-most : 1 ≤ L → w.run.row ≤ most_rows_in L (length data-text)
  rows-most l = omega (arith, kept.rows, minimised-rows-few L data-text l)

  pub all-beats : 1 ≤ L → (beats : List Float) → take w.run.row beats ≡ beats_of L data-text → (n : ℕ) → length beats ≡ n → most_rows_in L (length data-text) ≤ n
      → zeroed (f32 0) w.run.row beats ≡ padded (f32 0) n (beats_of L data-text)
  all-beats l beats e n size h =
      zeroed-answer (f32 0) beats w.run.row n (λ L. beats_of L data-text) refl size (omega (arith, rows-most l, size, h)) e

  pub all-figures : length data-text + 1 ≤ length text → {stats : ArrowStats} {count bits row last : ℕ} → stats ≡ main_tally L data-text
      → count ≡ length (notes L data-text) → last ≡ last48 L data-text → bits ≡ to_bits binary64 (row_to_beat last) → row ≡ last
      → record { bytes = p.bytes; measures = p.measures; rows = w.run.row; notes = count; last_bits = bits; last_row = row; stats = stats } ≡ figures_of_chart L data-text
  unfolding figures_of_chart last_beat_of
  all-figures room es ec el eb er =
      made (all-bytes _ _ _ _ _ kept room) kept.measures kept.rows ec
      (eb ∙ ap (λ n. to_bits binary64 (row_to_beat n)) el)
      (er ∙ el) es
    where
      made : {a₁ a₂ b₁ b₂ c₁ c₂ d₁ d₂ e₁ e₂ f₁ f₂ : ℕ} {s t : ArrowStats} → a₁ ≡ a₂ → b₁ ≡ b₂ → c₁ ≡ c₂ → d₁ ≡ d₂ → e₁ ≡ e₂ → f₁ ≡ f₂ → s ≡ t
          → ◌≡◌ {A = ChartFigures} (record { bytes = a₁; measures = b₁; rows = c₁; notes = d₁; last_bits = e₁; last_row = f₁; stats = s })
          (record { bytes = a₂; measures = b₂; rows = c₂; notes = d₂; last_bits = e₂; last_row = f₂; stats = t })
      made p q r s t u v = cc

module _ (w : Walk) (data-text : List ℕ) {L : ℕ} {slots : List ℕ} (noted : Noted L (noting w) slots (minimised L data-text)) where
  written : Written (joined (minimised L data-text)) (noting w).scratch slots
  written = subst (λ rs. Written rs (noting w).scratch slots) (append-nil (joined (minimised L data-text))) noted.written

  -- the last object row is that of the definition
  pub found-48 : place48 (place_of w.found) ≡ last48 L data-text
  unfolding last48 last_object
  found-48 = ap place48 noted.last.found

  module _ (n : ℕ) (after : List ℕ) (r : ℕ) (f : (rows : List Row) → Written rows (noting w).scratch slots → Finished rows n after r) where
    finished : Finished (joined (minimised L data-text)) n after r
    finished = f (joined (minimised L data-text)) written

    pub all-notes : after ≡ padded 0 n (records (notes L data-text))
    unfolding notes
    all-notes = finished.bytes

    pub note-count : r ≡ length (notes L data-text)
    unfolding notes
    note-count = finished.count
