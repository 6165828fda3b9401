-- Specification, Calls, Refusals and Figures: the call that writes a chart's sheet, for every input what it answers, a refusal or the 32 figures.
-- Refusals 12 and 1 to 6 are those of other calls, 19 and 20 are this call's.
use Rattle.std.specs.Prelude.{List, [], ◌∷◌, ℕ, ◌+◌, ◌*◌, nat_lt, Float, length, set, Result}
use Rattle.definitions.specs.Refusals.{refused_if, other_lanes, long_text, short_text, short_measures, short_beats, short_work, short_notes, answered}
use Rattle.definitions.specs.Entries.{figures_of_chart, places_of_chart}
use Rattle.definitions.specs.declared.Refusal.{Refusal}
use Rattle.definitions.specs.declared.Refusal.TheVariants.{ShortSheet, OtherForm}
use Rattle.chart_sheet.specs.Forms.{sheet_in_form}

-- "Every form of every accepted text has room in 42 × (len + 1) + 3,000 bytes."
abbrev pub most_sheet_bytes : ℕ → ℕ
most_sheet_bytes len = 42 * (len + 1) + 3000

-- 19: "the sheet slice is shorter than 42 × (len + 1) + 3,000"
unfoldable pub short_sheet : ℕ → ℕ → Result Unit Refusal
short_sheet len room = refused_if (nat_lt room (most_sheet_bytes len)) ShortSheet

-- 20: "the form is over 2"
unfoldable pub other_form : ℕ → Result Unit Refusal
other_form form = refused_if (nat_lt 2 form) OtherForm

-- the figures of an accepted text: those of the main call, and in place 7 the "bytes of the sheet"
abbrev pub places_of_sheet : ℕ → ℕ → List ℕ → List ℕ
places_of_sheet form L text = set (places_of_chart (figures_of_chart L text)) 7 (length (sheet_in_form form L text))

module _ (L form : ℕ) (text out densities₀ spacing₀ : List ℕ) (beats₀ : List Float) (work notes₀ sheet₀ : List ℕ) where
  -- What the call answers, where the lists named after slices are what those held before. Its refusals, in their order: "12 1 2 3 3 4 5 6 19 20".
  unfoldable pub sheet_answer : Result (List ℕ) Refusal
  sheet_answer =
      answered
      (other_lanes L
      ∷ long_text (length text)
      ∷ short_text (length text) (length out)
      ∷ short_measures (length text) (length densities₀)
      ∷ short_measures (length text) (length spacing₀)
      ∷ short_beats L (length text) (length beats₀)
      ∷ short_work L (length text) (length work)
      ∷ short_notes L (length text) (length notes₀)
      ∷ short_sheet (length text) (length sheet₀)
      ∷ other_form form
      ∷ [])
      (places_of_sheet form L text)
