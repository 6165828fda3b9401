-- Specification, Calls and Figures: for every input what each call answers, a refusal or its value, and the places of its value among the 32 figures.
-- The entries callable from outside return the number told, 0 for accepted, and put the value in the figures. "`data` is the text and `lanes` the
-- caller's lane number": here `text` and L; the lists named after slices are what those held before the call, and what a call leaves in each is
-- `leaves` of its answer. The entry that is lent a file is in SmFile.antt, and the one that is lent a trace in Presses.antt.
use Rattle.std.specs.Prelude.{List, [], ◌∷◌, ◌++◌, ℕ, ◌/◌, nat_lt, Float, length, replicate, Result}
use Rattle.std.specs.Float.{binary64}
use Rattle.std.specs.Float.Ieee.{to_bits}
use Rattle.definitions.specs.Lists.{number_of_bool, joined}
use Rattle.definitions.specs.Refusals.{refused_if, other_lanes, long_text, short_text, short_measures, short_beats, short_work, short_notes, answered}
use Rattle.definitions.specs.Reduction.{minimised}
use Rattle.definitions.specs.Figures.{minimised_text}
use Rattle.definitions.specs.Objects.{last48, last_beat_of}
use Rattle.definitions.specs.Notes.{notes}
use Rattle.definitions.specs.Records.{number_of_tail, number_of_kind}
use Rattle.definitions.specs.Dropped.{dropped_heads}
use Rattle.definitions.specs.ReadBack.{main_tally, kept_tally}
use Rattle.definitions.specs.Tally.{tally_figures}
use Rattle.definitions.specs.Judged.{judged_tally, flagged_tally}
use Rattle.definitions.specs.TimingRows.{timing_rows, timing_heads}
use Rattle.definitions.specs.Written.{written_length, sum_of, notes_in, uneven_records, broken_records, out_of_order, some_meet, other_counts}
use Rattle.definitions.specs.declared.ArrowStats.{ArrowStats}
use Rattle.definitions.specs.declared.ChartFigures.{ChartFigures}
use Rattle.definitions.specs.declared.KeptFigures.{KeptFigures}
use Rattle.definitions.specs.declared.DroppedFigures.{DroppedFigures}
use Rattle.definitions.specs.declared.TimingFigures.{TimingFigures}
use Rattle.definitions.specs.declared.LastBeat.{LastBeat}
use Rattle.definitions.specs.declared.WrittenFigures.{WrittenFigures}
use Rattle.definitions.specs.declared.Refusal.{Refusal}
use Rattle.definitions.specs.declared.Refusal.TheVariants.{ShortText, NoRecord, BadRecord, OutOfOrder, NotesMeet, OtherCounts}
use Rattle.definitions.specs.declared.Note.{Note}

-- the places of the tally in a call that answers none: "An accepted call sets each place that it does not answer to 0."
abbrev pub no_tally : List ℕ
no_tally = replicate 17 0

-- The 32 figures. Places 0 to 7: "bytes in the text slice", "measures", "minimised rows", "note records", "the last beat, the bits of its float", "1
-- where a timing row has a 2 or 4, else 0", "the last beat in 48ths" and "bytes of the sheet"; from place 8 on "the tally, its fields in their
-- order", and zeros.
abbrev pub figures : ℕ → ℕ → ℕ → ℕ → ℕ → ℕ → ℕ → List ℕ → List ℕ
figures bytes measures rows records bits_of_last_beat heads last tally =
    bytes ∷ measures ∷ rows ∷ records ∷ bits_of_last_beat ∷ heads ∷ last ∷ 0 ∷ (tally ++ replicate 7 0)

-- how many measures a text has
abbrev pub measure_count : ℕ → List ℕ → ℕ
measure_count L text = length (minimised L text)

-- how many minimised rows a text has
abbrev pub row_count : ℕ → List ℕ → ℕ
row_count L text = length (joined (minimised L text))

-- the bits of a text's last beat
abbrev pub bits_of_last_beat : ℕ → List ℕ → ℕ
bits_of_last_beat L text = to_bits binary64 (last_beat_of L text)

-- minimize_chart_count_rows_notes, the main call, of an accepted text at L lanes: "minimised text, densities, row beats, note records, main tally,
-- last beat"; its value,
unfoldable pub figures_of_chart : ℕ → List ℕ → ChartFigures
figures_of_chart L text =
    record {
      bytes = length (minimised_text L text);
      measures = measure_count L text;
      rows = row_count L text;
      notes = length (notes L text);
      last_bits = bits_of_last_beat L text;
      last_row = last48 L text;
      stats = main_tally L text;
    }

-- and its places among the figures
abbrev pub places_of_chart : ChartFigures → List ℕ
places_of_chart f = figures f.bytes f.measures f.rows f.notes f.last_bits 0 f.last_row (tally_figures f.stats)

module _ (L : ℕ) (text out densities₀ : List ℕ) (beats₀ : List Float) (work notes₀ : List ℕ) where
  -- what the call answers; its refusals, in their order: "12 1 2 3 4 5 6"
  unfoldable pub main_answer : Result ChartFigures Refusal
  main_answer =
      answered
      (other_lanes L
      ∷ long_text (length text)
      ∷ short_text (length text) (length out)
      ∷ short_measures (length text) (length densities₀)
      ∷ short_beats L (length text) (length beats₀)
      ∷ short_work L (length text) (length work)
      ∷ short_notes L (length text) (length notes₀)
      ∷ [])
      (figures_of_chart L text)

-- process_chart_kept, the kept-row call: "minimised text, densities, kept tally"; its value, and its places
unfoldable pub figures_of_kept : ℕ → List ℕ → KeptFigures
figures_of_kept L text =
    record {
      bytes = length (minimised_text L text);
      measures = measure_count L text;
      rows = row_count L text;
      stats = kept_tally L text;
    }

abbrev pub places_of_kept : KeptFigures → List ℕ
places_of_kept f = figures f.bytes f.measures f.rows 0 0 0 0 (tally_figures f.stats)

module _ (L : ℕ) (text out densities₀ work : List ℕ) where
  -- what the call answers; its refusals: "12 1 2 3 5"
  unfoldable pub kept_answer : Result KeptFigures Refusal
  kept_answer =
      answered
      (other_lanes L
      ∷ long_text (length text)
      ∷ short_text (length text) (length out)
      ∷ short_measures (length text) (length densities₀)
      ∷ short_work L (length text) (length work)
      ∷ [])
      (figures_of_kept L text)

-- dropped_holds: its value, and its places
unfoldable pub figures_of_dropped : ℕ → List ℕ → DroppedFigures
figures_of_dropped L text =
    record {
      bytes = length (minimised_text L text);
      measures = measure_count L text;
      rows = row_count L text;
      heads = length (dropped_heads L text);
    }

abbrev pub places_of_dropped : DroppedFigures → List ℕ
places_of_dropped f = figures f.bytes f.measures f.rows f.heads 0 0 0 no_tally

module _ (L : ℕ) (text out list : List ℕ) where
  -- what the call answers; 6: "the note slice, for note records or for the list, is shorter than 10 × L × R"
  unfoldable pub dropped_answer : Result DroppedFigures Refusal
  dropped_answer =
      answered
      (other_lanes L
      ∷ long_text (length text)
      ∷ short_text (length text) (length out)
      ∷ short_notes L (length text) (length list)
      ∷ [])
      (figures_of_dropped L text)

-- minimize_timing_rows: "timing rows, row beats, heads figure"; its value, and its places
unfoldable pub figures_of_timing : ℕ → List ℕ → TimingFigures
figures_of_timing L text =
    record {
      bytes = length (timing_rows L text);
      rows = row_count L text;
      heads = timing_heads L text;
    }

abbrev pub places_of_timing : TimingFigures → List ℕ
places_of_timing f = figures f.bytes 0 f.rows 0 0 (number_of_bool f.heads) 0 no_tally

module _ (L : ℕ) (text out : List ℕ) (beats₀ : List Float) where
  -- what the call answers; its refusals: "12 1 2 4"
  unfoldable pub timing_answer : Result TimingFigures Refusal
  timing_answer =
      answered
      (other_lanes L
      ∷ long_text (length text)
      ∷ short_text (length text) (length out)
      ∷ short_beats L (length text) (length beats₀)
      ∷ [])
      (figures_of_timing L text)

-- measure_densities and equally_spaced: how many measures there are, and its place
abbrev pub places_of_measures : ℕ → List ℕ
places_of_measures n = figures 0 n 0 0 0 0 0 no_tally

module _ (L : ℕ) (text slice : List ℕ) where
  -- what either call answers; its refusals: "12 1 3"
  unfoldable pub measures_answer : Result ℕ Refusal
  measures_answer = answered (other_lanes L ∷ long_text (length text) ∷ short_measures (length text) (length slice) ∷ []) (measure_count L text)

-- chart_last_beat: its value, and its places
unfoldable pub figures_of_last : ℕ → List ℕ → LastBeat
figures_of_last L text =
    record {
      beat = last_beat_of L text;
      bits = bits_of_last_beat L text;
      row = last48 L text;
    }

abbrev pub places_of_last : LastBeat → List ℕ
places_of_last f = figures 0 0 0 0 f.bits 0 f.row no_tally

-- what the call answers; its refusals: "12 1"
unfoldable pub last_answer : ℕ → List ℕ → Result LastBeat Refusal
last_answer L text = answered (other_lanes L ∷ long_text (length text) ∷ []) (figures_of_last L text)

-- process_rows_judgable and process_timing_rows: a tally, and its places
abbrev pub places_of_judged : ArrowStats → List ℕ
places_of_judged t = figures 0 0 0 0 0 0 0 (tally_figures t)

module _ (L : ℕ) (text work : List ℕ) where
  -- What either answers, with this tally of an accepted text; its refusals: "12 1 5". "The judged tallies read `data` as it stands."
  unfoldable pub judged_checked : ArrowStats → Result ArrowStats Refusal
  judged_checked t = answered (other_lanes L ∷ long_text (length text) ∷ short_work L (length text) (length work) ∷ []) t

  -- what `process_rows_judgable` answers: "judged tally"
  abbrev pub judged_answer : Result ArrowStats Refusal
  judged_answer = judged_checked (judged_tally L text)

  -- what `process_timing_rows` answers, with these flags: "judged tally by flags"
  abbrev pub flagged_answer : List ℕ → Result ArrowStats Refusal
  flagged_answer flags = judged_checked (flagged_tally L flags text)

-- notes_to_chart, of records s and row counts: its value, and its places
unfoldable pub figures_of_written : ℕ → List ℕ → List ℕ → WrittenFigures
figures_of_written L s counts =
    record {
      bytes = written_length L counts;
      measures = length counts;
      rows = sum_of counts;
      records = length s / 10;
    }

abbrev pub places_of_written : WrittenFigures → List ℕ
places_of_written f = figures f.bytes f.measures f.rows f.records 0 0 0 no_tally

module _ (L : ℕ) (s counts out : List ℕ) where
  -- What the call answers; its refusals: "12 1 7 8 13 14 15 2". 1: "of `notes_to_chart` the length of the text to be written"; 2: "of
  -- `notes_to_chart` shorter than that text"
  unfoldable pub written_answer : Result WrittenFigures Refusal
  written_answer =
      answered
      (other_lanes L
      ∷ long_text (written_length L counts)
      ∷ refused_if (uneven_records s) NoRecord
      ∷ refused_if (broken_records s) BadRecord
      ∷ refused_if (out_of_order L (notes_in s)) OutOfOrder
      ∷ refused_if (some_meet (notes_in s)) NotesMeet
      ∷ refused_if (other_counts L (notes_in s) counts) OtherCounts
      ∷ refused_if (nat_lt (length out) (written_length L counts)) ShortText
      ∷ [])
      (figures_of_written L s counts)

-- read_note: the four places of a note, "row, tail row or 4,294,967,295, column, kind". What it answers is in Records.antt.
abbrev pub figures_of_note : Note → List ℕ
figures_of_note n = n.row ∷ number_of_tail n.tail ∷ n.column ∷ number_of_kind n.kind ∷ []
