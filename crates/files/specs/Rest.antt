-- How the charts of a file are found one after the other: what follows the line on which its first block ends is a file that has the other
-- blocks, each with the same answer. `rest-answered` in proofs/Rest.antt proves it, and `rest-in_order` what a reader expects of it.
use Rattle.std.specs.Prelude.{◌≡◌, List, ◌∷◌, map, ℕ, suc, ◌+◌, ◌≤◌, ◌<◌, nat_lt, if◌then◌else◌, length, drop, Option, Some, None}
use Rattle.std.specs.List.{range_with_len}
use Rattle.definitions.specs.Sizes.{most_bytes}
use Rattle.definitions.specs.SmFile.{blocks, sm_tag, sm_lanes, sm_data, sm_start, sm_number}
use Rattle.files.specs.Sm.{line_past_block}

-- The chart of a block: its lane count, if its type has one, where its data begins, and the data.
pub record BlockChart : Type 0 where
  pub lanes : Option ℕ
  pub start : ℕ
  pub part : List ℕ

-- the chart of block k of a file that begins p bytes into another: where its data begins in that one
abbrev pub chart_from : ℕ → List ℕ → ℕ → BlockChart
chart_from p file k = record { lanes = sm_lanes file k; start = p + sm_start file k; part = sm_data file k }

-- What is answered for a block: the number, and the chart where there is such a block.
pub record BlockAnswer : Type 0 where
  pub number : ℕ
  pub chart : Option BlockChart

-- of block k of a file that begins p bytes into another
abbrev pub answer_from : ℕ → List ℕ → ℕ → BlockAnswer
answer_from p file k = record { number = sm_number file k; chart = if nat_lt k (length (blocks file)) then Some (chart_from p file k) else None }

-- For every file that is not refused for its length and has a block: the answer for block k of what follows is that for the next block of the
-- whole, its data at the same place of the whole.
unfoldable pub RestAnswered : Type 0
RestAnswered =
    (file : List ℕ)
    → length file ≤ most_bytes
    → 0 < length (blocks file)
    → (k : ℕ) → let p = line_past_block file (sm_tag file 0) in answer_from p (drop p file) k ≡ answer_from 0 file (suc k)

-- what f says of each block of a file, in their order
abbrev pub each_block : {A : Type 0} → (List ℕ → ℕ → A) → List ℕ → List A
each_block f file = map (f file) (range_with_len 0 (length (blocks file)))

-- a file has one block more than what follows its first one, and its numbers, lane counts, data and places of data are those of that block and then
-- those of what follows, whose places are told in the whole
unfoldable pub RestInOrder : Type 0
RestInOrder =
    (file : List ℕ)
    → length file ≤ most_bytes
    → 0 < length (blocks file)
    → let p = line_past_block file (sm_tag file 0) in
    (length (blocks file) ≡ suc (length (blocks (drop p file))))
    × (each_block sm_number file ≡ sm_number file 0 ∷ each_block sm_number (drop p file))
    × (each_block sm_lanes file ≡ sm_lanes file 0 ∷ each_block sm_lanes (drop p file))
    × (each_block sm_data file ≡ sm_data file 0 ∷ each_block sm_data (drop p file))
    × (each_block sm_start file ≡ sm_start file 0 ∷ each_block (λ rest k. p + sm_start rest k) (drop p file))
