-- Specification, SM files: four claims on the charts inside one. `data-in-file`, `semicolon-last`, `blocks-apart` and `least-refused` in
-- proofs/SmBlocks.antt prove them.
use Rattle.std.specs.Prelude.{◌≡◌, List, ◌++◌, ℕ, ◌+◌, ◌≤◌, ◌<◌, length, take, drop, slice_index}
use Rattle.definitions.specs.Sizes.{most_bytes}
use Rattle.definitions.specs.SmFile.{block_end, blocks, sm_tag, sm_data, sm_start, sm_number}

-- "the file is what stands before a block's data, the data, and what follows it", and the data ends within the file
pub record DataPart (file : List ℕ) (k : ℕ) : Type 0 where
  pub parts : file ≡ take (sm_start file k) file ++ (sm_data file k ++ drop (sm_start file k + length (sm_data file k)) file)
  pub within : sm_start file k + length (sm_data file k) ≤ length file

-- for every file and every k, accepted or refused
unfoldable pub DataInFile : Type 0
DataInFile = (file : List ℕ) (k : ℕ) → DataPart file k

-- "the data holds a `;` at most as its last byte": where another byte of the data follows, none stands
unfoldable pub SemicolonLast : Type 0
SemicolonLast = (file : List ℕ) (k i : ℕ) → i + 1 < length (sm_data file k) → slice_index (sm_data file k) i ≡ 59 → ⊥

-- "blocks stand apart, in rising order, and within the file": each starts before it ends, ends within the file, and ends before any later one starts
pub record Apart (file : List ℕ) : Type 0 where
  pub nonempty : (i : ℕ) → i < length (blocks file) → (sm_tag file i).line < block_end file (sm_tag file i)
  pub within : (i : ℕ) → i < length (blocks file) → block_end file (sm_tag file i) ≤ length file
  pub rising : (i j : ℕ) → i < j → j < length (blocks file) → block_end file (sm_tag file i) ≤ (sm_tag file j).line

-- for every file
unfoldable pub BlocksApart : Type 0
BlocksApart = (file : List ℕ) → Apart file

-- "of a file that is not refused with 1, the number of blocks is the least k that is answered 11, and from there on every k is"
pub record Least (file : List ℕ) : Type 0 where
  pub answered : (k : ℕ) → length (blocks file) ≤ k → sm_number file k ≡ 11
  pub least : (k : ℕ) → sm_number file k ≡ 11 → length (blocks file) ≤ k

-- for every such file
unfoldable pub LeastRefused : Type 0
LeastRefused = (file : List ℕ) → length file ≤ most_bytes → Least file
