-- Specification, SM files. What is answered for block k of a file: a refusal's number, or the lane count and the data as a
-- part of the file. 58 is `:` and 59 `;`.
use Rattle.std.specs.Prelude.{Bool, if◌then◌else◌, ◌&&◌, List, [], ◌∷◌, ◌++◌, ℕ, ◌+◌, ◌-◌, ◌==◌, nat_eq, nat_le, nat_lt, length, drop, slice_index_or, codes, bytes_eq, Option, Some, None, is_none, unwrap_or, Result, count_by}
use Rattle.std.specs.List.{starts_with}
use Rattle.definitions.specs.Lists.{only_if, up_to, through, after_each}
use Rattle.definitions.specs.Lines.{cut, is_blank_byte, trim}
use Rattle.definitions.specs.Refusals.{refused_if, long_text, answered, number_told}
use Rattle.definitions.specs.declared.Refusal.{Refusal}
use Rattle.definitions.specs.declared.Refusal.TheVariants.{FewFields, OtherType, NoChart}

-- A tag with which a line begins, after blanks: where its line begins in the file, and the place just past the tag.
pub record Tag : Type 0 where
  pub line : ℕ
  pub end : ℕ

-- A chart inside a file: its lane count, where its data begins in the file, and the data.
pub record SmPart : Type 0 where
  pub lanes : ℕ
  pub start : ℕ
  pub part : List ℕ

-- its three places: "lane count, where the data begins in the file, its length"
abbrev pub places_of_part : SmPart → List ℕ
places_of_part c = c.lanes ∷ c.start ∷ length c.part ∷ []

-- a byte in front of a list whose blanks at the end are off
abbrev pub before_trimmed : ℕ → List ℕ → List ℕ
before_trimmed b [] = if is_blank_byte b then [] else (b ∷ [])
before_trimmed b (x ∷ s) = b ∷ x ∷ s

-- a list without the blanks at its end
abbrev pub without_end_blanks : List ℕ → List ℕ
without_end_blanks [] = []
without_end_blanks (b ∷ s) = before_trimmed b (without_end_blanks s)

-- whether a line begins with a tag: "A tag is a word with which a line begins, past its blanks"
unfoldable pub is_tagged : List ℕ → List ℕ → Bool
is_tagged word line = starts_with nat_eq (trim line) word

-- the tag of such a line that starts at `at`
unfoldable pub tag_of : List ℕ → ℕ → List ℕ → Tag
tag_of word at line = record { line = at; end = at + (length line - length (trim line)) + length word }

-- "`#NOTES:`"
unfoldable pub notes_tag : List ℕ
notes_tag = codes "#NOTES:"

-- What stands after a block's tag in the block. "A block runs through the first `;` after its tag, or to the end of the file where none follows."
unfoldable pub block_text : List ℕ → Tag → List ℕ
block_text file t = through 59 (drop t.end file)

-- the place just past a block
unfoldable pub block_end : List ℕ → Tag → ℕ
block_end file t = t.end + length (block_text file t)

-- "A block starts at the first byte of a line that begins with the tag `#NOTES:`, unless that byte stands in an earlier block": whether one starts at
-- the line that begins at `at`, where the blocks before it end at `past`. "So a line that begins inside a block starts none, even where the block
-- ends on it."
unfoldable pub starts_block : ℕ → ℕ → List ℕ → Bool
starts_block past at line = nat_le past at && is_tagged notes_tag line

-- the blocks, by their tags, that start at these lines, the first of which begins at `at`
unfoldable pub blocks_from : List ℕ → ℕ → ℕ → List (List ℕ) → List Tag
blocks_from file past at [] = []
blocks_from file past at (line ∷ lines) =
    only_if (starts_block past at line) (tag_of notes_tag at line ∷ [])
    ++ blocks_from file (if starts_block past at line then block_end file (tag_of notes_tag at line) else past) (at + length line + 1) lines

-- the blocks of a file
unfoldable pub blocks : List ℕ → List Tag
blocks file = blocks_from file 0 0 (cut file)

-- How many `:` stand in a block after its tag. "Comments are not known here: `;` and `:` count wherever they stand after the tag."
unfoldable pub colons : List ℕ → ℕ
colons text = count_by (λ b. b == 58) text

-- "Five fields follow the tag, each ended by a `:` of the block." "The data is what follows the fifth `:` in the block, its `;` included where there
-- is one."
unfoldable pub data_of : List ℕ → List ℕ
data_of text = after_each 58 5 text

-- "The type is the first field without the blanks at its start and end."
unfoldable pub type_of : List ℕ → List ℕ
type_of text = without_end_blanks (trim (up_to 58 text))

-- the table of types; "Every other name, told byte by byte, is another type" and has none
unfoldable pub lanes_of_type : List ℕ → Option ℕ
lanes_of_type name =
    if bytes_eq name (codes "dance-single") then Some 4
    else if bytes_eq name (codes "pump-single") then Some 5
    else if bytes_eq name (codes "dance-solo") then Some 6
    else if bytes_eq name (codes "dance-double") then Some 8
    else if bytes_eq name (codes "pump-double") then Some 10
    else None

-- "Asked for block k, the answer is its lane count and its data, a part of the caller's file."
module _ (file : List ℕ) (k : ℕ) where
  -- the block's tag
  unfoldable pub sm_tag : Tag
  sm_tag = slice_index_or (blocks file) k (record { line = 0; end = 0 })

  -- what stands after it in the block
  unfoldable pub sm_text : List ℕ
  sm_text = block_text file sm_tag

  -- the lane count, where the type has one
  unfoldable pub sm_lanes : Option ℕ
  sm_lanes = lanes_of_type (type_of sm_text)

  -- The data. "What a call makes of the data is what it makes of any text: a `;` ends the reading as the first byte of a line, blanks off, and
  -- nowhere else."
  unfoldable pub sm_data : List ℕ
  sm_data = data_of sm_text

  -- where the data begins in the file: it runs to the block's end
  unfoldable pub sm_start : ℕ
  sm_start = sm_tag.end + (length sm_text - length sm_data)

  -- The checks. "the block has fewer than five `:` after its tag" (9), "the block's type is not in the table of types" (10), "k is not below the
  -- number of blocks" (11). "The refusals are looked at in the order 1, 11, 9, 10."
  abbrev pub sm_checks : List (Result Unit Refusal)
  sm_checks =
      long_text (length file)
      ∷ refused_if (nat_le (length (blocks file)) k) NoChart
      ∷ refused_if (nat_lt (colons sm_text) 5) FewFields
      ∷ refused_if (is_none sm_lanes) OtherType
      ∷ []

  -- "the answer is its lane count and its data, a part of the caller's file"
  abbrev pub sm_part : SmPart
  sm_part = record { lanes = unwrap_or sm_lanes 0; start = sm_start; part = sm_data }

  -- what the call answers
  unfoldable pub sm_answer : Result SmPart Refusal
  sm_answer = answered sm_checks sm_part

  -- the number that is returned outside
  abbrev pub sm_number : ℕ
  sm_number = number_told sm_answer
