-- What the functions for SM files answer, by the definitions of what a block and its chart are.
use Rattle.std.specs.Prelude.{if◌then◌else◌, List, map, ℕ, ◌+◌, nat_lt, length, drop, Option, Some, None, Result, Ok, Err}
use Rattle.definitions.specs.SmFile.{Tag, SmPart, block_text, block_end, blocks, colons, data_of}
use Rattle.definitions.specs.declared.Refusal.{Refusal}
use Rattle.lines.specs.Lines.{first_line}
use Rattle.files.specs.declared.sm.Block.{Block}
use Rattle.files.specs.declared.sm.SmChart.{SmChart}

-- A block of a file: what stands in it after its tag, and what follows it in the file.
pub record BlockPart : Type 0 where
  pub text : List ℕ
  pub below : List ℕ

-- the block with a tag
abbrev pub block_at : List ℕ → Tag → BlockPart
block_at file t = record { text = block_text file t; below = drop (block_end file t) file }

-- the blocks of a file
unfoldable pub block_parts : List ℕ → List BlockPart
block_parts file = map (block_at file) (blocks file)

-- a block as it is lent
abbrev pub part_of : Block → BlockPart
part_of b = record { text = b.text.now; below = b.below.now }

-- where the line after the one begins on which a block ends
unfoldable pub line_past_block : List ℕ → Tag → ℕ
line_past_block file t = block_end file t + length (first_line (drop (block_end file t) file)) + 1

-- the data of a block by its text, if five fields stand before it
unfoldable pub data_part : List ℕ → Option (List ℕ)
data_part text = if nat_lt (colons text) 5 then None else Some (data_of text)

-- an answer, with the chart's data as it is lent
abbrev pub answer_of : Result SmChart Refusal → Result SmPart Refusal
answer_of (Ok c) = Ok (record { lanes = c.lanes; start = c.start; part = c.data.now })
answer_of (Err r) = Err r
