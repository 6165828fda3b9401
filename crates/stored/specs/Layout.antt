-- The bytes of what is stored, as tests/vectors/README.md has them.
use Rattle.std.specs.Prelude.{◌≡◌, List, ◌++◌, ℕ, zero, suc, ◌+◌, ◌^◌, ◌<◌, ◌≤◌, length, take, drop}
use Rattle.std.specs.Int.{w32, w64, to_le_bytes, from_le_bytes}
use Rattle.stored.specs.declared.answer.Answer.{Answer}
use Rattle.stored.specs.declared.answer.Answers.{Answers}
use Rattle.stored.specs.declared.record.Record.{Record}

-- all of some bytes are a part and what follows it
pub record Begins (all part rest : List ℕ) : Type 0 where
  pub parts : all ≡ part ++ rest

-- a number of four bytes, and one of eight, low byte first
unfoldable pub number_bytes : ℕ → List ℕ
number_bytes n = to_le_bytes w32 n

unfoldable pub long_bytes : ℕ → List ℕ
long_bytes n = to_le_bytes w64 n

-- an answer: figures, the lengths of the four contents, and the contents
unfoldable pub answer_bytes : Answer → List ℕ
answer_bytes a =
    a.figures.now
    ++ number_bytes (length a.text.now)
    ++ number_bytes (length a.measures.now)
    ++ number_bytes (length a.beats.now)
    ++ number_bytes (length a.notes.now)
    ++ a.text.now
    ++ a.measures.now
    ++ a.beats.now
    ++ a.notes.now

-- the eleven answers
unfoldable pub answers_bytes : Answers → List ℕ
answers_bytes a =
    answer_bytes a.main
    ++ answer_bytes a.kept
    ++ answer_bytes a.timing_rows
    ++ answer_bytes a.densities
    ++ answer_bytes a.spacing
    ++ answer_bytes a.last_beat
    ++ answer_bytes a.judged
    ++ answer_bytes a.flagged
    ++ answer_bytes a.dropped
    ++ answer_bytes a.written
    ++ answer_bytes a.pressed

-- a record without the bytes of its length: the lengths of text and flags, the lane number, text, flags, and the answers
unfoldable pub record_bytes : Record → List ℕ
record_bytes r =
    number_bytes (length r.text.now)
    ++ number_bytes (length r.flags.now)
    ++ long_bytes r.lanes
    ++ r.text.now
    ++ r.flags.now
    ++ answers_bytes r.answers

-- the numbers of four and of eight bytes at a place
unfoldable pub number_at : List ℕ → ℕ → ℕ
number_at s place = from_le_bytes w32 (take 4 (drop place s))

unfoldable pub long_at : List ℕ → ℕ → ℕ
long_at s place = from_le_bytes w64 (take 8 (drop place s))

-- how long these are, by the lengths that they say: an answer at the front of some bytes, so many answers there, and a record
unfoldable pub answer_length : List ℕ → ℕ
answer_length s = 272 + number_at s 256 + number_at s 260 + number_at s 264 + number_at s 268

unfoldable pub answers_length : ℕ → List ℕ → ℕ
answers_length zero s = 0
answers_length (suc n) s = answer_length s + answers_length n (drop (answer_length s) s)

unfoldable pub record_length : List ℕ → ℕ
record_length s = 16 + number_at s 0 + number_at s 4 + answers_length 11 (drop (16 + number_at s 0 + number_at s 4) s)

-- the head of a sample: its mark, a seed, and the number of its records, below 2 ^ 32
abbrev pub IsHead : ℕ → List ℕ → Type 0
IsHead mark s = (24 ≤ length s) × (long_at s 0 ≡ mark) × (long_at s 16 < 2 ^ 32)

-- the length of a record, with its own four bytes: at most 65,536 follow them
abbrev pub IsRecordLength : List ℕ → Type 0
IsRecordLength s = (4 ≤ length s) × (4 ≤ number_at s 0) × (number_at s 0 ≤ 65540)
