-- Records as the chunks of ten bytes that they are.
use Rattle.std.specs.Prelude.{List, ℕ, ◌/◌, length, slice_index, Result}
use Rattle.std.specs.Simd.{first_chunks}
use Rattle.definitions.specs.Records.{word, note_of}
use Rattle.definitions.specs.declared.Note.{Note}
use Rattle.definitions.specs.declared.Refusal.{Refusal}

-- ten bytes each, record after record
abbrev pub ten_bytes : List ℕ → List (List ℕ)
ten_bytes s = first_chunks 10 (length s / 10) s

-- the note of ten bytes
abbrev pub note_of_bytes : List ℕ → Result Note Refusal
note_of_bytes r = note_of (word r 0) (word r 4) (slice_index r 8) (slice_index r 9)
