-- A record's fields where they lie in a slice.
use Rattle.std.specs.Prelude.{List, ℕ, ◌+◌, slice_index}
use Rattle.definitions.specs.Records.{word, fields}

-- the bytes of the record that lies at a place
abbrev pub fields_at : List ℕ → ℕ → List ℕ
fields_at l at = fields (word l at) (word l (at + 4)) (slice_index l (at + 8)) (slice_index l (at + 9))
