-- Where the walk along records and trace stands.
use Rattle.std.specs.Prelude.{◌≡◌, Bool, true, false, if◌then◌else◌, ◌&&◌, List, [], ◌∷◌, ℕ, ◌-◌, ◌/◌, length, Option, None, Some}
use Rattle.std.specs.Simd.{first_chunks}
use Rattle.definitions.specs.Lists.{before}
use Rattle.definitions.specs.Written.{notes_from_record, notes_in}
use Rattle.definitions.specs.Presses.{notes_rise, is_played, same_place, bad_trace}
use Rattle.definitions.specs.declared.Note.{Note}
use Rattle.definitions.specs.declared.Press.{Press}
use Rattle.note_records.specs.Limits.{Limited}

-- the checks let these records and this trace pass
pub record Passed (s t : List ℕ) : Type 0 where
  pub limited : Limited s
  pub rising : notes_rise (notes_in s) ≡ true
  pub trace : bad_trace t ≡ false

-- five bytes each, press record after press record
abbrev pub five_bytes : List ℕ → List (List ℕ)
five_bytes t = first_chunks 5 (length t / 5) t

-- a press stands before the one ahead of it
abbrev pub falls : Option Press → Press → Bool
falls None p = false
falls (Some q) p = before p.row p.column q.row q.column

-- the notes of the records from record k on
abbrev pub left_from : List ℕ → ℕ → List Note
left_from s k = notes_from_record s k (length s / 10 - k)

-- of notes that rise, those that do not stand before a press
abbrev pub past : Press → List Note → List Note
past p [] = []
past p (n ∷ ns) = if before n.row n.column p.row p.column then past p ns else n ∷ ns

-- the first of them is played, and stands where the press does
abbrev pub met : Press → List Note → Bool
met p [] = false
met p (n ∷ ns) = is_played n.kind && same_place n.row n.column p.row p.column

-- the press before stands where a press does
abbrev pub again : Option Press → Press → Bool
again None p = false
again (Some q) p = same_place q.row q.column p.row p.column
