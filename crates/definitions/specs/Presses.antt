-- Specification, Pad traces: the presses of a pad set against the notes, and what `press_trace` answers. A hit, a stray and a miss are told by what
-- stands in the two lists, wherever in them it does; what holds of them is in PressClaims.antt.
use Rattle.std.specs.Prelude.{Bool, true, false, ◌&&◌, ◌||◌, not, List, [], ◌∷◌, ◌++◌, ℕ, ◌+◌, ◌*◌, ◌/◌, ◌%◌, ◌==◌, zero, suc, nat_le, length, slice_index, filter, count_by, Result}
use Rattle.std.specs.List.{list_any, list_all}
use Rattle.definitions.specs.Lists.{only_if, before, rises}
use Rattle.definitions.specs.Records.{word}
use Rattle.definitions.specs.Written.{headed, notes_in, uneven_records, broken_records}
use Rattle.definitions.specs.Refusals.{refused_if, answered}
use Rattle.definitions.specs.declared.Kind.{Kind}
use Rattle.definitions.specs.declared.Kind.TheVariants.{Tap, Hold, Roll, Mine, Lift, Fake}
use Rattle.definitions.specs.declared.Note.{Note}
use Rattle.definitions.specs.declared.Press.{Press}
use Rattle.definitions.specs.declared.Refusal.{Refusal}
use Rattle.definitions.specs.declared.Refusal.TheVariants.{NoRecord, BadRecord, OutOfOrder, BadTrace}

-- "A press record has 5 bytes": press k has "the row, low byte first", then "the column"
unfoldable pub press_at : List ℕ → ℕ → Press
press_at s k = record { row = word s (k * 5); column = slice_index s (k * 5 + 4) }

-- so many presses from press k on
abbrev pub presses_from : List ℕ → ℕ → ℕ → List Press
presses_from s k zero = []
presses_from s k (suc n) = press_at s k ∷ presses_from s (suc k) n

-- "records stand back to back without a header"
unfoldable pub presses_in : List ℕ → List Press
presses_in s = presses_from s 0 (length s / 5)

-- no "note does not stand before the next by row, then column"
abbrev pub notes_rise : List Note → Bool
notes_rise ns = rises (λ n. n.row) (λ n. n.column) ns

-- no "press falls in row, or in column within a row": "equal presses may follow each other"
abbrev pub presses_rise : List Press → Bool
presses_rise [] = true
presses_rise (p ∷ []) = true
presses_rise (p ∷ q ∷ ps) = not (before q.row q.column p.row p.column) && presses_rise (q ∷ ps)

-- no "press's column is over 9"
abbrev pub columns_fit : List Press → Bool
columns_fit ps = list_all (λ (p : Press). nat_le p.column 9) ps

-- "The played notes are the taps, holds and rolls"
abbrev pub is_played : Kind → Bool
is_played Tap = true
is_played Hold = true
is_played Roll = true
is_played Mine = false
is_played Lift = false
is_played Fake = false

-- these of the notes, in their order
abbrev pub played : List Note → List Note
played ns = filter (λ n. is_played n.kind) ns

-- two places are one
abbrev pub same_place : ℕ → ℕ → ℕ → ℕ → Bool
same_place i c j d = i == j && c == d

-- one of these presses stands at row i and column c: "A press has a row and a column, and stands there."
abbrev pub is_pressed : ℕ → ℕ → List Press → Bool
is_pressed i c ps = list_any (λ (p : Press). same_place p.row p.column i c) ps

-- one of these notes does: "each stands at its row and column alone", and not where it is tailed
abbrev pub is_noted : ℕ → ℕ → List Note → Bool
is_noted i c ns = list_any (headed i c) ns

-- "A press is a hit if a played note stands where it does and no press before it in the trace stands there." Here ns are the played notes, and
-- `earlier` the presses before p.
abbrev pub is_hit : List Note → List Press → Press → Bool
is_hit ns earlier p = is_noted p.row p.column ns && not (is_pressed p.row p.column earlier)

-- the hits among presses that come after these
abbrev pub hits_after : List Note → List Press → List Press → List Press
hits_after ns earlier [] = []
hits_after ns earlier (p ∷ ps) = only_if (is_hit ns earlier p) (p ∷ []) ++ hits_after ns (p ∷ earlier) ps

-- "Every other press is a stray"
abbrev pub strays_after : List Note → List Press → List Press → List Press
strays_after ns earlier [] = []
strays_after ns earlier (p ∷ ps) = only_if (not (is_hit ns earlier p)) (p ∷ []) ++ strays_after ns (p ∷ earlier) ps

module _ (ns : List Note) (ps : List Press) where
  -- the hits
  unfoldable pub hits : List Press
  hits = hits_after (played ns) [] ps

  -- the strays
  unfoldable pub strays : List Press
  strays = strays_after (played ns) [] ps

  -- "A played note is a miss if no press stands where it does."
  unfoldable pub misses : List Note
  misses = filter (λ n. not (is_pressed n.row n.column ps)) (played ns)

  -- "The hits and misses of a column are those that stand in it.": how many
  unfoldable pub hits_in : ℕ → ℕ
  hits_in c = count_by (λ (p : Press). p.column == c) hits

  unfoldable pub misses_in : ℕ → ℕ
  misses_in c = count_by (λ (n : Note). n.column == c) misses

-- and how many played notes stand in it
unfoldable pub played_in : List Note → ℕ → ℕ
played_in ns c = count_by (λ (n : Note). n.column == c) (played ns)

-- f of the columns from c on, n of them
abbrev pub of_columns : (ℕ → ℕ) → ℕ → ℕ → List ℕ
of_columns f c zero = []
of_columns f c (suc n) = f c ∷ of_columns f (suc c) n

-- the 23 places: "hits, strays, misses, the hits of the columns 0 to 9, the misses of the columns 0 to 9"
unfoldable pub places_of_presses : List Note → List Press → List ℕ
places_of_presses ns ps =
    length (hits ns ps) ∷ length (strays ns ps) ∷ length (misses ns ps) ∷ (of_columns (hits_in ns ps) 0 10 ++ of_columns (misses_in ns ps) 0 10)

-- 16: "the trace's length is not a multiple of 5, a press's column is over 9, or a press falls in row, or in column within a row"
unfoldable pub bad_trace : List ℕ → Bool
bad_trace t = not (length t % 5 == 0) || not (columns_fit (presses_in t) && presses_rise (presses_in t))

-- What `press_trace` answers of note records and a trace, its 23 places; its refusals, in their order: "7 8 13 16". "Of a list of records each is
-- looked for in all of them before the next."
unfoldable pub press_answer : List ℕ → List ℕ → Result (List ℕ) Refusal
press_answer s t =
    answered
    (refused_if (uneven_records s) NoRecord
    ∷ refused_if (broken_records s) BadRecord
    ∷ refused_if (not (notes_rise (notes_in s))) OutOfOrder
    ∷ refused_if (bad_trace t) BadTrace
    ∷ [])
    (places_of_presses (notes_in s) (presses_in t))
