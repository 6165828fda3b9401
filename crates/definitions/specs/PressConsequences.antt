-- What a reader expects of the theorems on pad traces, in other words. As in Consequences.antt, each follows from the statements of its theorems
-- alone, so no part of one can say less unseen; only `PressExamplesCounted` is of the table. proofs/Consequences/Presses.antt proves them.
use Rattle.std.specs.Prelude.{◌≡◌, true, List, map, ℕ, ◌+◌, ◌/◌, ◌≤◌, ◌<◌, length, slice_index, Ok}
use Rattle.definitions.specs.Lists.{sum_columns}
use Rattle.definitions.specs.Written.{notes_in, within_lanes}
use Rattle.definitions.specs.Presses.{presses_in, notes_rise, presses_rise, columns_fit, played, hits, strays, misses, hits_in, misses_in, played_in, press_answer}
use Rattle.definitions.specs.PressClaims.{press_on, OneOnEach}
use Rattle.definitions.specs.PressExamples as presses
use Rattle.definitions.specs.declared.Note.{Note}
use Rattle.definitions.specs.declared.Press.{Press}

-- ---- Of any notes and presses

-- hits are no more than the presses, and where there is none all presses are strays
unfoldable pub HitsArePresses : Type 0
HitsArePresses =
    (ns : List Note) (ps : List Press)
    → (length (hits ns ps) ≤ length ps) × (length (hits ns ps) ≡ 0 → length (strays ns ps) ≡ length ps)

-- ---- Of notes each of which stands before the next

-- as many presses as a trace has too few, so many misses at least
unfoldable pub ShortTraceMisses : Type 0
ShortTraceMisses = (ns : List Note) (ps : List Press) → notes_rise ns ≡ true → length (played ns) ≤ length ps + length (misses ns ps)

-- the hits of a column are no more than its played notes, and a column without a played note has neither hits nor misses
unfoldable pub UnplayedColumns : Type 0
UnplayedColumns =
    (ns : List Note) (ps : List Press) (c : ℕ)
    → notes_rise ns ≡ true
    → (hits_in ns ps c ≤ played_in ns c) × (played_in ns c ≡ 0 → (hits_in ns ps c ≡ 0) × (misses_in ns ps c ≡ 0))

-- a trace that is one press on each played note, in their order, has neither strays nor misses
unfoldable pub OnePressEach : Type 0
OnePressEach =
    (ns : List Note)
    → notes_rise ns ≡ true
    → let ps = map press_on (played ns) in (length (strays ns ps) ≡ 0) × (length (misses ns ps) ≡ 0)

-- no two traces have neither
unfoldable pub OneTracePasses : Type 0
OneTracePasses =
    (ns : List Note) (ps qs : List Press)
    → notes_rise ns ≡ true
    → presses_rise ps ≡ true
    → presses_rise qs ≡ true
    → (length (strays ns ps) ≡ 0) × (length (misses ns ps) ≡ 0)
    → (length (strays ns qs) ≡ 0) × (length (misses ns qs) ≡ 0)
    → ps ≡ qs

-- ---- Where no column is over 9

-- if none of the ten columns has a hit there is none, and if none has a miss there is none
unfoldable pub TenColumns : Type 0
TenColumns =
    (ns : List Note) (ps : List Press)
    → within_lanes 10 ns ≡ true
    → columns_fit ps ≡ true
    → (((c : ℕ) → c < 10 → hits_in ns ps c ≡ 0) → length (hits ns ps) ≡ 0)
    × (((c : ℕ) → c < 10 → misses_in ns ps c ≡ 0) → length (misses ns ps) ≡ 0)

-- ---- Of what is accepted: the places of the answer for records s and a trace t

-- Where it has neither strays nor misses there are as many presses as hits and as played notes, of the ten columns together too; each column has as
-- many hits as played notes, and no miss; and the trace is one press on each.
unfoldable pub WhatPasses : Type 0
WhatPasses =
    (s t places : List ℕ)
    → press_answer s t ≡ Ok places
    → slice_index places 1 ≡ 0
    → slice_index places 2 ≡ 0
    → (length t / 5 ≡ slice_index places 0)
    × (length t / 5 ≡ length (played (notes_in s)))
    × (length t / 5 ≡ sum_columns 10 (played_in (notes_in s)))
    × ((c : ℕ) → c < 10 → (slice_index places (3 + c) ≡ played_in (notes_in s) c) × (slice_index places (13 + c) ≡ 0))
    × OneOnEach (notes_in s) (presses_in t)

-- and where the trace is one press on each it has neither
unfoldable pub OneEachPasses : Type 0
OneEachPasses =
    (s t places : List ℕ)
    → press_answer s t ≡ Ok places
    → OneOnEach (notes_in s) (presses_in t)
    → (slice_index places 1 ≡ 0) × (slice_index places 2 ≡ 0)

-- ---- Of the examples

unfoldable pub PressExamplesCounted : Type 0
PressExamplesCounted = length presses.table ≡ 14
