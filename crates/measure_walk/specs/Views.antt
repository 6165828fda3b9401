-- What the walk over a chart's measures holds, as what is counted and noted.
use Rattle.std.specs.Prelude.{List, [], ◌∷◌, ◌++◌, ℕ}
use Rattle.definitions.specs.Lines.{Row}
use Rattle.measure_tally.specs.declared.Counting.{Counting}
use Rattle.tap_walk.specs.Noted.{Noting, Noted}
use Rattle.tap_walk.specs.Held.{Rest, counting_of, noting_of}
use Rattle.measure_walk.specs.declared.Walk.{Walk}

abbrev pub rest : Walk → Rest
rest w = record { before = w.before; found = w.found; midx = w.midx }

abbrev pub counting : Walk → Counting
counting w = counting_of (rest w) w.run

-- between two measures: no row is noted of an open one
abbrev pub noting : Walk → Noting
noting w = noting_of w.run.row (rest w) w.run

-- All rows of a measure were noted, which then has ended.
abbrev pub NotesAll : ℕ → List Row → Noting → List ℕ → Noting → List ℕ → Type 0
NotesAll L ms n l n' l' = (done : List (List Row)) → Noted L n l done → Noted L n' l' (done ++ (ms ∷ []))
