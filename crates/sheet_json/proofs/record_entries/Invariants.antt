-- The entries so far are on the page.
use Rattle.sheet_json.specs.Json.{entries_of_records}
use Rattle.page.specs.Prints.{Appends}
use Rattle.sheet_json.proofs.record_entries.Given as goal

abbrev pub invariant-loop-k : goal.invariant-loop-k
invariant-loop-k l = Appends l.initial.page (entries_of_records l.records l.k) l.page
