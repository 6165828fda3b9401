-- The entries so far are on the page.
use Rattle.sheet_json.specs.Json.{first_members}
use Rattle.page.specs.Prints.{Appends}
use Rattle.sheet_json.proofs.members.Given as goal

abbrev pub invariant-loop-i : goal.invariant-loop-i
invariant-loop-i l = Appends l.initial.page (first_members l.stats l.i) l.page
