-- The next line is that of the next field; where it has no room, all lines have none.
use Rattle.std.proofs.Common.{◌≡◌, ℕ, ◌<◌, List, [], refl, subst, add-one, arith, rules}
use lib.ListN.{get_or}
use Rattle.std.proofs.lemmas.Grind.{common_steps}
use Rattle.std.proofs.lemmas.List.{get_or_default}
use Rattle.definitions.specs.declared.ArrowStats.{ArrowStats}
use Rattle.sheet.specs.Sheet.{named_fields, field_count, field_at}
use Rattle.page.specs.Prints.{Appends, Stops}
use Rattle.page.proofs.Listing.{listed_next}
use Rattle.sheet_print.specs.Print.{line_of_tally, lines_of_tally}
use Rattle.sheet_print.proofs.tally_lines.Goals as goal
use Rattle.sheet_print.proofs.tally_lines.Goals.{After-tally_line}

-- field i of a tally
at : (t : ArrowStats) (fields : List (List ℕ × ℕ)) (i : ℕ) (d : List ℕ × ℕ) → fields ≡ named_fields t → i < field_count → get_or fields i d ≡ field_at t i
unfolding named_fields field_count
at t fields i d e h = rw e (get_or_default (named_fields t) i d ([], 0) h)

-- what is printed is the next field's line
next : (c : After-tally_line) →
    let f = c.args.figures.now in
    let i = c.loop-i.i in
    let main = get_or c.fields_of-main.result i c.index-main-i.result in
    line_of_tally main.0 main.1 (get_or c.fields_of-kept.result i c.index-kept-i.result).1 (get_or c.fields_of-judged.result i c.index-judged-i.result).1
    ≡ line_of_tally (field_at f.chart.stats i).0 (field_at f.chart.stats i).1 (field_at f.kept.stats i).1 (field_at f.judged i).1
unfolding field_count
next c =
    rw (
      at _ _ _ c.index-main-i.result c.fields_of-main.ensures c.loop-i-test.true,
      at _ _ _ c.index-kept-i.result c.fields_of-kept.ensures c.loop-i-test.true,
      at _ _ _ c.index-judged-i.result c.fields_of-judged.ensures c.loop-i-test.true,
    )
    refl

pub returns-in_err-tally_line : goal.returns-in_err-tally_line
unfolding lines_of_tally field_count
returns-in_err-tally_line c =
    let f = c.args.figures.now in
    let stop = subst (λ l. Stops c.loop-i.page l c.tally_line.new.page) (next (goal.at.returns-in_err-tally_line c).After-tally_line) c.in_err-tally_line.ensures in
    search (
      rules,
      arith,
      stop,
      listed_next (λ (i : ℕ). line_of_tally (field_at f.chart.stats i).0 (field_at f.chart.stats i).1 (field_at f.kept.stats i).1 (field_at f.judged i).1) c.loop-i.i field_count,
    )

pub loop-i-preserved : goal.loop-i-preserved
loop-i-preserved c =
    let line = subst (λ l. Appends c.loop-i.page l c.tally_line.new.page) (next (goal.at.loop-i-preserved c).After-tally_line) c.in_ok-tally_line.ensures in
    rw add-one (grind (arith, common_steps, line))
