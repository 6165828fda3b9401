-- The next entry is that of the next field; where it has no room, all entries have none.
use Rattle.std.proofs.Common.{◌≡◌, ℕ, ◌<◌, List, [], refl, subst, add-one, arith, rules}
use lib.ListN.{get_or}
use Rattle.std.proofs.lemmas.Grind.{common_steps}
use Rattle.std.proofs.lemmas.List.{get_or_default}
use Rattle.definitions.specs.declared.ArrowStats.{ArrowStats}
use Rattle.sheet.specs.Sheet.{named_fields, field_count, field_at}
use Rattle.page.specs.Prints.{Appends, Stops}
use Rattle.page.proofs.Listing.{listed_next}
use Rattle.sheet_json.specs.Json.{member, members}
use Rattle.sheet_json.proofs.members.Goals as goal
use Rattle.sheet_json.proofs.members.Goals.{After-member}

-- field i of a tally
at : (t : ArrowStats) (fields : List (List ℕ × ℕ)) (i : ℕ) (d : List ℕ × ℕ) → fields ≡ named_fields t → i < field_count → get_or fields i d ≡ field_at t i
unfolding named_fields field_count
at t fields i d e h = rw e (get_or_default (named_fields t) i d ([], 0) h)

-- what is printed is the next field's entry
next : (c : After-member) →
    let t = c.args.stats.now in
    let i = c.loop-i.i in
    member i c.name.result.now c.count.result ≡ member i (field_at t i).0 (field_at t i).1
unfolding field_count
next c = rw (c.name.ensures, c.count.ensures, at _ _ _ c.index-fields-i.result c.fields_of-fields.ensures c.loop-i-test.true) refl

pub returns-in_err-member : goal.returns-in_err-member
unfolding members field_count
returns-in_err-member c =
    let t = c.args.stats.now in
    let stop = subst (λ l. Stops c.loop-i.page l c.member.new.page) (next (goal.at.returns-in_err-member c).After-member) c.in_err-member.ensures in
    search (
      rules,
      arith,
      stop,
      listed_next (λ (i : ℕ). member i (field_at t i).0 (field_at t i).1) c.loop-i.i field_count,
    )

pub loop-i-preserved : goal.loop-i-preserved
loop-i-preserved c =
    let line = subst (λ l. Appends c.loop-i.page l c.member.new.page) (next (goal.at.loop-i-preserved c).After-member) c.in_ok-member.ensures in
    rw add-one (grind (arith, common_steps, line))
