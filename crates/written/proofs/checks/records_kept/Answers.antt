-- `checks::records_kept` meets its contract. The loop's invariant: what the walk has found of the records before.
use mathlib.Core.Path.{ap, sym, ◌∙◌}
use Rattle.std.specs.Prelude.{is_err}
use Rattle.definitions.specs.Refusals.{refused_if}
use Rattle.definitions.specs.declared.Refusal.TheVariants.{BadRecord}
use Rattle.note_records.proofs.Kept.{made-of-ten, chunk-ten, kept-broken}
use Rattle.written.proofs.Walk.{walk-start, walk-next, walk-kept, walk-end}
use Rattle.written.proofs.checks.records_kept.Goals as goal

pub loop-bytes-init : goal.loop-bytes-init
loop-bytes-init c = walk-start c.args.lanes.count c.args.rows c.args.records.now _ c.new-walked.ensures

pub take-requires : goal.take-requires
take-requires c = made-of-ten _ _ (chunk-ten c.args.records.now c.as_chunks.ensures.front c.loop-bytes-test.true) (sym c.note_of_ten.ensures ∙ c.in-Ok.is)

pub returns-in-Err-clause-refused : goal.returns-in-Err-clause-refused
returns-in-Err-clause-refused c =
    ap (λ t. refused_if t BadRecord)
    (kept-broken c.loop-bytes.invariant.kept c.requires c.as_chunks.ensures.front c.loop-bytes-test.true (ap is_err (sym c.note_of_ten.ensures ∙ c.in-Err.is)))

pub loop-bytes-preserved : goal.loop-bytes-preserved
loop-bytes-preserved c =
    let k = c.take.ensures in
    walk-next c.loop-bytes.invariant c.requires c.as_chunks.ensures.front c.loop-bytes-test.true _ (sym c.note_of_ten.ensures ∙ c.in-Ok.is) _
    (record { row = k.row; column = k.column; kept = k.kept; free = k.free; apart = k.apart; within = k.within })

pub returns-clause-accepted : goal.returns-clause-accepted
returns-clause-accepted c = walk-kept c.loop-bytes.invariant c.requires c.as_chunks.ensures.front c.loop-bytes-test.false

pub returns-clause-found : goal.returns-clause-found
returns-clause-found c = walk-end c.loop-bytes.invariant c.requires c.as_chunks.ensures.front c.loop-bytes-test.false
