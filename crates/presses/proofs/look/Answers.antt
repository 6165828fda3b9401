-- `presses::look` meets its contract.
use Rattle.std.proofs.Common.{sym, ap, ◌∙◌}
use native.Mathlib.Omega.{arith}
use Rattle.std.specs.Prelude.{is_err}
use Rattle.definitions.specs.Lists.{number_of_bool}
use Rattle.definitions.specs.Refusals.{refused_if}
use Rattle.definitions.specs.declared.Refusal.TheVariants.{BadRecord}
use Rattle.note_records.proofs.Kept.{kept-broken}
use Rattle.presses.proofs.Read.{of-note}
use Rattle.presses.proofs.Looking.{look-start, look-narrow, look-fits, look-next, look-kept, look-rising, look-played}
use Rattle.presses.proofs.look.Goals as goal

pub loop-bytes-init : goal.loop-bytes-init
loop-bytes-init c = look-start c.args.records.now _ c.new-order.ensures.row c.new-order.ensures.column c.new-order.ensures.kept

pub take-requires : goal.take-requires
take-requires c =
    record { column_narrow = look-narrow c.loop-bytes.invariant c.requires.whole c.as_chunks.ensures.front c.loop-bytes-test.true _ (sym c.note_of_ten.ensures ∙ c.in-Ok.is) }

pub bounds-played-note : goal.bounds-played-note
bounds-played-note c = look-narrow c.loop-bytes.invariant c.requires.whole c.as_chunks.ensures.front c.loop-bytes-test.true _ (sym c.note_of_ten.ensures ∙ c.in-Ok.is)

pub bounds-played-note-in-Ok : goal.bounds-played-note-in-Ok
bounds-played-note-in-Ok c = look-narrow c.loop-bytes.invariant c.requires.whole c.as_chunks.ensures.front c.loop-bytes-test.true _ (sym c.note_of_ten.ensures ∙ c.in-Ok.is)

pub overflow_add-played : goal.overflow_add-played
overflow_add-played c =
    omega (arith, look-fits c.loop-bytes.invariant c.requires.whole c.as_chunks.ensures.front c.loop-bytes-test.true _ (sym c.note_of_ten.ensures ∙ c.in-Ok.is), c.from.ensures ∙ ap number_of_bool (of-note _ _ c.in-Ok.note (sym c.note_of_ten.ensures ∙ c.in-Ok.is) c.is_played.ensures))

pub returns-in-Err-clause-refused : goal.returns-in-Err-clause-refused
returns-in-Err-clause-refused c =
    ap (λ t. refused_if t BadRecord)
    (kept-broken c.loop-bytes.invariant.kept c.requires.whole c.as_chunks.ensures.front c.loop-bytes-test.true (ap is_err (sym c.note_of_ten.ensures ∙ c.in-Err.is)))

pub loop-bytes-preserved : goal.loop-bytes-preserved
loop-bytes-preserved c =
    look-next c.loop-bytes.invariant c.requires.whole c.as_chunks.ensures.front c.loop-bytes-test.true _ (sym c.note_of_ten.ensures ∙ c.in-Ok.is) _
    c.take.ensures.row c.take.ensures.column c.take.ensures.kept _ (c.from.ensures ∙ ap number_of_bool (of-note _ _ c.in-Ok.note (sym c.note_of_ten.ensures ∙ c.in-Ok.is) c.is_played.ensures))

pub returns-clause-accepted : goal.returns-clause-accepted
returns-clause-accepted c = look-kept c.loop-bytes.invariant c.requires.whole c.as_chunks.ensures.front c.loop-bytes-test.false

pub returns-clause-rising : goal.returns-clause-rising
returns-clause-rising c = look-rising c.loop-bytes.invariant c.requires.whole c.as_chunks.ensures.front c.loop-bytes-test.false

pub returns-clause-played : goal.returns-clause-played
returns-clause-played c = look-played c.loop-bytes.invariant c.requires.whole c.as_chunks.ensures.front c.loop-bytes-test.false
