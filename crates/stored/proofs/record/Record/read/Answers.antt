-- `stored::record::Record::read` meets its contract: each part's bytes are followed by what the next one is read from, and nothing follows.
use Rattle.std.proofs.Common.{rules, ◌+◌, ap, arith}
use Rattle.stored.specs.Layout.{number_at, answers_length, record_bytes, record_length}
use Rattle.stored.proofs.Joined.{and_then, whole, length-parts, rest-parts, length-number_bytes, head_of_record}
use Rattle.stored.proofs.record.Record.read.Goals as goal

pub returns-clause-value : goal.returns-clause-value
unfolding record_bytes
returns-clause-value c =
    let parts = and_then (and_then (and_then (and_then (and_then c.in_ok-text.ensures.value c.in_ok-flags.ensures.value) c.in_ok-long.ensures.value) c.in_ok-bytes.ensures.value) c.in_ok-bytes-2.ensures.value) c.in_ok-read.ensures.value in
    rw (c.in_ok-bytes.ensures.size, c.in_ok-bytes-2.ensures.size) (whole parts (search rules))

pub returns-in_err-text-clause-variant : goal.returns-in_err-text-clause-variant
unfolding record_length
returns-in_err-text-clause-variant c = grind arith

pub returns-in_err-flags-clause-variant : goal.returns-in_err-flags-clause-variant
unfolding record_length
returns-in_err-flags-clause-variant c = grind (arith, length-parts c.in_ok-text.ensures.value, length-number_bytes c.in_ok-text.text)

pub returns-in_err-long-clause-variant : goal.returns-in_err-long-clause-variant
unfolding record_length
returns-in_err-long-clause-variant c = grind (arith, length-parts c.in_ok-text.ensures.value, length-number_bytes c.in_ok-text.text, length-parts c.in_ok-flags.ensures.value, length-number_bytes c.in_ok-flags.flags)

pub returns-in_err-bytes-clause-variant : goal.returns-in_err-bytes-clause-variant
unfolding record_length
returns-in_err-bytes-clause-variant c =
    let head = head_of_record _ c.in_ok-text.ensures.value c.in_ok-text.ensures.number c.in_ok-flags.ensures.value c.in_ok-flags.ensures.number c.in_ok-long.ensures.value in
    grind (arith, head.0, head.1, head.2)

pub returns-in_err-bytes-2-clause-variant : goal.returns-in_err-bytes-2-clause-variant
unfolding record_length
returns-in_err-bytes-2-clause-variant c =
    let head = head_of_record _ c.in_ok-text.ensures.value c.in_ok-text.ensures.number c.in_ok-flags.ensures.value c.in_ok-flags.ensures.number c.in_ok-long.ensures.value in
    grind (arith, head.0, head.1, head.2, length-parts c.in_ok-bytes.ensures.value, c.in_ok-bytes.ensures.size)

pub returns-in_err-read-clause-variant : goal.returns-in_err-read-clause-variant
unfolding record_length
returns-in_err-read-clause-variant c =
    let head = head_of_record _ c.in_ok-text.ensures.value c.in_ok-text.ensures.number c.in_ok-flags.ensures.value c.in_ok-flags.ensures.number c.in_ok-long.ensures.value in
    let rest = rest-parts (16 + number_at c.args.data.now 0 + number_at c.args.data.now 4) (and_then (and_then (and_then (and_then c.in_ok-text.ensures.value c.in_ok-flags.ensures.value) c.in_ok-long.ensures.value) c.in_ok-bytes.ensures.value) c.in_ok-bytes-2.ensures.value) (omega (arith, head.0, head.1, head.2, length-parts c.in_ok-bytes.ensures.value, c.in_ok-bytes.ensures.size, length-parts c.in_ok-bytes-2.ensures.value, c.in_ok-bytes-2.ensures.size)) in
    grind (arith, head.0, head.1, head.2, length-parts c.in_ok-bytes.ensures.value, c.in_ok-bytes.ensures.size, length-parts c.in_ok-bytes-2.ensures.value, c.in_ok-bytes-2.ensures.size, ap (answers_length 11) rest)

pub returns-then-not-is_empty-clause-variant : goal.returns-then-not-is_empty-clause-variant
unfolding record_length
returns-then-not-is_empty-clause-variant c =
    let head = head_of_record _ c.in_ok-text.ensures.value c.in_ok-text.ensures.number c.in_ok-flags.ensures.value c.in_ok-flags.ensures.number c.in_ok-long.ensures.value in
    let rest = rest-parts (16 + number_at c.args.data.now 0 + number_at c.args.data.now 4) (and_then (and_then (and_then (and_then c.in_ok-text.ensures.value c.in_ok-flags.ensures.value) c.in_ok-long.ensures.value) c.in_ok-bytes.ensures.value) c.in_ok-bytes-2.ensures.value) (omega (arith, head.0, head.1, head.2, length-parts c.in_ok-bytes.ensures.value, c.in_ok-bytes.ensures.size, length-parts c.in_ok-bytes-2.ensures.value, c.in_ok-bytes-2.ensures.size)) in
    grind (arith, head.0, head.1, head.2, length-parts c.in_ok-bytes.ensures.value, c.in_ok-bytes.ensures.size, length-parts c.in_ok-bytes-2.ensures.value, c.in_ok-bytes-2.ensures.size, ap (answers_length 11) rest)

pub returns-clause-variant : goal.returns-clause-variant
unfolding record_length
returns-clause-variant c =
    let head = head_of_record _ c.in_ok-text.ensures.value c.in_ok-text.ensures.number c.in_ok-flags.ensures.value c.in_ok-flags.ensures.number c.in_ok-long.ensures.value in
    let rest = rest-parts (16 + number_at c.args.data.now 0 + number_at c.args.data.now 4) (and_then (and_then (and_then (and_then c.in_ok-text.ensures.value c.in_ok-flags.ensures.value) c.in_ok-long.ensures.value) c.in_ok-bytes.ensures.value) c.in_ok-bytes-2.ensures.value) (omega (arith, head.0, head.1, head.2, length-parts c.in_ok-bytes.ensures.value, c.in_ok-bytes.ensures.size, length-parts c.in_ok-bytes-2.ensures.value, c.in_ok-bytes-2.ensures.size)) in
    grind (arith, head.0, head.1, head.2, length-parts c.in_ok-bytes.ensures.value, c.in_ok-bytes.ensures.size, length-parts c.in_ok-bytes-2.ensures.value, c.in_ok-bytes-2.ensures.size, ap (answers_length 11) rest)
