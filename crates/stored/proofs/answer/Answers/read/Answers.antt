-- `stored::answer::Answers::read` meets its contract: each answer's bytes are followed by what the next one is read from.
use Rattle.std.proofs.Common.{refl, arith}
use Rattle.stored.specs.Layout.{answers_bytes}
use Rattle.stored.proofs.Joined.{and_then, answers_after, answers_length-suc, answers_length-zero}
use Rattle.stored.proofs.answer.Answers.read.Goals as goal

pub returns-in_err-read-clause-variant : goal.returns-in_err-read-clause-variant
returns-in_err-read-clause-variant c =
    grind (arith, answers_length-suc 10 c.args.rest.now.now)

pub returns-in_err-read-2-clause-variant : goal.returns-in_err-read-2-clause-variant
returns-in_err-read-2-clause-variant c =
    let a0 = answers_after 10 _ c.in_ok-read.ensures.after (c.in_ok-read.ensures.variant.0 refl) in
    grind (arith, answers_length-suc 9 c.read.new.rest.now, a0.0, a0.1)

pub returns-in_err-read-3-clause-variant : goal.returns-in_err-read-3-clause-variant
returns-in_err-read-3-clause-variant c =
    let a0 = answers_after 10 _ c.in_ok-read.ensures.after (c.in_ok-read.ensures.variant.0 refl) in
    let a1 = answers_after 9 _ c.in_ok-read-2.ensures.after (c.in_ok-read-2.ensures.variant.0 refl) in
    grind (arith, answers_length-suc 8 c.read-2.new.rest.now, a0.0, a0.1, a1.0, a1.1)

pub returns-in_err-read-4-clause-variant : goal.returns-in_err-read-4-clause-variant
returns-in_err-read-4-clause-variant c =
    let a0 = answers_after 10 _ c.in_ok-read.ensures.after (c.in_ok-read.ensures.variant.0 refl) in
    let a1 = answers_after 9 _ c.in_ok-read-2.ensures.after (c.in_ok-read-2.ensures.variant.0 refl) in
    let a2 = answers_after 8 _ c.in_ok-read-3.ensures.after (c.in_ok-read-3.ensures.variant.0 refl) in
    grind (arith, answers_length-suc 7 c.read-3.new.rest.now, a0.0, a0.1, a1.0, a1.1, a2.0, a2.1)

pub returns-in_err-read-5-clause-variant : goal.returns-in_err-read-5-clause-variant
returns-in_err-read-5-clause-variant c =
    let a0 = answers_after 10 _ c.in_ok-read.ensures.after (c.in_ok-read.ensures.variant.0 refl) in
    let a1 = answers_after 9 _ c.in_ok-read-2.ensures.after (c.in_ok-read-2.ensures.variant.0 refl) in
    let a2 = answers_after 8 _ c.in_ok-read-3.ensures.after (c.in_ok-read-3.ensures.variant.0 refl) in
    let a3 = answers_after 7 _ c.in_ok-read-4.ensures.after (c.in_ok-read-4.ensures.variant.0 refl) in
    grind (arith, answers_length-suc 6 c.read-4.new.rest.now, a0.0, a0.1, a1.0, a1.1, a2.0, a2.1, a3.0, a3.1)

pub returns-in_err-read-6-clause-variant : goal.returns-in_err-read-6-clause-variant
returns-in_err-read-6-clause-variant c =
    let a0 = answers_after 10 _ c.in_ok-read.ensures.after (c.in_ok-read.ensures.variant.0 refl) in
    let a1 = answers_after 9 _ c.in_ok-read-2.ensures.after (c.in_ok-read-2.ensures.variant.0 refl) in
    let a2 = answers_after 8 _ c.in_ok-read-3.ensures.after (c.in_ok-read-3.ensures.variant.0 refl) in
    let a3 = answers_after 7 _ c.in_ok-read-4.ensures.after (c.in_ok-read-4.ensures.variant.0 refl) in
    let a4 = answers_after 6 _ c.in_ok-read-5.ensures.after (c.in_ok-read-5.ensures.variant.0 refl) in
    grind (arith, answers_length-suc 5 c.read-5.new.rest.now, a0.0, a0.1, a1.0, a1.1, a2.0, a2.1, a3.0, a3.1, a4.0, a4.1)

pub returns-in_err-read-7-clause-variant : goal.returns-in_err-read-7-clause-variant
returns-in_err-read-7-clause-variant c =
    let a0 = answers_after 10 _ c.in_ok-read.ensures.after (c.in_ok-read.ensures.variant.0 refl) in
    let a1 = answers_after 9 _ c.in_ok-read-2.ensures.after (c.in_ok-read-2.ensures.variant.0 refl) in
    let a2 = answers_after 8 _ c.in_ok-read-3.ensures.after (c.in_ok-read-3.ensures.variant.0 refl) in
    let a3 = answers_after 7 _ c.in_ok-read-4.ensures.after (c.in_ok-read-4.ensures.variant.0 refl) in
    let a4 = answers_after 6 _ c.in_ok-read-5.ensures.after (c.in_ok-read-5.ensures.variant.0 refl) in
    let a5 = answers_after 5 _ c.in_ok-read-6.ensures.after (c.in_ok-read-6.ensures.variant.0 refl) in
    grind (arith, answers_length-suc 4 c.read-6.new.rest.now, a0.0, a0.1, a1.0, a1.1, a2.0, a2.1, a3.0, a3.1, a4.0, a4.1, a5.0, a5.1)

pub returns-in_err-read-8-clause-variant : goal.returns-in_err-read-8-clause-variant
returns-in_err-read-8-clause-variant c =
    let a0 = answers_after 10 _ c.in_ok-read.ensures.after (c.in_ok-read.ensures.variant.0 refl) in
    let a1 = answers_after 9 _ c.in_ok-read-2.ensures.after (c.in_ok-read-2.ensures.variant.0 refl) in
    let a2 = answers_after 8 _ c.in_ok-read-3.ensures.after (c.in_ok-read-3.ensures.variant.0 refl) in
    let a3 = answers_after 7 _ c.in_ok-read-4.ensures.after (c.in_ok-read-4.ensures.variant.0 refl) in
    let a4 = answers_after 6 _ c.in_ok-read-5.ensures.after (c.in_ok-read-5.ensures.variant.0 refl) in
    let a5 = answers_after 5 _ c.in_ok-read-6.ensures.after (c.in_ok-read-6.ensures.variant.0 refl) in
    let a6 = answers_after 4 _ c.in_ok-read-7.ensures.after (c.in_ok-read-7.ensures.variant.0 refl) in
    grind (arith, answers_length-suc 3 c.read-7.new.rest.now, a0.0, a0.1, a1.0, a1.1, a2.0, a2.1, a3.0, a3.1, a4.0, a4.1, a5.0, a5.1, a6.0, a6.1)

pub returns-in_err-read-9-clause-variant : goal.returns-in_err-read-9-clause-variant
returns-in_err-read-9-clause-variant c =
    let a0 = answers_after 10 _ c.in_ok-read.ensures.after (c.in_ok-read.ensures.variant.0 refl) in
    let a1 = answers_after 9 _ c.in_ok-read-2.ensures.after (c.in_ok-read-2.ensures.variant.0 refl) in
    let a2 = answers_after 8 _ c.in_ok-read-3.ensures.after (c.in_ok-read-3.ensures.variant.0 refl) in
    let a3 = answers_after 7 _ c.in_ok-read-4.ensures.after (c.in_ok-read-4.ensures.variant.0 refl) in
    let a4 = answers_after 6 _ c.in_ok-read-5.ensures.after (c.in_ok-read-5.ensures.variant.0 refl) in
    let a5 = answers_after 5 _ c.in_ok-read-6.ensures.after (c.in_ok-read-6.ensures.variant.0 refl) in
    let a6 = answers_after 4 _ c.in_ok-read-7.ensures.after (c.in_ok-read-7.ensures.variant.0 refl) in
    let a7 = answers_after 3 _ c.in_ok-read-8.ensures.after (c.in_ok-read-8.ensures.variant.0 refl) in
    grind (arith, answers_length-suc 2 c.read-8.new.rest.now, a0.0, a0.1, a1.0, a1.1, a2.0, a2.1, a3.0, a3.1, a4.0, a4.1, a5.0, a5.1, a6.0, a6.1, a7.0, a7.1)

pub returns-in_err-read-10-clause-variant : goal.returns-in_err-read-10-clause-variant
returns-in_err-read-10-clause-variant c =
    let a0 = answers_after 10 _ c.in_ok-read.ensures.after (c.in_ok-read.ensures.variant.0 refl) in
    let a1 = answers_after 9 _ c.in_ok-read-2.ensures.after (c.in_ok-read-2.ensures.variant.0 refl) in
    let a2 = answers_after 8 _ c.in_ok-read-3.ensures.after (c.in_ok-read-3.ensures.variant.0 refl) in
    let a3 = answers_after 7 _ c.in_ok-read-4.ensures.after (c.in_ok-read-4.ensures.variant.0 refl) in
    let a4 = answers_after 6 _ c.in_ok-read-5.ensures.after (c.in_ok-read-5.ensures.variant.0 refl) in
    let a5 = answers_after 5 _ c.in_ok-read-6.ensures.after (c.in_ok-read-6.ensures.variant.0 refl) in
    let a6 = answers_after 4 _ c.in_ok-read-7.ensures.after (c.in_ok-read-7.ensures.variant.0 refl) in
    let a7 = answers_after 3 _ c.in_ok-read-8.ensures.after (c.in_ok-read-8.ensures.variant.0 refl) in
    let a8 = answers_after 2 _ c.in_ok-read-9.ensures.after (c.in_ok-read-9.ensures.variant.0 refl) in
    grind (arith, answers_length-suc 1 c.read-9.new.rest.now, a0.0, a0.1, a1.0, a1.1, a2.0, a2.1, a3.0, a3.1, a4.0, a4.1, a5.0, a5.1, a6.0, a6.1, a7.0, a7.1, a8.0, a8.1)

pub returns-in_err-read-11-clause-variant : goal.returns-in_err-read-11-clause-variant
returns-in_err-read-11-clause-variant c =
    let a0 = answers_after 10 _ c.in_ok-read.ensures.after (c.in_ok-read.ensures.variant.0 refl) in
    let a1 = answers_after 9 _ c.in_ok-read-2.ensures.after (c.in_ok-read-2.ensures.variant.0 refl) in
    let a2 = answers_after 8 _ c.in_ok-read-3.ensures.after (c.in_ok-read-3.ensures.variant.0 refl) in
    let a3 = answers_after 7 _ c.in_ok-read-4.ensures.after (c.in_ok-read-4.ensures.variant.0 refl) in
    let a4 = answers_after 6 _ c.in_ok-read-5.ensures.after (c.in_ok-read-5.ensures.variant.0 refl) in
    let a5 = answers_after 5 _ c.in_ok-read-6.ensures.after (c.in_ok-read-6.ensures.variant.0 refl) in
    let a6 = answers_after 4 _ c.in_ok-read-7.ensures.after (c.in_ok-read-7.ensures.variant.0 refl) in
    let a7 = answers_after 3 _ c.in_ok-read-8.ensures.after (c.in_ok-read-8.ensures.variant.0 refl) in
    let a8 = answers_after 2 _ c.in_ok-read-9.ensures.after (c.in_ok-read-9.ensures.variant.0 refl) in
    let a9 = answers_after 1 _ c.in_ok-read-10.ensures.after (c.in_ok-read-10.ensures.variant.0 refl) in
    grind (arith, answers_length-suc 0 c.read-10.new.rest.now, a0.0, a0.1, a1.0, a1.1, a2.0, a2.1, a3.0, a3.1, a4.0, a4.1, a5.0, a5.1, a6.0, a6.1, a7.0, a7.1, a8.0, a8.1, a9.0, a9.1)

pub returns-clause-value : goal.returns-clause-value
unfolding answers_bytes
returns-clause-value c =
    and_then (and_then (and_then (and_then (and_then (and_then (and_then (and_then (and_then (and_then c.in_ok-read.ensures.value c.in_ok-read-2.ensures.value) c.in_ok-read-3.ensures.value) c.in_ok-read-4.ensures.value) c.in_ok-read-5.ensures.value) c.in_ok-read-6.ensures.value) c.in_ok-read-7.ensures.value) c.in_ok-read-8.ensures.value) c.in_ok-read-9.ensures.value) c.in_ok-read-10.ensures.value) c.in_ok-read-11.ensures.value

pub returns-clause-after : goal.returns-clause-after
returns-clause-after c =
    let a0 = answers_after 10 _ c.in_ok-read.ensures.after (c.in_ok-read.ensures.variant.0 refl) in
    let a1 = answers_after 9 _ c.in_ok-read-2.ensures.after (c.in_ok-read-2.ensures.variant.0 refl) in
    let a2 = answers_after 8 _ c.in_ok-read-3.ensures.after (c.in_ok-read-3.ensures.variant.0 refl) in
    let a3 = answers_after 7 _ c.in_ok-read-4.ensures.after (c.in_ok-read-4.ensures.variant.0 refl) in
    let a4 = answers_after 6 _ c.in_ok-read-5.ensures.after (c.in_ok-read-5.ensures.variant.0 refl) in
    let a5 = answers_after 5 _ c.in_ok-read-6.ensures.after (c.in_ok-read-6.ensures.variant.0 refl) in
    let a6 = answers_after 4 _ c.in_ok-read-7.ensures.after (c.in_ok-read-7.ensures.variant.0 refl) in
    let a7 = answers_after 3 _ c.in_ok-read-8.ensures.after (c.in_ok-read-8.ensures.variant.0 refl) in
    let a8 = answers_after 2 _ c.in_ok-read-9.ensures.after (c.in_ok-read-9.ensures.variant.0 refl) in
    let a9 = answers_after 1 _ c.in_ok-read-10.ensures.after (c.in_ok-read-10.ensures.variant.0 refl) in
    let a10 = answers_after 0 _ c.in_ok-read-11.ensures.after (c.in_ok-read-11.ensures.variant.0 refl) in
    omega (arith, answers_length-zero c.read-11.new.rest.now, a0.0, a0.1, a1.0, a1.1, a2.0, a2.1, a3.0, a3.1, a4.0, a4.1, a5.0, a5.1, a6.0, a6.1, a7.0, a7.1, a8.0, a8.1, a9.0, a9.1, a10.0, a10.1)

pub returns-clause-variant : goal.returns-clause-variant
returns-clause-variant c =
    let a0 = answers_after 10 _ c.in_ok-read.ensures.after (c.in_ok-read.ensures.variant.0 refl) in
    let a1 = answers_after 9 _ c.in_ok-read-2.ensures.after (c.in_ok-read-2.ensures.variant.0 refl) in
    let a2 = answers_after 8 _ c.in_ok-read-3.ensures.after (c.in_ok-read-3.ensures.variant.0 refl) in
    let a3 = answers_after 7 _ c.in_ok-read-4.ensures.after (c.in_ok-read-4.ensures.variant.0 refl) in
    let a4 = answers_after 6 _ c.in_ok-read-5.ensures.after (c.in_ok-read-5.ensures.variant.0 refl) in
    let a5 = answers_after 5 _ c.in_ok-read-6.ensures.after (c.in_ok-read-6.ensures.variant.0 refl) in
    let a6 = answers_after 4 _ c.in_ok-read-7.ensures.after (c.in_ok-read-7.ensures.variant.0 refl) in
    let a7 = answers_after 3 _ c.in_ok-read-8.ensures.after (c.in_ok-read-8.ensures.variant.0 refl) in
    let a8 = answers_after 2 _ c.in_ok-read-9.ensures.after (c.in_ok-read-9.ensures.variant.0 refl) in
    let a9 = answers_after 1 _ c.in_ok-read-10.ensures.after (c.in_ok-read-10.ensures.variant.0 refl) in
    let a10 = answers_after 0 _ c.in_ok-read-11.ensures.after (c.in_ok-read-11.ensures.variant.0 refl) in
    grind (arith, answers_length-zero c.read-11.new.rest.now, a0.0, a0.1, a1.0, a1.1, a2.0, a2.1, a3.0, a3.1, a4.0, a4.1, a5.0, a5.1, a6.0, a6.1, a7.0, a7.1, a8.0, a8.1, a9.0, a9.1, a10.0, a10.1)
