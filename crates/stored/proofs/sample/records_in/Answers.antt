-- `stored::sample::records_in` meets its contract: three numbers of eight bytes, one after the other.
use Rattle.std.proofs.Common.{arith, length-append}
use Rattle.stored.specs.Layout.{long_bytes}
use Rattle.stored.proofs.Joined.{and_then, length-parts, long_at-parts, length-long_bytes}
use Rattle.stored.proofs.sample.records_in.Goals as goal

pub returns-in_err-_seed-clause-variant : goal.returns-in_err-_seed-clause-variant
returns-in_err-_seed-clause-variant c = grind (arith, length-parts c.in_ok-long.ensures.value, length-long_bytes c.in_ok-long.field-0)

pub returns-in_err-long-2-clause-variant : goal.returns-in_err-long-2-clause-variant
returns-in_err-long-2-clause-variant c = grind (arith, length-parts c.in_ok-long.ensures.value, length-long_bytes c.in_ok-long.field-0, length-parts c.in_ok-_seed.ensures.value, length-long_bytes c.in_ok-_seed._seed)

pub returns-clause-value : goal.returns-clause-value
unfolding long_bytes
returns-clause-value c = grind (arith, c.in_ok-long-2.ensures.number, long_at-parts 16 0 (and_then c.in_ok-long.ensures.value c.in_ok-_seed.ensures.value) (length-append (long_bytes c.in_ok-long.field-0) (long_bytes c.in_ok-_seed._seed)))

pub returns-clause-variant : goal.returns-clause-variant
unfolding long_bytes
returns-clause-variant c = grind (arith, c.in_ok-long-2.ensures.number, c.in_ok-long.ensures.number, length-parts c.in_ok-long.ensures.value, length-long_bytes c.in_ok-long.field-0, length-parts c.in_ok-_seed.ensures.value, length-long_bytes c.in_ok-_seed._seed, long_at-parts 16 0 (and_then c.in_ok-long.ensures.value c.in_ok-_seed.ensures.value) (length-append (long_bytes c.in_ok-long.field-0) (long_bytes c.in_ok-_seed._seed)))
