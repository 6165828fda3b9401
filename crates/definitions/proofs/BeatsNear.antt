-- By computing, at single places: where more than the claims on the beats is false, and that the claims hold there as they stand. A claim that
-- goes too far is refused by these.
use Rattle.std.proofs.Common.{refl, arith, lit≤, le→leb}
use lib.Ieee.{round, add, mul, div, of_int}
use Rattle.definitions.specs.Beats.{step, fused, beat_of_row, beat, whole, last_row}
use Rattle.definitions.specs.BeatsNear.{SizeWithin, BeatNear, BeatExact, Nearest48}

-- ---- Where more is false
-- half of 1/4096 is too little, and 1/8177 too
pub not-within-8192 : ¬ SizeWithin 1 8192 715 3784 4091
unfolding beat_of_row fused step round add mul div of_int
not-within-8192 h = le→leb _ _ h.most

pub not-within-8177 : ¬ SizeWithin 1 8177 512 32254 32477
unfolding beat_of_row fused step round add mul div of_int
not-within-8177 h = le→leb _ _ h.least

-- 1/4096 is too little in measure 1,024
pub not-from-1024 : ¬ SizeWithin 1 4096 1024 1563 1583
unfolding beat_of_row fused step round add mul div of_int
not-from-1024 h = le→leb _ _ h.least

-- the measure and its rows are each within reach of an accepted text, but not of one and the same
pub not-past-the-text : ¬ Nearest48 (last_row 5592405 1828774 2396755) 5592405 1828774 2396755
unfolding last_row beat whole round add mul div of_int
not-past-the-text h = le→leb _ _ h.least

-- ---- Where the claims hold
-- 1/4096 where 1/8192 does not
pub near-here : BeatNear 715 3784 4091
unfolding beat_of_row fused step round add mul div of_int
near-here m = record { value = (refl, refl); size = record { most = lit≤ tt; least = lit≤ tt } }

-- nothing is claimed of measure 1,024
pub not-so-late : BeatNear 1024 1563 1583
not-so-late m = absurd (omega arith)

-- nor of rows that divide 384 and not 192: the second of 128 stands at one 48th and a half
pub not-so-fine : BeatExact 0 1 128
not-so-fine m n = absurd (omega arith)

-- there the last beat's whole number is either neighbour, and no whole number is nearer
pub either-neighbour : Nearest48 (last_row 0 1 128) 0 1 128
unfolding last_row beat whole round add mul div of_int
either-neighbour = record { most = lit≤ tt; least = lit≤ tt }
