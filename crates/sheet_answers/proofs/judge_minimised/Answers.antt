-- `sheet_answers::judge_minimised` meets its contract: without its last byte the minimised text is no longer than what it was minimised from.
use native.Mathlib.Omega.{arith}
use lib.ListN.{length-take}
use Rattle.sheet_answers.proofs.judge_minimised.Goals as goal

pub judge_accepted-requires-clause-text_length : goal.judge_accepted-requires-clause-text_length
judge_accepted-requires-clause-text_length c =
    omega (arith, c.requires.text_length, c.saturating_sub-end.ensures, length-take c.saturating_sub-end.result c.args.minimised.now)
