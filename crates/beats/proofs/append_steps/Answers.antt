-- `beats::append_steps` meets its contract. The loop's invariant: the slice is as it was, with the first r beats pasted in at `at`.
use Rattle.std.proofs.Common.{ℕ, ◌+◌, ◌^◌, false, sym, ap, ◌∙◌, subst, le_antisymm, length-set, rules}
use lib.Ieee.{Float}
use lib.Ieee.Exact.{HasValue}
use lib.Seq.{paste}
use Rattle.definitions.specs.Beats.{row_beats}
use Rattle.beats.proofs.Row.{steps-are, beat-is}
use Rattle.beats.proofs.Beats.{beats-next, beats-all}
use Rattle.beats.proofs.append_steps.Goals as goal

pub loop-r-preserved : goal.loop-r-preserved
loop-r-preserved c =
    let value = subst (λ (x : Float). HasValue x false c.requires.even.units (2 ^ 43)) (sym c.step_of-step.ensures) c.requires.even.value in
    record {
      within = search rules;
      same_length = length-set c.loop-r.beats (c.args.at + c.loop-r.r) c.steps_beat.result ∙ c.loop-r.invariant.same_length;
      written = beats-next c.args.beats.now c.loop-r.beats c.args.at c.args.midx c.args.rows c.loop-r.r _ c.loop-r.invariant.written c.requires.beats_room c.loop-r-test.true
          (c.steps_beat.ensures c.requires.even.units value
          ∙ steps-are c.args.midx c.loop-r.r c.args.rows c.requires.even.units c.requires.even.whole
          ∙ beat-is c.args.midx c.loop-r.r c.args.rows c.requires.even.units c.requires.even.value);
    }

pub returns : goal.returns
returns c =
    c.loop-r.invariant.written
    ∙ ap (λ (k : ℕ). paste c.args.beats.now c.args.at (row_beats c.args.midx c.args.rows 0 c.args.rows) k) (le_antisymm c.loop-r.invariant.within c.loop-r-test.false)
    ∙ beats-all c.args.beats.now c.args.at c.args.midx c.args.rows
