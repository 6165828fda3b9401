-- `judged_pass::CleanRows::add_taps` meets its contract: such a row leaves every column as it is.
use Rattle.judged.proofs.Rows.{free-passed}
use Rattle.judged.proofs.judged_pass.CleanRows.add_taps.Goals as goal

pub returns : goal.returns
returns c =
    λ row f.
    record {
      depths = free-passed c.args.self.now _ row c.requires.ready f;
      stats = c.judge_taps.ensures row f.mask;
      ready = record { ten = c.requires.ready.ten; low = c.requires.ready.low; active = c.requires.ready.active; busy = c.requires.ready.busy };
    }
