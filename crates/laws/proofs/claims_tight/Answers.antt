use Rattle.definitions.proofs.BeatsNear.{not-within-8192, not-within-8177, not-from-1024, not-past-the-text}
use Rattle.laws.proofs.claims_tight.Goals as goal

pub returns : goal.returns
returns c =
    record {
      half = not-within-8192;
      little_less = not-within-8177;
      measure_1024 = not-from-1024;
      past_the_text = not-past-the-text;
    }
