use Rattle.definitions.specs.RuleExamples.{rule-examples-hold}
use Rattle.laws.proofs.rule_examples_hold.Goals as goal

pub returns : goal.returns
returns c = rule-examples-hold
