use Rattle.sheet_print.proofs.Example.{print-example}
use Rattle.laws.proofs.print_example.Goals as goal

pub returns : goal.returns
returns c = print-example
