use Rattle.sheet_json.proofs.Example.{json-example}
use Rattle.laws.proofs.json_example.Goals as goal

pub returns : goal.returns
returns c = json-example
