use Rattle.definitions.proofs.Written.Passes.{read-notes-pass}
use Rattle.laws.proofs.written.read_notes_pass.Goals as goal

pub returns : goal.returns
returns c = read-notes-pass
