-- `note_records::put_record` meets its contract.
use Rattle.std.proofs.Common.{refl}
use Rattle.definitions.specs.Records.{fields}
use Rattle.note_records.proofs.Blocks.{add-nine}
use native.Mathlib.Numerals.{towards_suc}
use Rattle.note_records.proofs.put_record.Goals as goal

pub returns : goal.returns
unfolding fields
returns c = simp (c.put_word-2.ensures, c.put_word.ensures, towards_suc, add-nine) refl
