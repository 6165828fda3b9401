-- `files::sm::nth_block` meets its contract, by the list that the iterator gives.
use Rattle.std.proofs.lemmas.Iterator.Consumers.{YieldsList-from_first, nth_from_yields_List}
use Rattle.files.specs.Sm.{part_of, block_parts}
use Rattle.files.proofs.sm.nth_block.Goals as goal

pub returns : goal.returns
returns c =
    nth_from_yields_List c.nth.result c.nth.new.self c.args.k c.nth.ensures.ran (YieldsList-from_first part_of (λ rest. rest) (block_parts c.args.file.now) c.blocks-2.ensures)
