-- `next` of `files::sm::SmBlocks` meets its contract: the first block is the one whose tag is found, and the others stand below the line on which
-- it ends.
use Rattle.std.proofs.Common.{◌≡◌, ◌∷◌, length, sym, ap, ◌∙◌, rules, option_copied}
use Rattle.definitions.specs.SmFile.{notes_tag}
use Rattle.files.specs.Sm.{block_parts}
use Rattle.files.proofs.Charts.{blocks-none, blocks-next}
use Rattle.files.proofs.sm.SmBlocksIterator.next.Goals as goal

pub returns-in_err-tagged-clause-steps : goal.returns-in_err-tagged-clause-steps
unfolding notes_tag
returns-in_err-tagged-clause-steps c =
    let none = sym c.self.view_is ∙ blocks-none _ (sym c.next_tag.ensures ∙ ap option_copied c.in_err-tagged.was) in
    rw c.from_residual.ensures (none, none)

first : (c : goal.After-rest-2-1) → c.args.self.now ≡ record { text = c.split_after.result.0.now; below = c.split_after.result.1.now } ∷ block_parts c.next_line.result.1.now
unfolding notes_tag
first c =
    sym c.self.view_is
    ∙ blocks-next _ _ _ _ _ (sym c.next_tag.ensures ∙ ap option_copied c.in_ok-tagged.was) c.split_after.ensures.front c.split_after.ensures.rest c.next_line.ensures.below

pub returns-clause-steps : goal.returns-clause-steps
returns-clause-steps c = first c

pub returns-clause-goes : goal.returns-clause-goes
returns-clause-goes c = let shorter = ap length (first c) in search rules
