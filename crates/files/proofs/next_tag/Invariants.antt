-- `files::next_tag` meets its contract: no line before the place that is reached begins with the tag.
use Rattle.std.proofs.Common.{◌≡◌, ◌+◌, ◌-◌, drop, length, option_map}
use Rattle.lines.specs.Lines.{lines_from}
use Rattle.files.specs.Tags.{first_tag, after_tag}
use Rattle.files.proofs.next_tag.Given as goal

abbrev pub invariant-loop-start : goal.invariant-loop-start
invariant-loop-start l = after_tag l.word l.text ≡ option_map (λ t. drop t.end l.text) (first_tag l.word l.start (lines_from l.text l.start))

abbrev pub decreases-loop-start : goal.decreases-loop-start
decreases-loop-start l = length l.text + 1 - l.start
