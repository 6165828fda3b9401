-- `lines::starts_plain` meets its contract: the word's bytes are the last of those that are asked for. Assumes nothing.
use Rattle.std.proofs.Common.{List, ℕ, ◌-◌, nat_le, ap, ◌∙◌, arith, slice_index}
use mathlib.Core.Bool.{◌&&◌}
use Rattle.lines.specs.Words.{first_outside}
use Rattle.lines.proofs.SliceWords.{of_word}
use Rattle.lines.proofs.Lows.{last-told}
use Rattle.lines.proofs.starts_plain.Goals as goal

pub returns : goal.returns
returns c =
    let few = c.min-few.result in
    let text = c.args.«data».now in
    let told = λ (xs : List ℕ). nat_le few (first_outside 16 xs) in
    let last = c.starts_plain.ensures ∙ ap told (of_word 16 text (c.args.n - few) (omega arith) c.halves_at.result (λ k. (c.type_inv.data k).fits) c.halves_at.ensures) in
    ap (λ b. b && nat_le 16 (slice_index text 1)) (last ∙ last-told 16 c.args.n few text (omega arith) (omega arith) (omega arith))
