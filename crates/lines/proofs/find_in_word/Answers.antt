-- `lines::find_in_word` meets its contract: the lowest bit stands in the first such byte. Assumes nothing.
use Rattle.std.proofs.Common.{◌≡◌, ℕ, ◌+◌, ◌/◌, ◌<◌, ◌≤◌, take, drop, sym, ap, ◌∙◌, arith}
use lib.Count.{count_trailing_zeros, trailing_of_zero}
use Rattle.lines.specs.Words.{first_in}
use Rattle.std.specs.Prelude.{Some}
use Rattle.lines.proofs.Search.{found_from}
use Rattle.lines.proofs.Hits.{trailing_lt}
use Rattle.lines.proofs.SliceWords.{of_word, word_in, word_out}
use Rattle.lines.proofs.find_in_word.Goals as goal
use Rattle.lines.proofs.find_in_word.Goals.{After-byte_hits-hits}

-- the place of the lowest bit is that of the first such byte
first : (c : After-byte_hits-hits) → count_trailing_zeros 64 c.byte_hits-hits.result / 8 ≡ first_in c.args.needle (take 8 (drop c.args.i c.args.slice.now))
first c =
    c.byte_hits-hits.ensures
    ∙ ap (first_in c.args.needle) (of_word c.args.needle c.args.slice.now c.args.i c.requires c.word_at.result (λ k. (c.type_inv.slice k).fits) c.word_at.ensures)

pub returns-then-hits-eq0 : goal.returns-then-hits-eq0
returns-then-hits-eq0 c =
    let e = first (goal.at.returns-then-hits-eq0 c).After-byte_hits-hits in
    let h : 8 ≤ count_trailing_zeros 64 c.byte_hits-hits.result / 8 = rw (c.if-hits-eq0.true, trailing_of_zero) (omega arith) in
    found_from c.args.needle c.args.i _
    ∙ word_out _ _ _ c.requires (rw e at h)
    ∙ sym (found_from c.args.needle (c.args.i + 8) _)

pub returns : goal.returns
returns c =
    let e = first (goal.at.returns c).After-byte_hits-hits in
    let h : count_trailing_zeros 64 c.byte_hits-hits.result / 8 < 8 = omega (arith, trailing_lt 64 c.byte_hits-hits.result (omega arith) c.if-hits-eq0.false) in
    found_from c.args.needle c.args.i _
    ∙ word_in _ _ _ c.requires (rw e at h)
    ∙ ap (λ (n : ℕ). Some (c.args.i + n)) (sym e)
