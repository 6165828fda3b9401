-- `stored::answer::Answer::read` meets its contract: what is read is as long as the lengths say, and each part that is missed is one that they say.
use Rattle.std.proofs.Common.{◌≡◌, refl, ap, ◌∙◌, List, ◌++◌, ℕ, arith}
use Rattle.stored.specs.Layout.{Begins, answer_bytes, answer_length}
use Rattle.stored.proofs.Joined.{and_then, head_of_answer, length-parts, rest-parts, length-number_bytes}
use Rattle.stored.proofs.answer.Answer.read.Goals as goal

-- what is read, and the same bytes put otherwise
abbrev part : {s p r : List ℕ} → Begins s p r → List ℕ
part {p = p} b = p

same-part : {s p q r : List ℕ} (b : Begins s p r) → part b ≡ q → Begins s q r
same-part {r = r} b e = record { parts = b.parts ∙ ap (λ (l : List ℕ). l ++ r) e }

pub returns-in_err-figures-clause-variant : goal.returns-in_err-figures-clause-variant
unfolding answer_length
returns-in_err-figures-clause-variant c = grind arith

pub returns-in_err-text-clause-variant : goal.returns-in_err-text-clause-variant
unfolding answer_length
returns-in_err-text-clause-variant c = grind (arith, c.in_ok-figures.ensures.size, length-parts c.in_ok-figures.ensures.value)

pub returns-in_err-measures-clause-variant : goal.returns-in_err-measures-clause-variant
unfolding answer_length
returns-in_err-measures-clause-variant c = grind (arith, c.in_ok-figures.ensures.size, length-parts c.in_ok-figures.ensures.value, length-parts c.in_ok-text.ensures.value, length-number_bytes c.in_ok-text.text)

pub returns-in_err-beats-clause-variant : goal.returns-in_err-beats-clause-variant
unfolding answer_length
returns-in_err-beats-clause-variant c = grind (arith, c.in_ok-figures.ensures.size, length-parts c.in_ok-figures.ensures.value, length-parts c.in_ok-text.ensures.value, length-number_bytes c.in_ok-text.text, length-parts c.in_ok-measures.ensures.value, length-number_bytes c.in_ok-measures.measures)

pub returns-in_err-notes-clause-variant : goal.returns-in_err-notes-clause-variant
unfolding answer_length
returns-in_err-notes-clause-variant c = grind (arith, c.in_ok-figures.ensures.size, length-parts c.in_ok-figures.ensures.value, length-parts c.in_ok-text.ensures.value, length-number_bytes c.in_ok-text.text, length-parts c.in_ok-measures.ensures.value, length-number_bytes c.in_ok-measures.measures, length-parts c.in_ok-beats.ensures.value, length-number_bytes c.in_ok-beats.beats)

pub returns-in_err-bytes-clause-variant : goal.returns-in_err-bytes-clause-variant
returns-in_err-bytes-clause-variant c =
    let head = head_of_answer c.in_ok-figures.ensures.value c.in_ok-figures.ensures.size c.in_ok-text.ensures.value c.in_ok-text.ensures.number c.in_ok-measures.ensures.value c.in_ok-measures.ensures.number c.in_ok-beats.ensures.value c.in_ok-beats.ensures.number c.in_ok-notes.ensures.value c.in_ok-notes.ensures.number in
    grind (arith, head.0, head.1)

pub returns-in_err-bytes-2-clause-variant : goal.returns-in_err-bytes-2-clause-variant
returns-in_err-bytes-2-clause-variant c =
    let head = head_of_answer c.in_ok-figures.ensures.value c.in_ok-figures.ensures.size c.in_ok-text.ensures.value c.in_ok-text.ensures.number c.in_ok-measures.ensures.value c.in_ok-measures.ensures.number c.in_ok-beats.ensures.value c.in_ok-beats.ensures.number c.in_ok-notes.ensures.value c.in_ok-notes.ensures.number in
    grind (arith, head.0, head.1, length-parts c.in_ok-bytes.ensures.value, c.in_ok-bytes.ensures.size)

pub returns-in_err-bytes-3-clause-variant : goal.returns-in_err-bytes-3-clause-variant
returns-in_err-bytes-3-clause-variant c =
    let head = head_of_answer c.in_ok-figures.ensures.value c.in_ok-figures.ensures.size c.in_ok-text.ensures.value c.in_ok-text.ensures.number c.in_ok-measures.ensures.value c.in_ok-measures.ensures.number c.in_ok-beats.ensures.value c.in_ok-beats.ensures.number c.in_ok-notes.ensures.value c.in_ok-notes.ensures.number in
    grind (arith, head.0, head.1, length-parts c.in_ok-bytes.ensures.value, c.in_ok-bytes.ensures.size, length-parts c.in_ok-bytes-2.ensures.value, c.in_ok-bytes-2.ensures.size)

pub returns-in_err-bytes-4-clause-variant : goal.returns-in_err-bytes-4-clause-variant
returns-in_err-bytes-4-clause-variant c =
    let head = head_of_answer c.in_ok-figures.ensures.value c.in_ok-figures.ensures.size c.in_ok-text.ensures.value c.in_ok-text.ensures.number c.in_ok-measures.ensures.value c.in_ok-measures.ensures.number c.in_ok-beats.ensures.value c.in_ok-beats.ensures.number c.in_ok-notes.ensures.value c.in_ok-notes.ensures.number in
    grind (arith, head.0, head.1, length-parts c.in_ok-bytes.ensures.value, c.in_ok-bytes.ensures.size, length-parts c.in_ok-bytes-2.ensures.value, c.in_ok-bytes-2.ensures.size, length-parts c.in_ok-bytes-3.ensures.value, c.in_ok-bytes-3.ensures.size)

pub returns-clause-after : goal.returns-clause-after
returns-clause-after c =
    let head = head_of_answer c.in_ok-figures.ensures.value c.in_ok-figures.ensures.size c.in_ok-text.ensures.value c.in_ok-text.ensures.number c.in_ok-measures.ensures.value c.in_ok-measures.ensures.number c.in_ok-beats.ensures.value c.in_ok-beats.ensures.number c.in_ok-notes.ensures.value c.in_ok-notes.ensures.number in
    rest-parts _ (and_then (and_then (and_then (and_then (and_then (and_then (and_then (and_then c.in_ok-figures.ensures.value c.in_ok-text.ensures.value) c.in_ok-measures.ensures.value) c.in_ok-beats.ensures.value) c.in_ok-notes.ensures.value) c.in_ok-bytes.ensures.value) c.in_ok-bytes-2.ensures.value) c.in_ok-bytes-3.ensures.value) c.in_ok-bytes-4.ensures.value) (omega (arith, head.0, head.1, length-parts c.in_ok-bytes.ensures.value, c.in_ok-bytes.ensures.size, length-parts c.in_ok-bytes-2.ensures.value, c.in_ok-bytes-2.ensures.size, length-parts c.in_ok-bytes-3.ensures.value, c.in_ok-bytes-3.ensures.size, length-parts c.in_ok-bytes-4.ensures.value, c.in_ok-bytes-4.ensures.size))

pub returns-clause-variant : goal.returns-clause-variant
returns-clause-variant c =
    let head = head_of_answer c.in_ok-figures.ensures.value c.in_ok-figures.ensures.size c.in_ok-text.ensures.value c.in_ok-text.ensures.number c.in_ok-measures.ensures.value c.in_ok-measures.ensures.number c.in_ok-beats.ensures.value c.in_ok-beats.ensures.number c.in_ok-notes.ensures.value c.in_ok-notes.ensures.number in
    grind (arith, head.0, head.1, length-parts c.in_ok-bytes.ensures.value, c.in_ok-bytes.ensures.size, length-parts c.in_ok-bytes-2.ensures.value, c.in_ok-bytes-2.ensures.size, length-parts c.in_ok-bytes-3.ensures.value, c.in_ok-bytes-3.ensures.size, length-parts c.in_ok-bytes-4.ensures.value, c.in_ok-bytes-4.ensures.size)

pub returns-clause-value : goal.returns-clause-value
unfolding answer_bytes
returns-clause-value c =
    let read = and_then (and_then (and_then (and_then (and_then (and_then (and_then (and_then c.in_ok-figures.ensures.value c.in_ok-text.ensures.value) c.in_ok-measures.ensures.value) c.in_ok-beats.ensures.value) c.in_ok-notes.ensures.value) c.in_ok-bytes.ensures.value) c.in_ok-bytes-2.ensures.value) c.in_ok-bytes-3.ensures.value) c.in_ok-bytes-4.ensures.value in
    same-part read (rw (c.in_ok-bytes.ensures.size, c.in_ok-bytes-2.ensures.size, c.in_ok-bytes-3.ensures.size, c.in_ok-bytes-4.ensures.size) refl)
