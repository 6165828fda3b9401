-- What is read off the front of some bytes, a part at a time.
use Rattle.std.proofs.Common.{◌≡◌, refl, ap, sym, ◌∙◌, List, [], ◌∷◌, ◌++◌, ℕ, suc, ◌+◌, ◌≤◌, length, take, drop, add-zero, arith, length-append, length-drop}
use Rattle.std.proofs.lemmas.List.{append_assoc, append-nil, take-append-drop}
use Rattle.std.proofs.Math.Seq.{drop-append-add}
use Rattle.stored.specs.Layout.{Begins, number_bytes, long_bytes, number_at, long_at, answer_length, answers_length}

-- a part more
pub and_then : {s p r b q : List ℕ} → Begins s p r → Begins r b q → Begins s (p ++ b) q
and_then {p = p} {b = b} {q = q} e f = record { parts = e.parts ∙ ap (λ (l : List ℕ). p ++ l) f.parts ∙ sym (append_assoc p b q) }

-- a part that nothing follows
pub whole : {s p q : List ℕ} → Begins s p q → length q ≡ 0 → s ≡ p
whole {p = p} {q = []} e h = e.parts ∙ append-nil p
whole {q = x ∷ q} e h = absurd (omega arith)

-- the first n of them, and the others
pub first_part : (s p r : List ℕ) (n : ℕ) → p ≡ take n s → r ≡ drop n s → Begins s p r
first_part s p r n e f = record { parts = sym (take-append-drop n s) ∙ ap (λ (l : List ℕ). l ++ drop n s) (sym e) ∙ ap (λ (l : List ℕ). p ++ l) (sym f) }

-- their lengths together
pub length-parts : {s p r : List ℕ} → Begins s p r → length s ≡ length p + length r
length-parts {p = p} {r = r} e = ap length e.parts ∙ length-append p r

-- what stands in what is left stands in the whole, so many bytes on
pub drop-parts : {s p r : List ℕ} (n k : ℕ) → Begins s p r → length p ≡ n → drop (n + k) s ≡ drop k r
drop-parts {s} {p} {r} n k e h = ap (drop (n + k)) e.parts ∙ ap (λ m. drop (m + k) (p ++ r)) (sym h) ∙ drop-append-add p r k

-- what is left, where the lengths say how much that is
pub rest-parts : {s p r : List ℕ} (n : ℕ) → Begins s p r → length s ≡ n + length r → r ≡ drop n s
rest-parts {s} n e h = sym (ap (λ (m : ℕ). drop m s) (sym (add-zero n)) ∙ drop-parts n 0 e (omega (arith, h, length-parts e)))

-- a number in what is left, so many bytes on in the whole
pub number_at-parts : {s p r : List ℕ} (n k : ℕ) → Begins s p r → length p ≡ n → number_at s (n + k) ≡ number_at r k
unfolding number_at
number_at-parts n k e h = rw (drop-parts n k e h) refl

pub long_at-parts : {s p r : List ℕ} (n k : ℕ) → Begins s p r → length p ≡ n → long_at s (n + k) ≡ long_at r k
unfolding long_at
long_at-parts n k e h = rw (drop-parts n k e h) refl

-- how many bytes a number takes
pub length-number_bytes : (n : ℕ) → length (number_bytes n) ≡ 4
unfolding number_bytes
length-number_bytes n = refl

pub length-long_bytes : (n : ℕ) → length (long_bytes n) ≡ 8
unfolding long_bytes
length-long_bytes n = refl

-- a part, and a number after it
more : (p : List ℕ) {n : ℕ} (a : ℕ) → length p ≡ n → length (p ++ number_bytes a) ≡ n + 4
more p a h = omega (arith, h, length-append p (number_bytes a), length-number_bytes a)

-- what the figures and the lengths of an answer say
pub head_of_answer : {s f r r1 r2 r3 r4 : List ℕ} {a b c d : ℕ} → Begins s f r → length f ≡ 256 → Begins r (number_bytes a) r1 → a ≡ number_at r 0 → Begins r1 (number_bytes b) r2 → b ≡ number_at r1 0 → Begins r2 (number_bytes c) r3 → c ≡ number_at r2 0 → Begins r3 (number_bytes d) r4 → d ≡ number_at r3 0 → (answer_length s ≡ 272 + a + b + c + d) × (length s ≡ 272 + length r4)
unfolding answer_length
head_of_answer {a = a} {b = b} {c = c} {d = d} e l ea is_a eb is_b ec is_c ed is_d =
    let fa = and_then e ea in
    let fb = and_then fa eb in
    let fc = and_then fb ec in (
      omega (arith, is_a, number_at-parts 256 0 e l, is_b, number_at-parts 260 0 fa (more _ a l), is_c, number_at-parts 264 0 fb (more _ b (more _ a l)), is_d, number_at-parts 268 0 fc (more _ c (more _ b (more _ a l)))),
      omega (arith, l, length-parts e, length-parts ea, length-parts eb, length-parts ec, length-parts ed, length-number_bytes a, length-number_bytes b, length-number_bytes c, length-number_bytes d),
    )

-- how long no answers are, and one more than n
pub answers_length-zero : (s : List ℕ) → answers_length 0 s ≡ 0
unfolding answers_length
answers_length-zero s = refl

pub answers_length-suc : (n : ℕ) (s : List ℕ) → answers_length (suc n) s ≡ answer_length s + answers_length n (drop (answer_length s) s)
unfolding answers_length
answers_length-suc n s = refl

-- an answer, and those after it
pub answers_after : (n : ℕ) (s : List ℕ) {r : List ℕ} → r ≡ drop (answer_length s) s → answer_length s ≤ length s → (answers_length (suc n) s ≡ answer_length s + answers_length n r) × (length s ≡ answer_length s + length r)
answers_after n s e h = (answers_length-suc n s ∙ ap (λ (l : List ℕ). answer_length s + answers_length n l) (sym e), omega (arith, h, ap length e, length-drop (answer_length s) s))

-- what the lengths at the front of a record say
pub head_of_record : {s r q t : List ℕ} {a b : ℕ} (l : ℕ) → Begins s (number_bytes a) r → a ≡ number_at s 0 → Begins r (number_bytes b) q → b ≡ number_at r 0 → Begins q (long_bytes l) t → (number_at s 0 ≡ a) × (number_at s 4 ≡ b) × (length s ≡ 16 + length t)
head_of_record {a = a} {b = b} l ea is_a eb is_b el = (
  sym is_a,
  number_at-parts 4 0 ea (length-number_bytes a) ∙ sym is_b,
  omega (arith, length-parts ea, length-parts eb, length-parts el, length-number_bytes a, length-number_bytes b, length-long_bytes l),
)
