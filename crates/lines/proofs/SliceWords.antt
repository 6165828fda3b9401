-- The bytes of a slice that a word is read from, and what a search and a count over the slice learn from them.
use Rattle.std.proofs.Common.{◌≡◌, ℕ, zero, suc, ◌+◌, ◌-◌, ◌*◌, ◌/◌, ◌^◌, ◌<◌, ◌≤◌, Bool, true, false, cond, not, ◌||◌, eqb, List, [], ◌∷◌, ◌++◌, length, get_or, take, drop, sym, refl, ap, ◌∙◌, add-zero, add-suc, arith, take-append-drop, get_or-drop, drop-cons, drop-drop, length-drop, eq-eqb, ne_eqb, eqb-true}
use native.Mathlib.Decide.{dec_lt}
use lib.Count.{count_trailing_zeros, trailing_of_zero}
use lib.ListN.{length-take}
use borrow.Author.Tests.{eqb-false}
use Rattle.definitions.specs.Lists.{among}
use Rattle.std.specs.Prelude.{Some, ◌==◌}
use Rattle.std.specs.List.{position_from}
use Rattle.lines.specs.Search.{count_of}
use Rattle.lines.specs.Words.{half_word_at, word_at, word_of, bytes_of_word, Bytes, first_in}
use Rattle.lines.proofs.WordBytes.{bytes_read}
use Rattle.lines.proofs.Search.{find_from, found_from, count-append}
use Rattle.lines.proofs.Hits.{trailing_lt}

eight-step : (s : List ℕ) (n i k : ℕ) → i + k < length s → take (suc n) (drop (i + k) s) ≡ get_or s (i + k) 0 ∷ take n (drop (i + suc k) s)
eight-step s n i k h = rw (drop-cons s (i + k) 0, add-suc)

eight-bytes : (s : List ℕ) (i : ℕ) → i + 8 ≤ length s → take 8 (drop i s) ≡ get_or s i 0 ∷ get_or s (i + 1) 0 ∷ get_or s (i + 2) 0 ∷ get_or s (i + 3) 0 ∷ get_or s (i + 4) 0 ∷ get_or s (i + 5) 0 ∷ get_or s (i + 6) 0 ∷ get_or s (i + 7) 0 ∷ []
eight-bytes s i h =
    rw (add-zero i) at (eight-step s 7 i 0 (omega arith))
    ∙ rw (eight-step s 6 i 1 (omega arith), eight-step s 5 i 2 (omega arith), eight-step s 4 i 3 (omega arith), eight-step s 3 i 4 (omega arith), eight-step s 2 i 5 (omega arith), eight-step s 1 i 6 (omega arith), eight-step s 0 i 7 (omega arith))

bytes_take : (n : ℕ) (s : List ℕ) → ((k : ℕ) → get_or s k 0 < 256) → Bytes (take n s)
bytes_take zero s h = tt
bytes_take (suc n) [] h = tt
bytes_take (suc n) (x ∷ s) h = (h 0, bytes_take n s (λ k. h (suc k)))

-- a search that ends in the first of two lists
find-in-step : (b k x : ℕ) (xs rest : List ℕ) (t : Bool) → (first_in b xs < length xs → find_from b (suc k) (xs ++ rest) ≡ Some (suc k + first_in b xs))
    → cond t 0 (suc (first_in b xs)) < suc (length xs) → cond t (Some k) (find_from b (suc k) (xs ++ rest)) ≡ Some (k + cond t 0 (suc (first_in b xs)))
find-in-step b k x xs rest true ih h = ap Some (omega arith)
find-in-step b k x xs rest false ih h = ih (omega arith) ∙ ap Some (omega arith)

find-in : (b k : ℕ) (xs rest : List ℕ) → first_in b xs < length xs → find_from b k (xs ++ rest) ≡ Some (k + first_in b xs)
unfolding first_in
find-in b k [] rest h = absurd (omega arith)
find-in b k (x ∷ xs) rest h = find-in-step b k x xs rest (eqb x b) (find-in b (suc k) xs rest) h

-- and one that goes on to the second
find-out-step : (b k x : ℕ) (xs rest : List ℕ) (t : Bool) → (length xs ≤ first_in b xs → find_from b (suc k) (xs ++ rest) ≡ find_from b (suc k + length xs) rest)
    → suc (length xs) ≤ cond t 0 (suc (first_in b xs)) → cond t (Some k) (find_from b (suc k) (xs ++ rest)) ≡ find_from b (k + suc (length xs)) rest
find-out-step b k x xs rest true ih h = absurd (omega arith)
find-out-step b k x xs rest false ih h = ih (omega arith) ∙ ap (λ (n : ℕ). find_from b n rest) (omega arith)

find-out : (b k : ℕ) (xs rest : List ℕ) → length xs ≤ first_in b xs → find_from b k (xs ++ rest) ≡ find_from b (k + length xs) rest
unfolding first_in
find-out b k [] rest h = ap (λ (n : ℕ). find_from b n rest) (omega arith)
find-out b k (x ∷ xs) rest h = find-out-step b k x xs rest (eqb x b) (find-out b (suc k) xs rest) h

module _ (b : ℕ) (s : List ℕ) (i : ℕ) (h : i + 8 ≤ length s) where
  eight-long : length (take 8 (drop i s)) ≡ 8
  eight-long = ap length (eight-bytes s i h)

  word-of : word_of (take 8 (drop i s)) ≡ word_at s i
  unfolding word_of
  word-of = rw (eight-bytes s i h) (omega arith)

  -- the bytes of the word that is read there
  pub of_word : (w : ℕ) → ((k : ℕ) → get_or s k 0 < 256) → w ≡ word_at s i → bytes_of_word w ≡ take 8 (drop i s)
  of_word w small e = bytes_read (take 8 (drop i s)) w eight-long (bytes_take 8 (drop i s) (λ k. rw get_or-drop (small (i + k)))) (word-of ∙ sym e)

  parts : drop i s ≡ take 8 (drop i s) ++ drop (i + 8) s
  parts = sym (take-append-drop 8 (drop i s)) ∙ rw drop-drop

  pub word_in : first_in b (take 8 (drop i s)) < 8 → find_from b i (drop i s) ≡ Some (i + first_in b (take 8 (drop i s)))
  word_in lt = ap (find_from b i) parts ∙ find-in b i (take 8 (drop i s)) _ (rw eight-long lt)

  pub word_out : 8 ≤ first_in b (take 8 (drop i s)) → find_from b i (drop i s) ≡ find_from b (i + 8) (drop (i + 8) s)
  word_out le = ap (find_from b i) parts ∙ find-out b i (take 8 (drop i s)) _ (rw eight-long le) ∙ ap (λ (n : ℕ). find_from b (i + n) (drop (i + 8) s)) eight-long

  pub word_count : count_of b (drop i s) ≡ count_of b (take 8 (drop i s)) + count_of b (drop (i + 8) s)
  word_count = ap (count_of b) parts ∙ count-append b (take 8 (drop i s)) (drop (i + 8) s)

-- a word by its halves
pub halves : (s : List ℕ) (i : ℕ) → half_word_at s i + half_word_at s (i + 4) * 4294967296 ≡ word_at s i
halves s i =
    let a : i + 4 + 1 ≡ i + 5 = omega arith in
    let b : i + 4 + 2 ≡ i + 6 = omega arith in
    let c : i + 4 + 3 ≡ i + 7 = omega arith in
    rw (a, b, c) (omega arith)

-- ---- a byte among those of a word

-- it is among them where its first place is one of theirs
in_place : (b : ℕ) (xs : List ℕ) → first_in b xs < length xs → among b xs ≡ true
unfolding first_in
in_place b [] h = absurd (omega arith)
in_place b (x ∷ xs) h = go (eqb x b) refl h (in_place b xs)
  where
    go : (t : Bool) → eqb x b ≡ t → cond t 0 (suc (first_in b xs)) < suc (length xs) → (first_in b xs < length xs → among b xs ≡ true) → (eqb b x || among b xs) ≡ true
    go true e h ih = rw (eq-eqb b x (sym (eqb-true x b e)))
    go false e h ih = rw (ne_eqb b x (λ q. eqb-false x b e (sym q))) (ih (omega arith))

no_place : (b : ℕ) (xs : List ℕ) → length xs ≤ first_in b xs → among b xs ≡ false
unfolding first_in
no_place b [] h = refl
no_place b (x ∷ xs) h = go (eqb x b) refl h (no_place b xs)
  where
    go : (t : Bool) → eqb x b ≡ t → suc (length xs) ≤ cond t 0 (suc (first_in b xs)) → (length xs ≤ first_in b xs → among b xs ≡ false) → (eqb b x || among b xs) ≡ false
    go true e h ih = absurd (omega arith)
    go false e h ih = rw (ne_eqb b x (λ q. eqb-false x b e (sym q))) (ih (omega arith))

-- and so where `byte_hits` has a bit
pub hits-among : (b r : ℕ) (xs : List ℕ) → length xs ≡ 8 → r < 2 ^ 64 → count_trailing_zeros 64 r / 8 ≡ first_in b xs → not (eqb r 0) ≡ among b xs
hits-among b r xs eight h e = go (eqb r 0) refl
  where
    go : (t : Bool) → eqb r 0 ≡ t → not (eqb r 0) ≡ among b xs
    go true q =
        let z : r ≡ 0 = eqb-true r 0 q in
        let far : count_trailing_zeros 64 r ≡ 64 = rw (z, trailing_of_zero) in
        rw q (sym (no_place b xs (omega arith)))
    go false q =
        let near : count_trailing_zeros 64 r < 64 = trailing_lt 64 r h (eqb-false r 0 q) in
        rw q (sym (in_place b xs (omega arith)))

-- a list that does not have it is passed
pub find-past : (b k : ℕ) (xs rest : List ℕ) → among b xs ≡ false → find_from b k (xs ++ rest) ≡ find_from b (k + length xs) rest
find-past b k xs rest e = elim (dec_lt (first_in b xs) (length xs)) [
  | yes lt ↦ let z : ◌≡◌ {A = ℕ} 0 1 = (let t : among b xs ≡ true = in_place b xs lt in cc) in absurd (omega arith)
  | no ge ↦ find-out b k xs rest (omega arith)
]

-- and so are 32 bytes
module _ (b : ℕ) (s : List ℕ) (i : ℕ) (h : i + 32 ≤ length s) where
  pub block_passed : among b (take (i + 32 - i) (drop i s)) ≡ false
      → position_from (λ x. x == b) i (drop i s) ≡ position_from (λ x. x == b) (i + 32) (drop (i + 32) s)
  block_passed e =
      let few : i + 32 - i ≡ 32 = omega arith in
      let parts : drop i s ≡ take 32 (drop i s) ++ drop (i + 32) s = sym (take-append-drop 32 (drop i s)) ∙ rw drop-drop in
      let long : length (take 32 (drop i s)) ≡ 32 = rw (length-take, length-drop) (omega arith) in
      found_from b i _
      ∙ ap (find_from b i) parts
      ∙ find-past b i (take 32 (drop i s)) _ (rw few at e)
      ∙ ap (λ (n : ℕ). find_from b (i + n) (drop (i + 32) s)) long
      ∙ sym (found_from b (i + 32) _)
