-- Laws of `up_to`, `through`, `after_first` and `without_end_blanks`, as std's functions on slices meet them.
use mathlib.Core.Logic.{◌⊎◌, inl, inr, ⊎_elim}
use mathlib.Core.Path.{◌≡◌, refl, ap, sym, ◌∙◌}
use mathlib.Core.Bool.{Bool, true, false, cond}
use mathlib.Core.List.{List, [], ◌∷◌}
use Prim.Native.Nat.{ℕ, zero, suc, ◌+◌, ◌-◌, ◌≤◌, ◌<◌}
use native.Mathlib.Numerals.{add-one}
use native.Mathlib.Omega.{arith}
use lib.Dec.{eqb}
use lib.ListN.{length, get_or, take, drop, drop_of_length-le}
use Rattle.std.specs.Prelude.{Some, None}
use Rattle.lines.proofs.Trims.{part-all}
use Rattle.files.specs.Tags.{after_first}
use lib.Seq.{take_all}
use borrow.Author.Tests.{eq-eqb, ne_eqb, eqb-true}
use Rattle.std.specs.Char.{is_ascii_whitespace}
use Rattle.std.specs.Str.{IsTrimAsciiEnd}
use Rattle.std.proofs.lemmas.Bool.Decides.{nat_tests}
use Rattle.definitions.specs.Lists.{up_to, through, after}
use Rattle.definitions.specs.Lines.{is_blank_byte}
use Rattle.definitions.specs.SmFile.{without_end_blanks}
use Rattle.definitions.proofs.Lists.{through-nil, through-cons}

-- the place of the first b, or else the length
pub before_at : (b : ℕ) (s : List ℕ) (n : ℕ) → n ≤ length s → ((k : ℕ) → k < n → get_or s k 0 ≡ b → ⊥) → (n < length s → get_or s n 0 ≡ b) → n ≡ length (up_to b s)
unfolding up_to
before_at b [] n h none there = omega arith
before_at b (x ∷ s) zero h none there = simp (eq-eqb x b (there (omega arith)))
before_at b (x ∷ s) (suc n) h none there =
    simp (ne_eqb x b (none 0 (omega arith)))
    (ap suc (before_at b s n (omega arith) (λ k p. none (suc k) (omega arith)) (λ p. there (omega arith))))

-- std's white space
blank-std : (b : ℕ) → is_ascii_whitespace b ≡ is_blank_byte b
unfolding is_blank_byte
blank-std b = grind (arith, nat_tests)

-- the part through a byte, by what stands before it
pub through-more : (b : ℕ) (s : List ℕ) → length (up_to b s) < length s → through b s ≡ take (length (up_to b s) + 1) s
unfolding through
through-more b s h = rw add-one

pub through-all : (b : ℕ) (s : List ℕ) → length s ≤ length (up_to b s) → through b s ≡ s
unfolding through
through-all b s h = take_all (suc (length (up_to b s))) s (omega arith)

-- what follows it
pub after-part : (b : ℕ) (s : List ℕ) (n : ℕ) → n ≡ length (up_to b s) → n < length s → take (length s - (n + 1)) (drop (n + 1) s) ≡ after b s
unfolding after
after-part b s n e h = rw (part-all, add-one, e) refl

pub after-none : (b : ℕ) (s : List ℕ) → length s ≤ length (up_to b s) → after b s ≡ []
unfolding after
after-none b s h =
    let all : length s ≤ suc (length (up_to b s)) = omega arith in
    drop_of_length-le s all

pub ruleset splits = (through-more, through-all, after-part, after-none)

-- what follows the first b, by what stands before it
first-more : (b : ℕ) (s : List ℕ) → length (up_to b s) < length s → after_first b s ≡ Some (drop (length (up_to b s) + 1) s)
unfolding up_to
first-more b [] h = absurd (omega arith)
first-more b (x ∷ s) h = go (eqb x b) (first-more b s) h
  where
    go : (t : Bool) → (length (up_to b s) < length s → after_first b s ≡ Some (drop (length (up_to b s) + 1) s))
        → length (cond t [] (x ∷ up_to b s)) < length (x ∷ s) → cond t (Some s) (after_first b s) ≡ Some (drop (length (cond t [] (x ∷ up_to b s)) + 1) (x ∷ s))
    go true ih w = refl
    go false ih w =
        let next : suc (length (up_to b s) + 1) ≡ suc (length (up_to b s)) + 1 = omega arith in
        ih (omega arith) ∙ ap (λ n. Some (drop n (x ∷ s))) next

pub first-part : (b : ℕ) (s : List ℕ) (n : ℕ) → n ≡ length (up_to b s) → n < length s → Some (take (length s - (n + 1)) (drop (n + 1) s)) ≡ after_first b s
first-part b s n e h = rw (part-all, e) (sym (first-more b s (omega (arith, e))))

pub first-none : (b : ℕ) (s : List ℕ) → length s ≤ length (up_to b s) → None ≡ after_first b s
unfolding up_to
first-none b [] h = refl
first-none b (x ∷ s) h = go (eqb x b) (first-none b s) h
  where
    go : (t : Bool) → (length s ≤ length (up_to b s) → None ≡ after_first b s) → length (x ∷ s) ≤ length (cond t [] (x ∷ up_to b s)) → None ≡ cond t (Some s) (after_first b s)
    go true ih w = absurd (omega arith)
    go false ih w = ih (omega arith)

pub ruleset firsts = (first-part, first-none)

-- a list that is blank from n on, and not at the place before n
trim-at : (s : List ℕ) (n : ℕ) → n ≤ length s → ((k : ℕ) → n ≤ k → k < length s → is_blank_byte (get_or s k 0) ≡ true) → ((k : ℕ) → suc k ≡ n → is_blank_byte (get_or s k 0) ≡ false) → take n s ≡ without_end_blanks s
trim-at [] zero h all last = refl
trim-at [] (suc n) h all last = absurd (omega arith)
trim-at (b ∷ s) zero h all last =
    rw (← trim-at s zero (omega arith) (λ k p q. all (suc k) (omega arith) (omega arith)) (λ k e. absurd (omega arith))) (simp (all 0 (omega arith) (omega arith)))
trim-at (b ∷ s) (suc zero) h all last =
    rw (← trim-at s zero (omega arith) (λ k p q. all (suc k) (omega arith) (omega arith)) (λ k e. absurd (omega arith))) (simp (last 0 refl))
trim-at (b ∷ []) (suc (suc n)) h all last = absurd (omega arith)
trim-at (b ∷ x ∷ s) (suc (suc n)) h all last =
    rw (← trim-at (x ∷ s) (suc n) (omega arith) (λ k p q. all (suc k) (omega arith) (omega arith)) (λ k e. last (suc k) (ap suc e))) refl

-- std's list without the white space at its end
pub trim_std : (s r : List ℕ) → IsTrimAsciiEnd s r → r ≡ without_end_blanks s
trim_std s r e =
    e.1 ∙ trim-at s e.0 e.3 (λ k p q. sym (blank-std (get_or s k 0)) ∙ e.4 k p q)
    (λ k p. let z : e.0 - 1 ≡ k = omega arith in sym (blank-std (get_or s k 0)) ∙ rw z at (e.5 (omega arith)))

-- the part through a byte ends with it, or is all
pub through-ends : (b : ℕ) (s : List ℕ) → (length (through b s) ≡ length s) ⊎ ((0 < length (through b s)) × (get_or s (length (through b s) - 1) 0 ≡ b))
through-ends b [] = inl (simp through-nil)
through-ends b (x ∷ s) = rw (through-cons b x s) (go (eqb x b) refl (through-ends b s))
  where
    go : (t : Bool) → eqb x b ≡ t → (length (through b s) ≡ length s) ⊎ ((0 < length (through b s)) × (get_or s (length (through b s) - 1) 0 ≡ b))
        → (length (x ∷ cond t [] (through b s)) ≡ length (x ∷ s)) ⊎ ((0 < length (x ∷ cond t [] (through b s))) × (get_or (x ∷ s) (length (x ∷ cond t [] (through b s)) - 1) 0 ≡ b))
    go true e ih = inr (omega arith, eqb-true x b e)
    go false e ih = ⊎_elim
        (λ all. inl (ap suc all))
        (λ some.
        let z : suc (length (through b s)) - 1 ≡ suc (length (through b s) - 1) = omega (arith, some.0) in
        inr (omega arith, rw z some.1))
        ih

-- from a place before the first b on, that b stands where it did
pub up_to-drop : (b : ℕ) (s : List ℕ) (d : ℕ) → d ≤ length (up_to b s) → d + length (up_to b (drop d s)) ≡ length (up_to b s)
unfolding up_to
up_to-drop b s zero h = omega arith
up_to-drop b [] (suc d) h = absurd (omega arith)
up_to-drop b (x ∷ s) (suc d) h = go (eqb x b) (up_to-drop b s d) h
  where
    go : (t : Bool) → (d ≤ length (up_to b s) → d + length (up_to b (drop d s)) ≡ length (up_to b s)) → suc d ≤ length (cond t [] (x ∷ up_to b s)) → suc d + length (up_to b (drop d s)) ≡ length (cond t [] (x ∷ up_to b s))
    go true ih w = absurd (omega arith)
    go false ih w = omega (arith, ih (omega arith))

-- what stands there is b
pub up_to-byte : (b : ℕ) (s : List ℕ) → length (up_to b s) < length s → get_or s (length (up_to b s)) 0 ≡ b
unfolding up_to
up_to-byte b [] h = absurd (omega arith)
up_to-byte b (x ∷ s) h = go (eqb x b) refl (up_to-byte b s) h
  where
    go : (t : Bool) → eqb x b ≡ t → (length (up_to b s) < length s → get_or s (length (up_to b s)) 0 ≡ b) → length (cond t [] (x ∷ up_to b s)) < length (x ∷ s) → get_or (x ∷ s) (length (cond t [] (x ∷ up_to b s))) 0 ≡ b
    go true e ih w = eqb-true x b e
    go false e ih w = ih (omega arith)

-- a list whose rest from k on begins with x
pub drop_head : {A : Type 0} (l : List A) (k : ℕ) (x d : A) (r : List A) → drop k l ≡ x ∷ r → (k < length l) × (get_or l k d ≡ x) × (drop (k + 1) l ≡ r)
drop_head [] zero x d r e = let z : ◌≡◌ {A = ℕ} 0 1 = cc in absurd (omega arith)
drop_head [] (suc k) x d r e = let z : ◌≡◌ {A = ℕ} 0 1 = cc in absurd (omega arith)
drop_head (y ∷ l) zero x d r e = (omega arith, cc, cc)
drop_head (y ∷ l) (suc k) x d r e =
    let h = drop_head l k x d r e in
    let z : suc k + 1 ≡ suc (k + 1) = omega arith in
    (omega (arith, h.0), h.1, rw z h.2)
