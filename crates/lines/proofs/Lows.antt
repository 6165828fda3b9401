-- The first byte that is not plain, told by the trailing zeros of a word and by eight bytes of a list.
use mathlib.Core.Path.{◌≡◌, refl, ap, sym, ◌∙◌}
use mathlib.Core.Logic.{◌⊎◌, inl, inr, ⊎_elim}
use mathlib.Core.Bool.{Bool, true, false, cond, ◌||◌}
use mathlib.Core.List.{List, [], ◌∷◌}
use Prim.Native.Nat.{ℕ, zero, suc, ◌+◌, ◌-◌, ◌*◌, ◌/◌, ◌%◌, ◌^◌, ◌≤◌, ◌<◌}
use native.Mathlib.Nat.{zero-add, pow-suc}
use native.Mathlib.Decide.{dec_lt}
use native.Mathlib.Omega.{arith}
use borrow.Author.Tests.{eqb-true, eqb-false, eq-eqb, ne_eqb, leb-true, leb-false, le-leb, lt-leb, le-ltb}
use lib.Dec.{eqb, leb, ltb}
use lib.Arith.{mod-mul}
use lib.Pow.{pow_pos}
use lib.Bits.{bit_and, and_mask}
use lib.Count.{count_trailing_zeros, under}
use lib.ListN.{length, take, drop}
use Rattle.std.proofs.lemmas.Nat.{and_assoc}
use Rattle.std.specs.Prelude.{slice_index}
use Rattle.definitions.proofs.Bools.{and_left, and_right}
use Rattle.lines.specs.Words.{first_below, first_outside, starts_plain}

-- ---- trailing zeros

-- a number has j of them where 2 ^ j divides it
step : (j k n d : ℕ) → n % 2 ≡ d → n % 2 ^ suc j ≡ n / 2 % 2 ^ j * 2 + n % 2 → eqb (n / 2 % 2 ^ j) 0 ≡ leb j (count_trailing_zeros k (n / 2))
    → eqb (n % 2 ^ suc j) 0 ≡ leb (suc j) (under d (count_trailing_zeros k (n / 2)))
step j k n zero e m ih = go (eqb (n / 2 % 2 ^ j) 0) refl
  where
    t : ℕ
    t = count_trailing_zeros k (n / 2)

    go : (b : Bool) → eqb (n / 2 % 2 ^ j) 0 ≡ b → eqb (n % 2 ^ suc j) 0 ≡ leb (suc j) (suc t)
    go true q =
        let z : n / 2 % 2 ^ j ≡ 0 = eqb-true _ 0 q in
        let h : j ≤ t = leb-true j t (sym ih ∙ q) in
        rw (eq-eqb (n % 2 ^ suc j) 0 (omega arith), le-leb (suc j) (suc t) (omega arith))
    go false q =
        let z = eqb-false (n / 2 % 2 ^ j) 0 q in
        let h : t < j = leb-false j t (sym ih ∙ q) in
        rw (ne_eqb (n % 2 ^ suc j) 0 (λ y. z (omega arith)), lt-leb (suc j) (suc t) (omega arith))
step j k n (suc d) e m ih = rw (ne_eqb (n % 2 ^ suc j) 0 (λ y. omega arith), lt-leb (suc j) 0 (omega arith))

trailing-mod : (j k n : ℕ) → j ≤ k → eqb (n % 2 ^ j) 0 ≡ leb j (count_trailing_zeros k n)
unfolding count_trailing_zeros
trailing-mod zero k n h = let o : n % 1 ≡ 0 = omega arith in rw (o, le-leb 0 (count_trailing_zeros k n) (omega arith))
trailing-mod (suc j) zero n h = absurd (omega arith)
trailing-mod (suc j) (suc k) n h =
    let m : n % 2 ^ suc j ≡ n / 2 % 2 ^ j * 2 + n % 2 = rw pow-suc (mod-mul n {m = 2 ^ j} {c = 2} (pow_pos j) (omega arith)) in
    step j k n (n % 2) refl m (trailing-mod j k (n / 2) (omega arith))

-- the mask of the first n bytes of a word
mask-of : (n : ℕ) → 1 ≤ n → n ≤ 8 → 18446744073709551615 / 2 ^ (64 - 8 * n) ≡ 2 ^ (8 * n) - 1
mask-of zero a b = absurd (omega arith)
mask-of (suc zero) a b = refl
mask-of (suc (suc zero)) a b = refl
mask-of (suc (suc (suc zero))) a b = refl
mask-of (suc (suc (suc (suc zero)))) a b = refl
mask-of (suc (suc (suc (suc (suc zero))))) a b = refl
mask-of (suc (suc (suc (suc (suc (suc zero)))))) a b = refl
mask-of (suc (suc (suc (suc (suc (suc (suc zero))))))) a b = refl
mask-of (suc (suc (suc (suc (suc (suc (suc (suc zero)))))))) a b = refl
mask-of (suc (suc (suc (suc (suc (suc (suc (suc (suc n))))))))) a b = absurd (omega arith)

eighths : (n t : ℕ) → leb (8 * n) t ≡ leb n (t / 8)
eighths n t = elim (dec_lt (t / 8) n) [
  | yes h ↦ rw (lt-leb (8 * n) t (omega arith), lt-leb n (t / 8) h)
  | no h ↦ rw (le-leb (8 * n) t (omega arith), le-leb n (t / 8) (omega arith))
]

-- No hit among the first n bytes of a word, where its trailing zeros give the first.
pub mask-told : (h n f : ℕ) → 1 ≤ n → n ≤ 8 → count_trailing_zeros 64 h / 8 ≡ f → eqb (bit_and h (18446744073709551615 / 2 ^ (64 - 8 * n))) 0 ≡ leb n f
mask-told h n f a b e =
    rw (mask-of n a b, and_mask) (trailing-mod (8 * n) 64 h (omega arith) ∙ eighths n (count_trailing_zeros 64 h) ∙ ap (leb n) e)

-- the high bits of the first n bytes of a word, two ways
high-of : (n : ℕ) → 1 ≤ n → n ≤ 8 → bit_and 9259542123273814144 (18446744073709551615 / 2 ^ (64 - 8 * n)) ≡ 9259542123273814144 / 2 ^ (64 - 8 * n)
high-of zero a b = absurd (omega arith)
high-of (suc zero) a b = refl
high-of (suc (suc zero)) a b = refl
high-of (suc (suc (suc zero))) a b = refl
high-of (suc (suc (suc (suc zero)))) a b = refl
high-of (suc (suc (suc (suc (suc zero))))) a b = refl
high-of (suc (suc (suc (suc (suc (suc zero)))))) a b = refl
high-of (suc (suc (suc (suc (suc (suc (suc zero))))))) a b = refl
high-of (suc (suc (suc (suc (suc (suc (suc (suc zero)))))))) a b = refl
high-of (suc (suc (suc (suc (suc (suc (suc (suc (suc n))))))))) a b = absurd (omega arith)

-- The same where the hits are told by the high bits of those bytes alone.
pub high-told : (h n f : ℕ) → 1 ≤ n → n ≤ 8 → count_trailing_zeros 64 (bit_and h 9259542123273814144) / 8 ≡ f
    → eqb (bit_and h (9259542123273814144 / 2 ^ (64 - 8 * n))) 0 ≡ leb n f
high-told h n f a b e =
    ap (λ m. eqb m 0) (ap (bit_and h) (sym (high-of n a b)) ∙ sym (and_assoc (18446744073709551615 / 2 ^ (64 - 8 * n)) h 9259542123273814144))
    ∙ mask-told (bit_and h 9259542123273814144) n f a b e

-- ---- lists

-- among the first n bytes it has the same place, or it is none of them
place-near : (k n : ℕ) (s : List ℕ) → (first_outside k (take n s) ≡ first_outside k s) ⊎ ((n ≤ first_outside k (take n s)) × (n ≤ first_outside k s))
unfolding first_outside
place-near k zero s = inr (omega arith, omega arith)
place-near k (suc n) [] = inl refl
place-near k (suc n) (x ∷ s) = go (ltb x k || leb (k + 128) x) (place-near k n s)
  where
    go : (t : Bool) → (first_outside k (take n s) ≡ first_outside k s) ⊎ ((n ≤ first_outside k (take n s)) × (n ≤ first_outside k s))
        → (cond t 0 (suc (first_outside k (take n s))) ≡ cond t 0 (suc (first_outside k s)))
        ⊎ ((suc n ≤ cond t 0 (suc (first_outside k (take n s)))) × (suc n ≤ cond t 0 (suc (first_outside k s))))
    go true h = inl refl
    go false h = ⊎_elim (λ e. inl (ap suc e)) (λ f. inr (omega (arith, f.0), omega (arith, f.1))) h

-- up to n, the first n bytes tell it
near : (k n few : ℕ) (s : List ℕ) → few ≤ n → leb few (first_outside k (take n s)) ≡ leb few (first_outside k s)
near k n few s h =
    ⊎_elim (λ e. ap (leb few) e) (λ f. le-leb few (first_outside k (take n s)) (omega (arith, f.0)) ∙ sym (le-leb few (first_outside k s) (omega (arith, f.1))))
    (place-near k n s)

-- The last `few` of n bytes, by the eight that begin with them.
pub last-told : (k n few : ℕ) (s : List ℕ) → few ≤ 8 → n - few ≡ n - 8 → n - 8 + few ≡ n
    → leb few (first_outside k (take 8 (drop (n - few) s))) ≡ leb n (n - 8 + first_outside k (drop (n - 8) s))
last-told k n few s h d e = rw (near k 8 few (drop (n - few) s) h, d) (ends (first_outside k (drop (n - 8) s)))
  where
    ends : (rest : ℕ) → leb few rest ≡ leb n (n - 8 + rest)
    ends rest = elim (dec_lt rest few) [
      | yes a ↦ rw (lt-leb few rest a, lt-leb n (n - 8 + rest) (omega arith))
      | no a ↦ rw (le-leb few rest (omega arith), le-leb n (n - 8 + rest) (omega arith))
    ]

-- ---- what plain bytes tell

-- a byte below k is none of the 128 from k on
outside-below : (k : ℕ) (s : List ℕ) → first_outside k s ≤ first_below k s
unfolding first_outside first_below
outside-below k [] = omega arith
outside-below k (x ∷ s) = go (ltb x k) (leb (k + 128) x) (outside-below k s)
  where
    go : (t u : Bool) → first_outside k s ≤ first_below k s → cond (t || u) 0 (suc (first_outside k s)) ≤ cond t 0 (suc (first_below k s))
    go true u h = omega arith
    go false true h = omega arith
    go false false h = omega arith

-- past i bytes that are not below k it is i further on
past : (k i : ℕ) (s : List ℕ) → i ≤ first_below k s → first_below k s ≡ i + first_below k (drop i s)
unfolding first_below
past k zero s h = sym (zero-add (first_below k s))
past k (suc i) [] h = absurd (omega arith)
past k (suc i) (x ∷ s) h = go (ltb x k) h (past k i s)
  where
    go : (t : Bool) → suc i ≤ cond t 0 (suc (first_below k s)) → (i ≤ first_below k s → first_below k s ≡ i + first_below k (drop i s))
        → cond t 0 (suc (first_below k s)) ≡ suc i + first_below k (drop i s)
    go true g ih = absurd (omega arith)
    go false g ih = let e = ih (omega arith) in omega arith

-- none of the first two bytes is below k
two-high : (k : ℕ) (s : List ℕ) → 2 ≤ length s → k ≤ slice_index s 0 → k ≤ slice_index s 1 → 2 ≤ first_below k s
unfolding first_below
two-high k [] h a b = absurd (omega arith)
two-high k (x ∷ []) h a b = absurd (omega arith)
two-high k (x ∷ y ∷ s) h a b = rw (le-ltb x k a, le-ltb y k b) (omega arith)

-- None of n bytes that start plain is below 16, where the first is not.
pub plain-high : (n : ℕ) (s : List ℕ) → n ≤ 10 → 2 ≤ length s → 16 ≤ slice_index s 0 → starts_plain n s ≡ true → n ≤ first_below 16 s
plain-high n s few long first e =
    let rest = drop (n - 8) s in
    let word = leb n (n - 8 + first_outside 16 rest) in
    let last : n ≤ n - 8 + first_outside 16 rest = leb-true n _ (and_left word (leb 16 (slice_index s 1)) e) in
    let second : 16 ≤ slice_index s 1 = leb-true 16 _ (and_right word (leb 16 (slice_index s 1)) e) in
    omega (arith, last, outside-below 16 rest, past 16 (n - 8) s (omega (arith, two-high 16 s long first second)))
