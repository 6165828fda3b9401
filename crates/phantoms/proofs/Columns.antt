-- Tests over columns.
use mathlib.Core.Path.{◌≡◌, refl, ap₂, ◌∙◌}
use mathlib.Core.Bool.{Bool, true, false, true≢false, ◌||◌, or-false, or-true}
use Prim.Native.Nat.{ℕ, zero, suc, ◌+◌, ◌<◌, ◌≤◌}
use native.Mathlib.Decide.{dec_lt}
use native.Mathlib.Nat.{add-zero, add-suc, not-suc-le-zero}
use native.Mathlib.Omega.{arith}
use Rattle.definitions.specs.Lists.{some_column}

-- tests that agree in the first n columns
pub column-same : (n : ℕ) (p q : ℕ → Bool) → ((c : ℕ) → c < n → p c ≡ q c) → some_column n p ≡ some_column n q
column-same zero p q h = refl
column-same (suc n) p q h = ap₂ ◌||◌ (column-same n p q (λ c k. h c (omega arith))) (h n (omega arith))

pub column-none : (n : ℕ) → some_column n (λ c. false) ≡ false
column-none zero = refl
column-none (suc n) = rw (column-none n)

exchange : (a b p q : Bool) → ((a || b) || (p || q)) ≡ ((a || p) || (b || q))
exchange true b p q = refl
exchange false true true q = refl
exchange false true false q = refl
exchange false false p q = refl

pub column-or : (n : ℕ) (p q : ℕ → Bool) → some_column n (λ c. p c || q c) ≡ (some_column n p || some_column n q)
column-or zero p q = refl
column-or (suc n) p q = rw (column-or n p q) (exchange (some_column n p) (some_column n q) (p n) (q n))

-- columns that pass no test add nothing
pub column-past : (n k : ℕ) (p : ℕ → Bool) → ((c : ℕ) → n ≤ c → p c ≡ false) → some_column (n + k) p ≡ some_column n p
column-past n zero p h = rw add-zero
column-past n (suc k) p h = rw (add-suc, column-past n k p h, h (n + k) (omega arith)) (or-false (some_column n p))

-- none of the columns passes a test
pub column-each : (n : ℕ) (p : ℕ → Bool) → some_column n p ≡ false → (c : ℕ) → c < n → p c ≡ false
column-each zero p e c k = absurd (not-suc-le-zero k)
column-each (suc n) p e c k = go (column-each n p) (some_column n p) (p n) refl refl e
  where
    go : (some_column n p ≡ false → (c : ℕ) → c < n → p c ≡ false) → (s t : Bool) → some_column n p ≡ s → p n ≡ t → (s || t) ≡ false → p c ≡ false
    go rest true t f g q = absurd (true≢false q)
    go rest false t f g q =
        elim (dec_lt c n) [
          | yes b ↦ rest f c b
          | no b ↦ let z : c ≡ n = omega arith in rw z (g ∙ q)
        ]

-- a column that passes a test, and another test that holds wherever that one does
pub column-more : (n : ℕ) (p q : ℕ → Bool) → ((c : ℕ) → c < n → p c ≡ true → q c ≡ true) → some_column n p ≡ true → some_column n q ≡ true
column-more zero p q h e = e
column-more (suc n) p q h e = go (column-more n p q (λ c k. h c (omega arith))) (some_column n p) refl
  where
    go : (some_column n p ≡ true → some_column n q ≡ true) → (t : Bool) → some_column n p ≡ t → (some_column n q || q n) ≡ true
    go rest true f = rw (rest f)
    go rest false f = rw (h n (omega arith) (rw f at e)) (or-true (some_column n q))
