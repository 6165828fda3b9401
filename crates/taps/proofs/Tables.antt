-- A rule of a table, carried from one equation of lists, which antt computes, to each of its entries.
use mathlib.Core.Path.{◌≡◌, refl, ap, sym, ◌∙◌}
use mathlib.Core.List.{List, [], ◌∷◌}
use Prim.Native.Nat.{ℕ, zero, suc, ◌+◌, ◌<◌}
use native.Mathlib.Nat.{add-zero, zero-add, add-suc, suc-add, le_of_suc-le-suc, not-suc-le-zero}
use lib.ListN.{get_or}

module _ {A : Type 0} where
  -- f at n numbers from i on
  abbrev pub up_from : (ℕ → A) → ℕ → ℕ → List A
  up_from f i zero = []
  up_from f i (suc n) = f i ∷ up_from f (suc i) n

  from : (f : ℕ → A) (i n k : ℕ) (d : A) → k < n → get_or (up_from f i n) k d ≡ f (i + k)
  from f i zero k d h = absurd (not-suc-le-zero h)
  from f i (suc n) zero d h = ap f (sym (add-zero i))
  from f i (suc n) (suc k) d h = from f (suc i) n k d (le_of_suc-le-suc h) ∙ ap f (suc-add i k ∙ sym (add-suc i k))

  -- a table that is f at each of the numbers below n
  pub entry : (table : List A) (f : ℕ → A) (n : ℕ) → table ≡ up_from f 0 n → (k : ℕ) (d : A) → k < n → get_or table k d ≡ f k
  entry table f n e k d h = ap (λ l. get_or l k d) e ∙ from f 0 n k d h ∙ ap f (zero-add k)

  -- two functions that agree in one list of their values
  pub same_at : (f g : ℕ → A) (n : ℕ) → up_from f 0 n ≡ up_from g 0 n → (k : ℕ) → k < n → f k ≡ g k
  same_at f g n e k h = sym (entry (up_from f 0 n) f n refl k (f k) h) ∙ entry (up_from f 0 n) g n e k (f k) h
