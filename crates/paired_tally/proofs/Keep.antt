-- A row with its paired heads alone, where one of its cells or one of its heads is another.
use mathlib.Core.Path.{◌≡◌, refl, sym, ap, ap₂, ◌∙◌}
use mathlib.Core.List.{List, [], ◌∷◌}
use Prim.Native.Nat.{ℕ, zero, suc, ◌+◌, ◌≤◌, ◌<◌}
use native.Mathlib.Nat.{zero-add}
use native.Mathlib.Omega.{arith}
use lib.ListN.{length, get_or, set}
use Rattle.definitions.specs.Lines.{Row}
use Rattle.definitions.specs.Tracker.{Pair, hold_at, is_head_of}
use Rattle.definitions.specs.Correction.{head_if_paired, keep_row}

module _ (ps ps' : ℕ → List Pair) (i : ℕ) where
  -- the heads of row i are the same, in each column but this one
  abbrev pub SameBut : ℕ → Type 0
  SameBut j = (d : ℕ) → (d ≡ j → ⊥) → is_head_of i (ps' d) ≡ is_head_of i (ps d)

  abbrev pub Same : Type 0
  Same = (d : ℕ) → is_head_of i (ps' d) ≡ is_head_of i (ps d)

  -- those from column c on
  keep-on : (c : ℕ) (r : Row) → ((d : ℕ) → c ≤ d → is_head_of i (ps' d) ≡ is_head_of i (ps d)) → keep_row ps' i c r ≡ keep_row ps i c r
  keep-on c [] f = refl
  keep-on c (b ∷ r) f =
      ap₂ (λ (x : ℕ) (xs : Row). x ∷ xs) (ap (λ p. head_if_paired (hold_at b) p b) (f c (omega arith))) (keep-on (suc c) r (λ d l. f d (omega arith)))

  pub keep-same : (c : ℕ) (r : Row) → Same → keep_row ps' i c r ≡ keep_row ps i c r
  keep-same c r f = keep-on c r (λ d l. f d)

  keep-from : (c k b : ℕ) (r : Row) → k < length r → SameBut (c + k)
      → keep_row ps' i c (set r k b) ≡ set (keep_row ps i c r) k (head_if_paired (hold_at b) (is_head_of i (ps' (c + k))) b)
  keep-from c k b [] h f = absurd (omega arith)
  keep-from c zero b (x ∷ r) h f =
      let z : c + 0 ≡ c = omega arith in
      ap₂ (λ (x : ℕ) (xs : Row). x ∷ xs) (ap (λ n. head_if_paired (hold_at b) (is_head_of i (ps' n)) b) (sym z)) (keep-on (suc c) r (λ d l. f d (λ e. omega arith)))
  keep-from c (suc k) b (x ∷ r) h f =
      let z : c + suc k ≡ suc c + k = omega arith in
      ap₂ (λ (x : ℕ) (xs : Row). x ∷ xs) (ap (λ p. head_if_paired (hold_at x) p x) (f c (λ e. omega arith)))
      (rw z (keep-from (suc c) k b r (omega arith) (rw z at f)))

  -- with another byte in column k, where heads may be others too
  pub keep-set : (k b : ℕ) (r : Row) → k < length r → SameBut k
      → keep_row ps' i 0 (set r k b) ≡ set (keep_row ps i 0 r) k (head_if_paired (hold_at b) (is_head_of i (ps' k)) b)
  keep-set k b r h f = rw zero-add at (keep-from 0 k b r h (rw zero-add f))

-- a byte of it
kept-from : (ps : ℕ → List Pair) (i c k : ℕ) (r : Row) → k < length r
    → get_or (keep_row ps i c r) k 0 ≡ head_if_paired (hold_at (get_or r k 0)) (is_head_of i (ps (c + k))) (get_or r k 0)
kept-from ps i c k [] h = absurd (omega arith)
kept-from ps i c zero (b ∷ r) h = let z : c ≡ c + 0 = omega arith in ap (λ n. head_if_paired (hold_at b) (is_head_of i (ps n)) b) z
kept-from ps i c (suc k) (b ∷ r) h =
    let z : suc c + k ≡ c + suc k = omega arith in
    kept-from ps i (suc c) k r (omega arith) ∙ ap (λ n. head_if_paired (hold_at (get_or r k 0)) (is_head_of i (ps n)) (get_or r k 0)) z

pub kept-byte : (ps : ℕ → List Pair) (i k : ℕ) (r : Row) → k < length r
    → get_or (keep_row ps i 0 r) k 0 ≡ head_if_paired (hold_at (get_or r k 0)) (is_head_of i (ps k)) (get_or r k 0)
kept-byte ps i k r h = rw zero-add at (kept-from ps i 0 k r h)
