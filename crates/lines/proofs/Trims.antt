-- Laws of `without_cr`, as the cases of `trim_cr` meet them, and of a part that runs to a slice's end.
use Rattle.std.proofs.Common.{◌≡◌, ℕ, suc, ◌-◌, ◌<◌, List, [], ◌∷◌, length, get_or, take, drop, ap, arith, length-drop, take_all, eq-eqb, ne_eqb}
use Rattle.definitions.specs.ReadBack.{without_cr}

-- a line that ends in byte 13 loses it
cr-last : (b : ℕ) (s : List ℕ) → get_or (b ∷ s) (length s) 0 ≡ 13 → without_cr (b ∷ s) ≡ take (length s) (b ∷ s)
cr-last b [] e = simp (eq-eqb b 13 e)
cr-last b (b' ∷ s) e = ap {B = List ℕ} (λ l. b ∷ l) (cr-last b' s e)

pub trim-cr-last : (l : List ℕ) → 0 < length l → get_or l (length l - 1) 0 ≡ 13 → without_cr l ≡ take (length l - 1) l
trim-cr-last [] h e = absurd (omega arith)
trim-cr-last (b ∷ s) h e = let z : suc (length s) - 1 ≡ length s = omega arith in rw z (cr-last b s (rw z at e))

-- any other stays
cr-none : (b : ℕ) (s : List ℕ) → (get_or (b ∷ s) (length s) 0 ≡ 13 → ⊥) → without_cr (b ∷ s) ≡ b ∷ s
cr-none b [] e = simp (ne_eqb b 13 e)
cr-none b (b' ∷ s) e = ap {B = List ℕ} (λ l. b ∷ l) (cr-none b' s e)

pub trim-cr-none : (l : List ℕ) → 0 < length l → (get_or l (length l - 1) 0 ≡ 13 → ⊥) → without_cr l ≡ l
trim-cr-none [] h e = absurd (omega arith)
trim-cr-none (b ∷ s) h e = let z : suc (length s) - 1 ≡ length s = omega arith in cr-none b s (rw z at e)

pub ruleset trims = (trim-cr-last, trim-cr-none)

-- a part from a start to the end, as `&s[a..]` has it
pub part-all : (s : List ℕ) (a : ℕ) → take (length s - a) (drop a s) ≡ drop a s
part-all s a = take_all (length s - a) (drop a s) (rw length-drop (omega arith))
