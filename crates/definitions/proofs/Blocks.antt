-- Lists that are put together from blocks of ten bytes: their length, and what is read from them.
use mathlib.Core.Path.{◌≡◌, refl, sym, ap, ◌∙◌}
use mathlib.Core.List.{List, [], ◌∷◌, ◌++◌, map, append_assoc}
use Prim.Native.Nat.{ℕ, zero, suc, ◌+◌, ◌*◌, ◌<◌}
use native.Mathlib.Nat.{zero-add, suc-mul, zero-mul}
use native.Mathlib.Omega.{arith}
use lib.ListN.{length, get_or, length-append, get_or-append}
use lib.Seq.{get_or-append-add}
use Rattle.definitions.specs.Lists.{joined}

module _ {A : Type 0} (f : A → List ℕ) (ten : (a : A) → length (f a) ≡ 10) where
  pub blocks-append : (xs ys : List A) → joined (map f (xs ++ ys)) ≡ joined (map f xs) ++ joined (map f ys)
  blocks-append [] ys = refl
  blocks-append (x ∷ xs) ys = ap (λ (l : List ℕ). f x ++ l) (blocks-append xs ys) ∙ sym (append_assoc (f x) (joined (map f xs)) (joined (map f ys)))

  pub blocks-length : (xs : List A) → length (joined (map f xs)) ≡ length xs * 10
  blocks-length [] = refl
  blocks-length (x ∷ xs) =
      let h : length (joined (map f xs)) ≡ length xs * 10 = blocks-length xs in
      let t : length (f x) ≡ 10 = ten x in
      simp (length-append, suc-mul) (omega arith)

  -- byte m of block k
  pub blocks-get : (xs : List A) (q : List ℕ) (k m : ℕ) (d : A) → k < length xs → m < 10
      → get_or (joined (map f xs) ++ q) (k * 10 + m) 0 ≡ get_or (f (get_or xs k d)) m 0
  blocks-get [] q k m d h g = absurd (omega arith)
  blocks-get (x ∷ xs) q zero m d h g =
      let t : length (f x) ≡ 10 = ten x in
      rw (zero-mul, zero-add, append_assoc) (get_or-append (f x) (joined (map f xs) ++ q) 0 m (omega arith))
  blocks-get (x ∷ xs) q (suc k) m d h g =
      let t : length (f x) ≡ 10 = ten x in
      let e : suc k * 10 + m ≡ length (f x) + (k * 10 + m) = simp suc-mul (omega arith) in
      rw (e, append_assoc) (get_or-append-add (f x) (joined (map f xs) ++ q) (k * 10 + m) 0 ∙ blocks-get xs q k m d (omega arith) g)
