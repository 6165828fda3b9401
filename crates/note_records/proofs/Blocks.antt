-- Lists that are put together from blocks of ten bytes: what is stored to them.
use Prim.Native.Nat.{ℕ, zero, suc, ◌+◌, ◌*◌, ◌≤◌, ◌<◌}
use mathlib.Core.Path.{◌≡◌, refl, sym, ap, ◌∙◌}
use mathlib.Core.List.{List, [], ◌∷◌, ◌++◌, map, append-nil, append_assoc}
use native.Mathlib.Nat.{zero-add, add-suc, suc-add, suc-mul, zero-mul}
use native.Mathlib.Omega.{arith}
use lib.ListN.{length, get_or, set, length-set}
use lib.Seq.{sets, set-append_left, sets-eq, drop-length}
use Rattle.definitions.specs.Lists.{joined}
use Rattle.definitions.proofs.Blocks.{blocks-append, blocks-length}

pub add-nine : (n : ℕ) → n + 9 ≡ suc (suc (suc (suc (suc (suc (suc (suc (suc n))))))))
add-nine n = omega arith

set-right : (p q : List ℕ) (m v : ℕ) → set (p ++ q) (length p + m) v ≡ p ++ set q m v
set-right [] q m v = rw zero-add
set-right (x ∷ p) q m v = rw suc-add (ap (λ (l : List ℕ). x ∷ l) (set-right p q m v))

-- stores behind p
pub sets-right : (vs p q : List ℕ) (m : ℕ) → sets (p ++ q) (length p + m) vs ≡ p ++ sets q m vs
sets-right [] p q m = refl
sets-right (v ∷ vs) p q m = rw (set-right p q m v, ← add-suc (length p) m) (sets-right vs p (set q m v) (suc m))

-- stores within x
pub sets-left : (vs x q : List ℕ) (m : ℕ) → m + length vs ≤ length x → sets (x ++ q) m vs ≡ sets x m vs ++ q
sets-left [] x q m h = refl
sets-left (v ∷ vs) x q m h =
    let e : length (set x m v) ≡ length x = length-set x m v in
    rw (set-append_left x q m v (omega arith)) (sets-left vs (set x m v) q (suc m) (omega arith))

-- stores over the whole of x
pub sets-whole : (vs x : List ℕ) → length vs ≡ length x → sets x 0 vs ≡ vs
sets-whole vs x h = sets-eq vs x 0 (omega arith) ∙ rw (zero-add, h, drop-length) (append-nil vs)

module _ {A : Type 0} (f : A → List ℕ) (ten : (a : A) → length (f a) ≡ 10) where
  -- stores within block k, which make it the block of b
  pub blocks-sets : (xs : List A) (q vs : List ℕ) (k m : ℕ) (d b : A) → k < length xs → m + length vs ≤ 10 → sets (f (get_or xs k d)) m vs ≡ f b
      → sets (joined (map f xs) ++ q) (k * 10 + m) vs ≡ joined (map f (set xs k b)) ++ q
  blocks-sets [] q vs k m d b h g e = absurd (omega arith)
  blocks-sets (x ∷ xs) q vs zero m d b h g e =
      let t : length (f x) ≡ 10 = ten x in
      rw (zero-mul, zero-add, append_assoc)
      (sets-left vs (f x) (joined (map f xs) ++ q) m (omega arith) ∙ ap (λ (l : List ℕ). l ++ (joined (map f xs) ++ q)) e ∙ sym (append_assoc (f b) (joined (map f xs)) q))
  blocks-sets (x ∷ xs) q vs (suc k) m d b h g e =
      let t : length (f x) ≡ 10 = ten x in
      let r : suc k * 10 + m ≡ length (f x) + (k * 10 + m) = simp suc-mul (omega arith) in
      rw (r, append_assoc)
      (sets-right vs (f x) (joined (map f xs) ++ q) (k * 10 + m) ∙ ap (λ (l : List ℕ). f x ++ l) (blocks-sets xs q vs k m d b (omega arith) g e)
      ∙ sym (append_assoc (f x) (joined (map f (set xs k b))) q))

  -- one block more, over the ten bytes x
  pub blocks_more : (xs : List A) (x q : List ℕ) (b : A) → length x ≡ 10
      → sets (joined (map f xs) ++ (x ++ q)) (length xs * 10) (f b) ≡ joined (map f (xs ++ (b ∷ []))) ++ q
  blocks_more xs x q b h =
      let t : length (f b) ≡ 10 = ten b in
      let e : length xs * 10 ≡ length (joined (map f xs)) + 0 = rw (blocks-length f ten) (omega arith) in
      rw (e, blocks-append f ten)
      (sets-right (f b) (joined (map f xs)) (x ++ q) 0
      ∙ ap (λ (l : List ℕ). joined (map f xs) ++ l) (sets-left (f b) x q 0 (omega arith) ∙ ap (λ (l : List ℕ). l ++ q) (sets-whole (f b) x (omega arith)))
      ∙ simp (append-nil, append_assoc))
