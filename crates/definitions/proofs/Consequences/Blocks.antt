-- The blocks of an SM file.
use mathlib.Core.Path.{◌≡◌, refl, ap, sym, ◌∙◌}
use mathlib.Core.Bool.{Bool, true, false, cond}
use mathlib.Core.List.{List, [], ◌∷◌, ◌++◌}
use Prim.Native.Nat.{ℕ, zero, suc, ◌+◌, ◌≤◌, ◌<◌}
use native.Mathlib.Decide.{dec_lt}
use native.Mathlib.Omega.{arith}
use borrow.Author.Tests.{lt-leb, le-leb, eq-eqb, ne_eqb}
use lib.Dec.{eqb, leb}
use lib.ListN.{length, take, drop, length-take}
use lib.Seq.{take-append_seam, drop-append_seam}
use Rattle.std.specs.Prelude.{slice_index}
use Rattle.std.specs.List.{count_by}
use Rattle.definitions.specs.Lists.{up_to, after}
use Rattle.definitions.specs.SmFile.{block_end, blocks, sm_tag, sm_data, sm_start, sm_number}
use Rattle.definitions.specs.SmBlocks.{DataInFile, SemicolonLast, Apart, BlocksApart, Least, LeastRefused}
use Rattle.definitions.specs.Consequences.{DataThere, OneSemicolon, FewBlocks, BlocksDisjoint, ElevenSays}
use Rattle.definitions.proofs.Lists.{count-cons, one-le}
use Rattle.definitions.proofs.Consequences.Places.{first-passing}

-- ---- The data
part-there : (s t r : List ℕ) (a : ℕ) → s ≡ take a s ++ (t ++ r) → a ≤ length s → take (length t) (drop a s) ≡ t
part-there s t r a e h =
    let front : length (take a s) ≡ a = omega (arith, length-take a s) in
    let rest : drop a s ≡ t ++ r = ap (drop a) e ∙ ap (λ n. drop n (take a s ++ (t ++ r))) (sym front) ∙ drop-append_seam (take a s) (t ++ r) in
    ap (take (length t)) rest ∙ take-append_seam t r

pub data-there : DataInFile → DataThere
unfolding DataInFile DataThere
data-there f file k = let p = f file k in part-there file (sm_data file k) _ (sm_start file k) p.parts (omega (arith, p.within))

one-at-last : (b : ℕ) (s : List ℕ) → ((i : ℕ) → i + 1 < length s → slice_index s i ≡ b → ⊥) → count_by (λ x. eqb x b) s ≤ 1
one-at-last b [] h = omega arith
one-at-last b (x ∷ []) h = omega (arith, count-cons (λ x. eqb x b) x [], one-le (eqb x b))
one-at-last b (x ∷ y ∷ s) h =
    rw (count-cons (λ x. eqb x b) x (y ∷ s), ne_eqb x b (h 0 (omega arith)))
    (omega (arith, one-at-last b (y ∷ s) (λ i l e. h (suc i) (omega arith) e)))

after-none : (b : ℕ) (s : List ℕ) → ((i : ℕ) → i + 1 < length s → slice_index s i ≡ b → ⊥) → after b s ≡ []
unfolding after up_to
after-none b [] h = refl
after-none b (x ∷ []) h = go (eqb x b)
  where
    go : (t : Bool) → drop {A = ℕ} (length (cond t [] (x ∷ []))) [] ≡ []
    go true = refl
    go false = refl
after-none b (x ∷ y ∷ s) h = rw (ne_eqb x b (h 0 (omega arith))) (after-none b (y ∷ s) (λ i l e. h (suc i) (omega arith) e))

pub one-semicolon : SemicolonLast → OneSemicolon
unfolding SemicolonLast OneSemicolon
one-semicolon f file k =
    let last : (i : ℕ) → i + 1 < length (sm_data file k) → slice_index (sm_data file k) i ≡ 59 → ⊥ = λ i h. f file k i (omega (arith, h)) in
    (one-at-last 59 (sm_data file k) last, after-none 59 (sm_data file k) last)

-- ---- Where blocks lie
-- at least i bytes stand before the end of block i
bytes-before : (file : List ℕ) → Apart file → (i : ℕ) → i < length (blocks file) → i < block_end file (sm_tag file i)
bytes-before file a zero h = omega (arith, a.nonempty 0 h)
bytes-before file a (suc i) h =
    omega (arith, a.nonempty (suc i) h, a.rising i (suc i) (omega arith) h, bytes-before file a i (omega arith))

pub few-blocks : BlocksApart → FewBlocks
unfolding BlocksApart FewBlocks
few-blocks f file = go (length (blocks file)) refl
  where
    go : (n : ℕ) → length (blocks file) ≡ n → n ≤ length file
    go zero e = omega arith
    go (suc n) e = omega (arith, bytes-before file (f file) n (omega arith), (f file).within n (omega arith))

pub blocks-disjoint : BlocksApart → BlocksDisjoint
unfolding BlocksApart BlocksDisjoint
blocks-disjoint f file p i j h g x y = elim (dec_lt i j) [
  | yes l ↦ absurd (omega (arith, x.1, y.0, (f file).rising i j l g))
  | no l ↦ elim (dec_lt j i) [
    | yes m ↦ absurd (omega (arith, y.1, x.0, (f file).rising j i m h))
    | no m ↦ omega arith
  ]
]

-- ---- What 11 says
pub eleven-says : LeastRefused → ElevenSays
unfolding LeastRefused ElevenSays
eleven-says f file short = (says, first-passing (λ k. eqb (sm_number file k) 11) n below (eq-eqb (sm_number file n) 11 (l.answered n (omega arith))))
  where
    l : Least file
    l = f file short

    n : ℕ
    n = length (blocks file)

    below : (k : ℕ) → k < n → eqb (sm_number file k) 11 ≡ false
    below k h = ne_eqb (sm_number file k) 11 (λ e. omega (arith, h, l.least k e))

    says : (k : ℕ) → eqb (sm_number file k) 11 ≡ leb n k
    says k = elim (dec_lt k n) [
      | yes h ↦ below k h ∙ sym (lt-leb n k h)
      | no h ↦ eq-eqb (sm_number file k) 11 (l.answered k (omega arith)) ∙ sym (le-leb n k (omega arith))
    ]
