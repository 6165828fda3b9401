-- The all-zero test, byte by byte and by words.
use mathlib.Core.Path.{◌≡◌, refl, ap, sym, ◌∙◌}
use mathlib.Core.Bool.{Bool, true, false, ◌&&◌, ◌||◌}
use mathlib.Core.List.{List, [], ◌∷◌, ◌++◌}
use Prim.Native.Nat.{ℕ, zero, suc, ◌+◌, ◌*◌, ◌<◌}
use native.Mathlib.Omega.{arith}
use borrow.Author.Tests.{eqb-true, eqb-false, eq-eqb, ne_eqb}
use lib.Dec.{eqb}
use lib.ListN.{length, get_or}
use Rattle.std.specs.List.{list_all}
use Rattle.definitions.proofs.Columns.{zero-byte}
use Rattle.definitions.specs.Lines.{Row}
use Rattle.definitions.specs.Cells.{cell_of, byte_at}
use Rattle.definitions.specs.Tracker.{hold_at}
use Rattle.definitions.specs.declared.DepthEffect.TheVariants.{Nothing}
use Rattle.definitions.specs.Reduction.{all_zero}
use Rattle.definitions.specs.Lists.{among}
use Rattle.lines.specs.Words.{half_word_at, word_of, Bytes}
use Rattle.lines.proofs.RowWords.{places, picks, picks-bytes, AllBelow}

-- the test by std's
pub zero-all : (r : List ℕ) → list_all (λ b. eqb b 48) r ≡ all_zero r
zero-all [] = refl
zero-all (b ∷ r) = ap (λ t. eqb b 48 && t) (zero-all r)

-- a row of zeros opens, closes and blocks nothing
pub zero-hold : (c : ℕ) (r : Row) → all_zero r ≡ true → hold_at (byte_at c r) ≡ Nothing
unfolding hold_at cell_of
zero-hold c r z = rw (zero-byte c r z)

-- n bytes `0`, and the one word that a row of zeros has
abbrev pub zeros : ℕ → ℕ
zeros zero = 0
zeros (suc n) = zeros n * 256 + 48

pub zero_word : (r : Row) → Bytes r → eqb (word_of r) (zeros (length r)) ≡ all_zero r
unfolding word_of
zero_word [] h = refl
zero_word (b ∷ r) h = go (eqb b 48) refl (eqb (word_of r) (zeros (length r))) refl (zero_word r h.1)
  where
    go : (t : Bool) → eqb b 48 ≡ t → (u : Bool) → eqb (word_of r) (zeros (length r)) ≡ u → eqb (word_of r) (zeros (length r)) ≡ all_zero r
        → eqb (word_of r * 256 + b) (zeros (length r) * 256 + 48) ≡ (eqb b 48 && all_zero r)
    go true p true q ih =
        rw (← ih, p, q) (eq-eqb (word_of r * 256 + b) (zeros (length r) * 256 + 48) (omega (arith, eqb-true b 48 p, eqb-true (word_of r) (zeros (length r)) q)))
    go true p false q ih =
        rw (← ih, p, q)
        (ne_eqb (word_of r * 256 + b) (zeros (length r) * 256 + 48) (λ e. eqb-false (word_of r) (zeros (length r)) q (omega (arith, eqb-true b 48 p))))
    go false p u q ih =
        rw p (ne_eqb (word_of r * 256 + b) (zeros (length r) * 256 + 48) (λ e. eqb-false b 48 p (omega (arith, h.0))))

-- ---- a row by some of its bytes that are all of them

both : (x y : Bool) → (x && y) ≡ true → (x ≡ true) × (y ≡ true)
both true y e = (refl, e)
both false y e = let z : ◌≡◌ {A = ℕ} 0 1 = cc in absurd (omega arith)

byte-zero : (r : Row) → all_zero r ≡ true → (k : ℕ) → k < length r → get_or r k 0 ≡ 48
byte-zero [] e k h = absurd (omega arith)
byte-zero (b ∷ r) e zero h = eqb-true b 48 (both (eqb b 48) (all_zero r) e).0
byte-zero (b ∷ r) e (suc k) h = byte-zero r (both (eqb b 48) (all_zero r) e).1 k (omega arith)

zero-bytes : (r : Row) → ((k : ℕ) → k < length r → get_or r k 0 ≡ 48) → all_zero r ≡ true
zero-bytes [] f = refl
zero-bytes (b ∷ r) f = rw (eq-eqb b 48 (f 0 (omega arith))) (zero-bytes r (λ k h. f (suc k) (omega arith)))

module _ (r : Row) where
  picks-zero : all_zero r ≡ true → (ps : List ℕ) → AllBelow (length r) ps → all_zero (picks r ps) ≡ true
  picks-zero e [] h = refl
  picks-zero e (p ∷ ps) h = rw (eq-eqb (get_or r p 0) 48 (byte-zero r e p h.0)) (picks-zero e ps h.1)

  picked-zero : (k : ℕ) (ps : List ℕ) → all_zero (picks r ps) ≡ true → among k ps ≡ true → get_or r k 0 ≡ 48
  picked-zero k [] e m = let z : ◌≡◌ {A = ℕ} 0 1 = cc in absurd (omega arith)
  picked-zero k (p ∷ ps) e m = go (eqb k p) refl m (λ n. picked-zero k ps two.1 n)
    where
      two : (eqb (get_or r p 0) 48 ≡ true) × (all_zero (picks r ps) ≡ true)
      two = both (eqb (get_or r p 0) 48) (all_zero (picks r ps)) e

      go : (t : Bool) → eqb k p ≡ t → (t || among k ps) ≡ true → (among k ps ≡ true → get_or r k 0 ≡ 48) → get_or r k 0 ≡ 48
      go true q m ih = rw (eqb-true k p q) (eqb-true (get_or r p 0) 48 two.0)
      go false q m ih = ih m

  pub zero-picks : (ps : List ℕ) → AllBelow (length r) ps → ((k : ℕ) → k < length r → among k ps ≡ true) → all_zero (picks r ps) ≡ all_zero r
  zero-picks ps low all = go (all_zero (picks r ps)) refl (all_zero r) refl
    where
      go : (t : Bool) → all_zero (picks r ps) ≡ t → (u : Bool) → all_zero r ≡ u → all_zero (picks r ps) ≡ all_zero r
      go t p true q = picks-zero q ps low ∙ sym q
      go true p false q = p ∙ sym (zero-bytes r (λ k h. picked-zero k ps p (all k h)))
      go false p false q = p ∙ sym q

  -- four bytes as a word
  pub zero-half : ((k : ℕ) → get_or r k 0 < 256) → (i : ℕ) → eqb (half_word_at r i) 808464432 ≡ all_zero (picks r (places i []))
  unfolding word_of
  zero-half h i =
      let e : half_word_at r i ≡ word_of (picks r (places i [])) = omega arith in
      ap (λ (w : ℕ). eqb w 808464432) e ∙ zero_word (picks r (places i [])) (picks-bytes r h (places i []))

pub zero-append : (r s : Row) → (all_zero r && all_zero s) ≡ all_zero (r ++ s)
zero-append [] s = refl
zero-append (b ∷ r) s = go (eqb b 48) (zero-append r s)
  where
    go : (t : Bool) → (all_zero r && all_zero s) ≡ all_zero (r ++ s) → ((t && all_zero r) && all_zero s) ≡ (t && all_zero (r ++ s))
    go true e = e
    go false e = refl
