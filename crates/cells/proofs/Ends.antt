-- A row's test by some of its cells that are all of them.
use mathlib.Core.Path.{◌≡◌, refl, ap, sym, ◌∙◌}
use mathlib.Core.Bool.{Bool, true, false, ◌||◌, or_assoc}
use mathlib.Core.List.{List, [], ◌∷◌, ◌++◌}
use Prim.Native.Nat.{ℕ, zero, suc, ◌+◌, ◌-◌, ◌≤◌, ◌<◌}
use native.Mathlib.Decide.{dec_lt}
use native.Mathlib.Omega.{arith}
use borrow.Author.Tests.{eqb-true, ltb-false}
use lib.Dec.{eqb, ltb}
use lib.ListN.{length, get_or}
use Rattle.std.proofs.lemmas.Bool.{or_parts}
use Rattle.definitions.specs.Lists.{among}
use Rattle.definitions.specs.Lines.{Row}
use Rattle.definitions.specs.Cells.{cell_of, is_arrow}
use Rattle.definitions.specs.Figures.{is_step}
use Rattle.lines.specs.Words.{half_word_at, word_of, bytes_of_word}
use Rattle.lines.proofs.WordBytes.{bytes_read}
use Rattle.lines.proofs.RowWords.{places, picks, AllBelow, place_here, place-later}

-- a row without an arrow has none in a column, and the other way round
no_step : (r : Row) → is_step r ≡ false → (k : ℕ) → k < length r → is_arrow (cell_of (get_or r k 0)) ≡ false
unfolding is_step
no_step [] e k h = absurd (omega arith)
no_step (b ∷ r) e zero h = (or_parts (is_arrow (cell_of b)) (is_step r) e).0
no_step (b ∷ r) e (suc k) h = no_step r (or_parts (is_arrow (cell_of b)) (is_step r) e).1 k (omega arith)

all_none : (r : Row) → ((k : ℕ) → k < length r → is_arrow (cell_of (get_or r k 0)) ≡ false) → is_step r ≡ false
unfolding is_step
all_none [] f = refl
all_none (b ∷ r) f = rw (f 0 (omega arith)) (all_none r (λ k h. f (suc k) (omega arith)))

module _ (r : Row) where
  picks-none : is_step r ≡ false → (ps : List ℕ) → AllBelow (length r) ps → is_step (picks r ps) ≡ false
  unfolding is_step
  picks-none e [] h = refl
  picks-none e (p ∷ ps) h = rw (no_step r e p h.0) (picks-none e ps h.1)

  picked : (k : ℕ) (ps : List ℕ) → is_step (picks r ps) ≡ false → among k ps ≡ true → is_arrow (cell_of (get_or r k 0)) ≡ false
  unfolding is_step
  picked k [] e m = let z : ◌≡◌ {A = ℕ} 0 1 = cc in absurd (omega arith)
  picked k (p ∷ ps) e m = go (eqb k p) refl m (λ n. picked k ps both.1 n)
    where
      both : (is_arrow (cell_of (get_or r p 0)) ≡ false) × (is_step (picks r ps) ≡ false)
      both = or_parts (is_arrow (cell_of (get_or r p 0))) (is_step (picks r ps)) e

      go : (t : Bool) → eqb k p ≡ t → (t || among k ps) ≡ true → (among k ps ≡ true → is_arrow (cell_of (get_or r k 0)) ≡ false) → is_arrow (cell_of (get_or r k 0)) ≡ false
      go true q m ih = rw (eqb-true k p q) both.0
      go false q m ih = ih m

  -- cells at places that are all of the row's
  pub step-picks : (ps : List ℕ) → AllBelow (length r) ps → ((k : ℕ) → k < length r → among k ps ≡ true) → is_step (picks r ps) ≡ is_step r
  step-picks ps low all = go (is_step (picks r ps)) refl (is_step r) refl
    where
      go : (t : Bool) → is_step (picks r ps) ≡ t → (u : Bool) → is_step r ≡ u → is_step (picks r ps) ≡ is_step r
      go t p false q = picks-none q ps low ∙ sym q
      go false p true q = p ∙ sym (all_none r (λ k h. picked k ps p (all k h)))
      go true p true q = p ∙ sym q

  -- the first four cells and four from `mid` on, of up to eight
  pub step-ends : (mid : ℕ) → mid + 4 ≡ length r → mid ≤ 4 → is_step (picks r (places 0 (places mid []))) ≡ is_step r
  step-ends mid e h =
      step-picks (places 0 (places mid []))
      (omega arith, (omega arith, (omega arith, (omega arith, (omega arith, (omega arith, (omega arith, (omega arith, tt))))))))
      (λ k b. elim (dec_lt k 4) [
        | yes a ↦ place_here k 0 (places mid []) (omega arith) (omega arith)
        | no a ↦ place-later k 0 (places mid []) (place_here k mid [] (omega arith) (omega arith))
      ])

  -- the first eight cells and the last eight, of nine to twelve
  pub step-wide : 8 ≤ length r → length r ≤ 12 → is_step (picks r (places 0 (places 4 (places (length r - 8) (places (length r - 4) []))))) ≡ is_step r
  step-wide low high =
      let ends = places (length r - 8) (places (length r - 4) []) in
      step-picks (places 0 (places 4 ends))
      (omega arith, (omega arith, (omega arith, (omega arith, (omega arith, (omega arith, (omega arith, (omega arith, (omega arith, (omega arith, (omega arith, (omega arith, (omega arith, (omega arith, (omega arith, (omega arith, tt))))))))))))))))
      (λ k b. elim (dec_lt k 4) [
        | yes a ↦ place_here k 0 (places 4 ends) (omega arith) (omega arith)
        | no a ↦
            place-later k 0 (places 4 ends)
            (elim (dec_lt k 8) [
              | yes c ↦ place_here k 4 ends (omega arith) (omega arith)
              | no c ↦ place-later k 4 ends (place-later k (length r - 8) (places (length r - 4) []) (place_here k (length r - 4) [] (omega arith) (omega arith)))
            ])
      ])

-- the half word of four cells: the bytes above them are 0, which is no arrow
pub step-four : (r : Row) → length r ≡ 4 → ((k : ℕ) → get_or r k 0 < 256) → is_step (bytes_of_word (half_word_at r 0)) ≡ is_step r
unfolding is_step cell_of word_of
step-four [] e h = absurd (omega arith)
step-four (a ∷ []) e h = absurd (omega arith)
step-four (a ∷ b ∷ []) e h = absurd (omega arith)
step-four (a ∷ b ∷ c ∷ []) e h = absurd (omega arith)
step-four (a ∷ b ∷ c ∷ d ∷ []) e h =
    let word : word_of (a ∷ b ∷ c ∷ d ∷ 0 ∷ 0 ∷ 0 ∷ 0 ∷ []) ≡ half_word_at (a ∷ b ∷ c ∷ d ∷ []) 0 = omega arith in
    ap is_step (bytes_read (a ∷ b ∷ c ∷ d ∷ 0 ∷ 0 ∷ 0 ∷ 0 ∷ []) _ refl (h 0, (h 1, (h 2, (h 3, (h 4, (h 5, (h 6, (h 7, tt)))))))) word)
step-four (a ∷ b ∷ c ∷ d ∷ x ∷ r) e h = absurd (omega arith)

-- two tests joined
pub step-append : (r s : Row) → (is_step r || is_step s) ≡ is_step (r ++ s)
unfolding is_step
step-append [] s = refl
step-append (b ∷ r) s = or_assoc (is_arrow (cell_of b)) (is_step r) (is_step s) ∙ ap (λ t. is_arrow (cell_of b) || t) (step-append r s)

-- between the two tests
pub between : (n : ℕ) → (ltb n 4 || ltb 12 n) ≡ false → (4 ≤ n) × (n ≤ 12)
between n e = let b = or_parts (ltb n 4) (ltb 12 n) e in (ltb-false n 4 b.0, ltb-false 12 n b.1)
