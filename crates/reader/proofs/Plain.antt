-- A plain row: its line begins with no blank, `,`, `;` or `/`, has at least L bytes and no byte below 16 among the first L. Laws of a text that begins
-- with it.
use mathlib.Core.Path.{◌≡◌, refl, ap, sym, ◌∙◌}
use mathlib.Core.Logic.{inl, inr}
use mathlib.Core.Bool.{Bool, true, false, cond, ◌&&◌, ◌||◌, not}
use mathlib.Core.List.{List, [], ◌∷◌, ◌++◌}
use Prim.Native.Nat.{ℕ, zero, suc, ◌+◌, ◌-◌, ◌≤◌, ◌<◌}
use native.Mathlib.Numerals.{add-one}
use native.Mathlib.Decide.{dec_lt}
use native.Mathlib.Omega.{arith}
use borrow.Author.Tests.{ne_eqb, ltb-false, leb-true, le-leb, lt-leb}
use lib.Dec.{eqb, ltb, leb}
use lib.ListN.{length, get_or, take, drop, length-append, length-take}
use lib.Seq.{drop-cons, length-take-le, get_or-take, take-take}
use Rattle.std.proofs.lemmas.List.{take_at}
use Rattle.definitions.specs.Lists.{among, up_to, after}
use Rattle.definitions.specs.Lines.{is_blank_byte, trim, is_row_line, kind_of}
use Rattle.definitions.specs.declared.LineKind.TheVariants as line
use Rattle.definitions.proofs.Bools.{and_left, and_right, and-false, equal-turned}
use Rattle.definitions.proofs.Lists.{after-cons}
use Rattle.definitions.proofs.ChartRows.{test-length}
use Rattle.reader.proofs.Cuts.{line-front}
use Rattle.lines.specs.Lines.{first_line}
use Rattle.lines.specs.Words.{first_below, starts_plain}
use Rattle.lines.proofs.Lows.{plain-high}
use Rattle.reader.specs.Reading.{LineStep, near_cells, Below}

-- ---- such a line is a row

-- a line that begins with a byte past `/` loses nothing at its front
pub bare : (l : List ℕ) → 47 < get_or l 0 0 → l ≡ trim l
unfolding is_blank_byte
bare [] h = refl
bare (b ∷ l) h =
    simp (ne_eqb b 9 (omega arith), ne_eqb b 10 (omega arith), ne_eqb b 12 (omega arith), ne_eqb b 13 (omega arith), ne_eqb b 32 (omega arith))

-- the row test holds of a line that is long enough and whose first L bytes have no 13
pub is-row : (L : ℕ) (l : List ℕ) → L ≤ length l → among 13 (take L l) ≡ false → true ≡ is_row_line L l
unfolding is_row_line
is-row L l w e = rw (le-leb L (length l) w, e)

-- and it is a row, unless its first byte is `;` or no more than `/`
pub bare-row : (L : ℕ) (l : List ℕ) → L ≤ length l → among 13 (take L l) ≡ false → 47 < get_or l 0 0 → (get_or l 0 0 ≡ 59 → ⊥) → line.Row ≡ kind_of L l
unfolding kind_of
bare-row L [] w e h n = absurd (omega arith)
bare-row L (b ∷ l) w e h n =
    simp (ne_eqb b 47 (omega arith), ne_eqb b 44 (omega arith), ne_eqb b 59 n, sym (is-row L (b ∷ l) w e))

-- ---- a text that begins with bytes of 16 and more: its first line begins with them, and they have no 13
pub Begins : ℕ → List ℕ → Type 0
Begins n s = (first_line s ≡ take n s ++ first_line (drop n s)) × (after 10 s ≡ after 10 (drop n s)) × (among 13 (take n s) ≡ false)

begins : (n : ℕ) (s : List ℕ) → n ≤ length s → n ≤ first_below 16 s → Begins n s
unfolding Begins first_below first_line up_to
begins zero s h f = (refl, refl, refl)
begins (suc n) [] h f = absurd (omega arith)
begins (suc n) (x ∷ s) h f = go (ltb x 16) refl (begins n s (omega arith)) f
  where
    go : (t : Bool) → ltb x 16 ≡ t → (n ≤ first_below 16 s → Begins n s) → suc n ≤ cond t 0 (suc (first_below 16 s)) → Begins (suc n) (x ∷ s)
    go true e ih g = absurd (omega arith)
    go false e ih g =
        let b = ih (omega arith) in
        let high : 16 ≤ x = omega (arith, ltb-false x 16 e) in (
          rw (ne_eqb x 10 (omega arith)) (ap (λ (l : List ℕ). x ∷ l) b.0),
          rw (after-cons, ne_eqb x 10 (omega arith)) b.1,
          rw (ne_eqb 13 x (omega arith)) b.2,
        )

-- ---- the row test of a text's first line, by the text's bytes
abbrev told : ℕ → List ℕ → List ℕ → Bool
told L r s = leb L (length r) && (not (among 10 (take L s)) && not (among 13 (take L s)))

first-step : (L : ℕ) (s l : List ℕ) (t : Bool) → told L s s ≡ (leb L (length l) && not (among 13 (take L l)))
    → (leb L (length s) && (not (among 10 (take L s)) && not (t || among 13 (take L s)))) ≡ (leb L (length l) && not (t || among 13 (take L l)))
first-step L s l true h = rw (and-false (not (among 10 (take L s))), and-false (leb L (length s)), and-false (leb L (length l)))
first-step L s l false h = h

leb-step : (a b : ℕ) → leb (suc a) (suc b) ≡ leb a b
leb-step a b = elim (dec_lt b a) [
  | yes h ↦ rw (lt-leb (suc a) (suc b) (omega arith), lt-leb a b h)
  | no h ↦ rw (le-leb (suc a) (suc b) (omega arith), le-leb a b (omega arith))
]

pub first_row : (L : ℕ) (s : List ℕ) → told L s s ≡ is_row_line L (first_line s)
unfolding is_row_line first_line up_to
first_row zero s = rw (le-leb 0 (length s) (omega arith), le-leb 0 (length (up_to 10 s)) (omega arith))
first_row (suc L) [] = refl
first_row (suc L) (x ∷ s) = go (eqb x 10) refl (first_row L s)
  where
    go : (t : Bool) → eqb x 10 ≡ t → told L s s ≡ is_row_line L (first_line s) → told (suc L) (x ∷ s) (x ∷ s) ≡ is_row_line (suc L) (cond t [] (x ∷ first_line s))
    go true e ih = rw (equal-turned 10 x, e, lt-leb (suc L) 0 (omega arith), leb-step L (length s)) (and-false (leb L (length s)))
    go false e ih = rw (equal-turned 10 x, e, leb-step L (length s), leb-step L (length (first_line s))) (first-step L s (first_line s) (eqb 13 x) ih)

pub short-first : (L : ℕ) (s : List ℕ) → length s < L → false ≡ is_row_line L (first_line s)
short-first L s h = rw (lt-leb L (length s) h) at (first_row L s)

pub long-first : (L : ℕ) (s : List ℕ) → L ≤ length s → (not (among 10 (take L s)) && not (among 13 (take L s))) ≡ is_row_line L (first_line s)
long-first L s h = rw (le-leb L (length s) h) at (first_row L s)

-- where it is one, its cells are the text's
pub first-cells : (L : ℕ) (s : List ℕ) → is_row_line L (first_line s) ≡ true → take L (first_line s) ≡ take L s
first-cells L s e = ap (take L) (line-front s) ∙ take-take L (length (first_line s)) s (test-length L (first_line s) e)

pub first-within : (L : ℕ) (s : List ℕ) → is_row_line L (first_line s) ≡ true → L ≤ length s
first-within L s e = omega (arith, test-length L (first_line s) e, ap length (line-front s), length-take (length (first_line s)) s)

-- ---- what a row's cells leave of its line

-- The first line of a text that begins with cells of 16 and more: it begins with them, and the text after them has what follows it.
pub record Front (L : ℕ) (s : List ℕ) : Type 0 where
  pub long : L ≤ length (first_line s)
  pub cells : take L (first_line s) ≡ take L s
  pub plain : among 13 (take L s) ≡ false
  pub first : get_or (first_line s) 0 0 ≡ get_or s 0 0
  pub rest : after 10 s ≡ after 10 (drop L s)

front : (L : ℕ) (s : List ℕ) → 1 ≤ L → L ≤ length s → L ≤ first_below 16 s → Front L s
unfolding Begins
front L s some h f =
    let b = begins L s h f in
    let n : length (take L s) ≡ L = length-take-le L s h in
    let cells : take L (first_line s) ≡ take L s = ap (take L) b.0 ∙ take_at (take L s) (first_line (drop L s)) L n in
    record {
      long = omega (arith, ap length b.0, length-append (take L s) (first_line (drop L s)));
      cells = cells;
      plain = b.2;
      first = sym (get_or-take L (first_line s) 0 0 (omega arith)) ∙ ap (λ l. get_or l 0 0) cells ∙ get_or-take L s 0 0 (omega arith);
      rest = b.1;
    }

pub near-long : (L : ℕ) (s : List ℕ) → near_cells L s ≡ true → 12 ≤ length s
near-long L s e = leb-true 12 (length s) (and_left (leb 12 (length s)) (starts_plain L s) e)

pub near-front : (L : ℕ) (s : List ℕ) → 4 ≤ L → L ≤ 10 → near_cells L s ≡ true → 16 ≤ get_or s 0 0 → Front L s
near-front L s low few e first =
    let long = near-long L s e in
    front L s (omega arith) (omega arith) (plain-high L s few (omega arith) first (and_right (leb 12 (length s)) (starts_plain L s) e))

-- ---- what follows it

-- the newline stands right after the cells
pub below-once : (L : ℕ) (s : List ℕ) → L < length s → get_or s L 0 ≡ 10 → drop (L + 1) s ≡ after 10 (drop L s)
below-once L s h e = rw (drop-cons s L 0 h, after-cons, e, add-one)

-- a byte that is none is passed over
pub below-past : (L : ℕ) (s : List ℕ) → L < length s → (get_or s L 0 ≡ 10 → ⊥) → after 10 (drop L s) ≡ after 10 (drop (L + 1) s)
below-past L s h n = rw (drop-cons s L 0 h, after-cons, ne_eqb (get_or s L 0) 10 n, add-one)

-- or the newline stands one byte further
pub below-twice : (L : ℕ) (s : List ℕ) → L + 1 < length s → (get_or s L 0 ≡ 10 → ⊥) → get_or s (L + 1) 0 ≡ 10 → drop (L + 2) s ≡ after 10 (drop L s)
below-twice L s h n e =
    let two : L + 2 ≡ L + 1 + 1 = omega arith in
    rw two (below-once (L + 1) s (omega arith) e ∙ sym (below-past L s (omega arith) n))

-- or past both
pub below-both : (L : ℕ) (s : List ℕ) → L + 1 < length s → (get_or s L 0 ≡ 10 → ⊥) → (get_or s (L + 1) 0 ≡ 10 → ⊥) → after 10 (drop (L + 2) s) ≡ after 10 (drop L s)
below-both L s h n m =
    let two : L + 2 ≡ L + 1 + 1 = omega arith in
    rw two (sym (below-past L s (omega arith) n ∙ below-past (L + 1) s (omega arith) m))

-- or the newline is the last of so many bytes
pub below-step : (L step : ℕ) (s : List ℕ) → LineStep L step → L + 2 ≤ length s → get_or s (step - 1) 0 ≡ 10 → Below (drop step s) (after 10 (drop L s))
below-step L step s w h e = elim (dec_lt (L + 1) step) [
  | no n ↦
      let u : step ≡ L + 1 = omega (arith, w) in
      let v : step - 1 ≡ L = omega arith in
      rw u (inl (sym (below-once L s (omega arith) (rw v at e))))
  | yes y ↦
      let u : step ≡ suc (suc L) = omega (arith, w) in
      let v : step - 1 ≡ suc L = omega arith in
      let nl : get_or s (suc L) 0 ≡ 10 = rw v at e in
      rw (u, drop-cons s L 0 (omega arith), after-cons, drop-cons s (suc L) 0 (omega arith), nl)
      (later (eqb (get_or s L 0) 10) (drop (suc (suc L)) s))
]
  where
    later : (t : Bool) (l : List ℕ) → Below l (cond t (10 ∷ l) (after 10 (10 ∷ l)))
    later true l = inr refl
    later false l = inl (after-cons 10 10 l)
