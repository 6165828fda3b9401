-- A row of four or eight bytes as a word, and four bytes of a row beside four others.
use Rattle.std.proofs.Common.{◌≡◌, ℕ, suc, ◌+◌, ◌-◌, ◌*◌, ◌<◌, ◌≤◌, Bool, true, false, ◌||◌, eqb, List, [], ◌∷◌, length, get_or, refl, arith, eq-eqb}
use native.Mathlib.Decide.{dec_lt}
use Rattle.definitions.specs.Lists.{among}
use Rattle.definitions.specs.Lines.{Row}
use Rattle.lines.specs.Words.{half_word_at, word_at, word_of, Bytes}

-- four bytes that are read as a half, and eight that are read as a word
pub four : (r : Row) → length r ≡ 4 → word_of r ≡ half_word_at r 0
unfolding word_of
four [] e = absurd (omega arith)
four (a ∷ []) e = absurd (omega arith)
four (a ∷ b ∷ []) e = absurd (omega arith)
four (a ∷ b ∷ c ∷ []) e = absurd (omega arith)
four (a ∷ b ∷ c ∷ d ∷ []) e = omega arith
four (a ∷ b ∷ c ∷ d ∷ x ∷ r) e = absurd (omega arith)

pub eight : (r : Row) → length r ≡ 8 → word_of r ≡ word_at r 0
unfolding word_of
eight [] e = absurd (omega arith)
eight (a ∷ []) e = absurd (omega arith)
eight (a ∷ b ∷ []) e = absurd (omega arith)
eight (a ∷ b ∷ c ∷ []) e = absurd (omega arith)
eight (a ∷ b ∷ c ∷ d ∷ []) e = absurd (omega arith)
eight (a ∷ b ∷ c ∷ d ∷ f ∷ []) e = absurd (omega arith)
eight (a ∷ b ∷ c ∷ d ∷ f ∷ g ∷ []) e = absurd (omega arith)
eight (a ∷ b ∷ c ∷ d ∷ f ∷ g ∷ h ∷ []) e = absurd (omega arith)
eight (a ∷ b ∷ c ∷ d ∷ f ∷ g ∷ h ∷ i ∷ []) e = omega arith
eight (a ∷ b ∷ c ∷ d ∷ f ∷ g ∷ h ∷ i ∷ x ∷ r) e = absurd (omega arith)

pub bytes_of : (r : Row) → ((k : ℕ) → get_or r k 0 < 256) → Bytes r
bytes_of [] h = tt
bytes_of (x ∷ r) h = (h 0, bytes_of r (λ k. h (suc k)))

-- ---- bytes at some places

-- four places from i on, before others
abbrev pub places : ℕ → List ℕ → List ℕ
places i ps = i ∷ (i + 1) ∷ (i + 2) ∷ (i + 3) ∷ ps

abbrev pub picks : Row → List ℕ → Row
picks r [] = []
picks r (p ∷ ps) = get_or r p 0 ∷ picks r ps

-- all are below n
abbrev pub AllBelow : ℕ → List ℕ → Type 0
AllBelow n [] = Unit {0}
AllBelow n (p ∷ ps) = (p < n) × AllBelow n ps

-- the word of four bytes and four others
pub picks-word : (r : Row) (i j : ℕ) → word_of (picks r (places i (places j []))) ≡ half_word_at r i + half_word_at r j * 4294967296
unfolding word_of
picks-word r i j = omega arith

pub picks-bytes : (r : Row) → ((k : ℕ) → get_or r k 0 < 256) → (ps : List ℕ) → Bytes (picks r ps)
picks-bytes r h [] = tt
picks-bytes r h (p ∷ ps) = (h p, picks-bytes r h ps)

either : (x y : Bool) → y ≡ true → (x || y) ≡ true
either true y e = refl
either false y e = e

here : (k p : ℕ) (ps : List ℕ) → k ≡ p → among k (p ∷ ps) ≡ true
here k p ps e = rw (eq-eqb k p e)

-- a place among four, and one among those after them
pub place_here : (k i : ℕ) (ps : List ℕ) → i ≤ k → k < i + 4 → among k (places i ps) ≡ true
place_here k i ps low high =
    elim (dec_lt k (i + 1)) [
      | yes a ↦ here k i ((i + 1) ∷ (i + 2) ∷ (i + 3) ∷ ps) (omega arith)
      | no a ↦
          elim (dec_lt k (i + 2)) [
            | yes b ↦ either (eqb k i) _ (here k (i + 1) ((i + 2) ∷ (i + 3) ∷ ps) (omega arith))
            | no b ↦
                elim (dec_lt k (i + 3)) [
                  | yes c ↦ either (eqb k i) _ (either (eqb k (i + 1)) _ (here k (i + 2) ((i + 3) ∷ ps) (omega arith)))
                  | no c ↦ either (eqb k i) _ (either (eqb k (i + 1)) _ (either (eqb k (i + 2)) _ (here k (i + 3) ps (omega arith))))
                ]
          ]
    ]

pub place-later : (k i : ℕ) (ps : List ℕ) → among k ps ≡ true → among k (places i ps) ≡ true
place-later k i ps e = either (eqb k i) _ (either (eqb k (i + 1)) _ (either (eqb k (i + 2)) _ (either (eqb k (i + 3)) _ e)))

-- ---- places that are all of n: four from 0 on, four from `mid` on and the last four

abbrev pub thirds : ℕ → ℕ → List ℕ
thirds n mid = places 0 (places mid (places (n - 4) []))

pub thirds-below : (n mid : ℕ) → 4 ≤ n → mid + 4 ≤ n → AllBelow n (thirds n mid)
thirds-below n mid low h =
    (omega arith, (omega arith, (omega arith, (omega arith, (omega arith, (omega arith, (omega arith, (omega arith, (omega arith, (omega arith, (omega arith, (omega arith, tt))))))))))))

pub thirds-all : (n mid : ℕ) → n ≤ 12 → mid ≤ 4 → (n ≤ 8 → mid + 4 ≡ n) → (8 ≤ n → mid ≡ 4) → (k : ℕ) → k < n → among k (thirds n mid) ≡ true
thirds-all n mid high h few many k b =
    elim (dec_lt k 4) [
      | yes a ↦ place_here k 0 (places mid (places (n - 4) [])) (omega arith) (omega arith)
      | no a ↦
          place-later k 0 (places mid (places (n - 4) []))
          (elim (dec_lt k 8) [
            | yes c ↦
                elim (dec_lt 8 n) [
                  | yes w ↦ let e = many (omega arith) in place_here k mid (places (n - 4) []) (omega arith) (omega arith)
                  | no w ↦ let e = few (omega arith) in place_here k mid (places (n - 4) []) (omega arith) (omega arith)
                ]
            | no c ↦ place-later k mid (places (n - 4) []) (place_here k (n - 4) [] (omega arith) (omega arith))
          ])
    ]
