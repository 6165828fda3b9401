-- The text that is written row by row is that of the measures.
use mathlib.Core.Path.{◌≡◌, refl, ap, ap₂, sym, ◌∙◌}
use mathlib.Core.List.{List, [], ◌∷◌, ◌++◌, append_assoc, append-nil}
use Prim.Native.Nat.{ℕ, zero, suc, ◌+◌, ◌-◌, ◌*◌, ◌≤◌, ◌<◌}
use native.Mathlib.Nat.{mul-suc, mul-add, mul-zero}
use native.Mathlib.Omega.{arith}
use lib.ListN.{length, take, drop, get_or, length-append, length-drop}
use lib.Seq.{take-append_seam, length-take-le}
use Rattle.definitions.specs.Lines.{Row}
use Rattle.definitions.specs.Figures.{row_text, text_of}
use Rattle.definitions.specs.Written.{written_row, written_rows, written_from, written_measures, written_text, written_length, sum_of}
use Rattle.definitions.specs.declared.Note.{Note}
use Rattle.definitions.proofs.Written.Text.{rows-more}
use Rattle.reduction.specs.Rows.{placed}
use Rattle.written.proofs.Parts.{drop-next, drop-end}

-- ---- Bytes placed in a text
pub placed-taken : (text bs : List ℕ) (at : ℕ) → at + length bs ≤ length text → take (at + length bs) (placed at bs text) ≡ take at text ++ bs
placed-taken text bs at h =
    let size : at + length bs ≡ length (take at text ++ bs) = omega (arith, length-append (take at text) bs, length-take-le at text (omega arith)) in
    ap (take (at + length bs)) (sym (append_assoc (take at text) bs (drop (at + length bs) text)))
    ∙ ap (λ n. take n ((take at text ++ bs) ++ drop (at + length bs) text)) size
    ∙ take-append_seam (take at text ++ bs) (drop (at + length bs) text)

pub placed-length : (text bs : List ℕ) (at : ℕ) → at + length bs ≤ length text → length (placed at bs text) ≡ length text
placed-length text bs at h =
    omega (
      arith,
      length-append (take at text) (bs ++ drop (at + length bs) text),
      length-append bs (drop (at + length bs) text),
      length-take-le at text (omega arith),
      length-drop (at + length bs) text,
    )

-- ---- The rows of a measure
pub row-size : (ns : List Note) (i c k : ℕ) → length (written_row ns i c k) ≡ k
row-size ns i c zero = refl
row-size ns i c (suc k) = ap suc (row-size ns i (suc c) k)

pub rows-size : (L : ℕ) (ns : List Note) (i k : ℕ) → length (row_text (written_rows L ns i k)) ≡ (L + 1) * k
rows-size L ns i zero = sym (mul-zero (L + 1))
rows-size L ns i (suc k) =
    length-append (written_row ns i 0 L) (10 ∷ row_text (written_rows L ns (suc i) k))
    ∙ sym (mul-suc (L + 1) k ∙ omega (arith, row-size ns i 0 L, rows-size L ns (suc i) k))

rows-text : (s t : List Row) → row_text (s ++ t) ≡ row_text s ++ row_text t
rows-text [] t = refl
rows-text (r ∷ s) t = ap (λ l. r ++ (10 ∷ l)) (rows-text s t) ∙ sym (append_assoc r (10 ∷ row_text s) (row_text t))

pub record MeasureFrom (L : ℕ) (ns : List Note) (text₀ : List ℕ) (at first k end : ℕ) (text : List ℕ) : Type 0 where
  pub written : take end text ≡ take at text₀ ++ row_text (written_rows L ns first k)
  pub size : end ≡ at + (L + 1) * k
  pub same_length : length text ≡ length text₀

pub measure-start : (L : ℕ) (ns : List Note) (text : List ℕ) (at first : ℕ) → MeasureFrom L ns text at first 0 at text
measure-start L ns text at first =
    record {
      written = sym (append-nil (take at text));
      size = omega (arith, mul-zero (L + 1));
      same_length = refl;
    }

pub more-room : (L at k count n : ℕ) → k < count → at + (L + 1) * count ≤ n → at + (L + 1) * k + (L + 1) ≤ n
more-room L at k count n h q = omega (arith, grow k count h)
  where
    grow : (a b : ℕ) → a < b → (L + 1) * a + (L + 1) ≤ (L + 1) * b
    grow a zero h = absurd (omega arith)
    grow a (suc b) h = go (less a b h)
      where
        less : (a b : ℕ) → a < suc b → (m : ℕ) × (b ≡ a + m)
        less zero b h = (b, omega arith)
        less (suc a) zero h = absurd (omega arith)
        less (suc a) (suc b) h = let r = less a b (omega arith) in (r.0, let e = r.1 in omega arith)

        up : (m : ℕ) → (L + 1) * a ≤ (L + 1) * (a + m)
        up zero = let e : a ≡ a + 0 = omega arith in omega (arith, ap (λ n. (L + 1) * n) e)
        up (suc m) = let e : a + suc m ≡ suc (a + m) = omega arith in omega (arith, up m, ap (λ n. (L + 1) * n) e, mul-suc (L + 1) (a + m))

        go : (m : ℕ) × (b ≡ a + m) → (L + 1) * a + (L + 1) ≤ (L + 1) * suc b
        go r = omega (arith, mul-suc (L + 1) b, up r.0, ap (λ n. (L + 1) * n) r.1)

pub measure-next : {L : ℕ} {ns : List Note} {text₀ : List ℕ} {at first k end : ℕ} {text : List ℕ} → MeasureFrom L ns text₀ at first k end text
    → (row : Row) → row ≡ written_row ns (first + k) 0 L → end + L + 1 ≤ length text
    → (text' : List ℕ) → text' ≡ placed end (row ++ (10 ∷ [])) text → (end' : ℕ) → end' ≡ end + (L + 1) → MeasureFrom L ns text₀ at first (k + 1) end' text'
measure-next {L} {ns} {text₀} {at} {first} {k} {end} {text} x row e room text' f end' g =
    let wide : length row ≡ L = ap length e ∙ row-size ns (first + k) 0 L in
    let bytes : length (row ++ (10 ∷ [])) ≡ L + 1 = omega (arith, length-append row (10 ∷ []), wide) in
    let fits : end + length (row ++ (10 ∷ [])) ≤ length text = omega (arith, bytes) in
    let step : k + 1 ≡ suc k = omega arith in
    record {
      written =
          ap₂ take (omega (arith, bytes)) f
          ∙ placed-taken text (row ++ (10 ∷ [])) end fits
          ∙ ap₂ (λ a b. a ++ (b ++ (10 ∷ []))) x.written e
          ∙ append_assoc (take at text₀) (row_text (written_rows L ns first k)) (written_row ns (first + k) 0 L ++ (10 ∷ []))
          ∙ ap (λ l. take at text₀ ++ l) (sym (rows-text (written_rows L ns first k) (written_row ns (first + k) 0 L ∷ [])))
          ∙ ap (λ rs. take at text₀ ++ row_text rs) (sym (rows-more L ns first k 1));
      size = omega (arith, x.size, ap (λ n. (L + 1) * n) step, mul-suc (L + 1) k);
      same_length = ap length f ∙ placed-length text (row ++ (10 ∷ [])) end fits ∙ x.same_length;
    }

-- ---- What stands after the first measure
pub tail_text : ℕ → List Note → ℕ → List ℕ → List ℕ
tail_text L ns i [] = []
tail_text L ns i (n ∷ counts) = 44 ∷ 10 ∷ (row_text (written_rows L ns i n) ++ tail_text L ns (i + n) counts)

text-tails : (L : ℕ) (ns : List Note) (i n : ℕ) (counts : List ℕ) → text_of (written_from L ns i (n ∷ counts)) ≡ row_text (written_rows L ns i n) ++ tail_text L ns (i + n) counts
unfolding tail_text
text-tails L ns i n [] = sym (append-nil (row_text (written_rows L ns i n)))
text-tails L ns i n (m ∷ counts) = ap (λ l. row_text (written_rows L ns i n) ++ (44 ∷ 10 ∷ l)) (text-tails L ns (i + n) m counts)

tails-size : (L : ℕ) (ns : List Note) (i : ℕ) (counts : List ℕ) → length (tail_text L ns i counts) ≡ (L + 1) * sum_of counts + 2 * length counts
unfolding tail_text
tails-size L ns i [] = omega (arith, mul-zero (L + 1))
tails-size L ns i (n ∷ counts) =
    omega (
      arith,
      length-append (row_text (written_rows L ns i n)) (tail_text L ns (i + n) counts),
      rows-size L ns i n,
      tails-size L ns (i + n) counts,
      mul-add (L + 1) n (sum_of counts),
    )

pub record TextFrom (L : ℕ) (ns : List Note) (counts : List ℕ) (size i first at : ℕ) (text : List ℕ) : Type 0 where
  pub within : i ≤ length counts
  pub sum : sum_of counts ≡ first + sum_of (drop i counts)
  pub written : take at text ++ tail_text L ns first (drop i counts) ≡ written_text L ns counts
  pub ends : at + length (tail_text L ns first (drop i counts)) ≡ written_length L counts
  pub same_length : length text ≡ size

-- after the first measure
pub text-start : (L : ℕ) (ns : List Note) (n : ℕ) (counts text₀ text : List ℕ) (end : ℕ) → MeasureFrom L ns text₀ 0 0 n end text
    → TextFrom L ns (n ∷ counts) (length text₀) 1 n end text
unfolding written_text written_measures written_length
text-start L ns n counts text₀ text end x =
    let e : 0 + n ≡ n = omega arith in
    record {
      within = omega arith;
      sum = refl;
      written =
          ap (λ l. l ++ tail_text L ns n counts) (x.written ∙ ap (λ l. l ++ row_text (written_rows L ns 0 n)) (none text₀))
          ∙ ap (λ k. row_text (written_rows L ns 0 n) ++ tail_text L ns k counts) (sym e)
          ∙ sym (text-tails L ns 0 n counts);
      ends = omega (arith, x.size, tails-size L ns n counts, mul-add (L + 1) n (sum_of counts), less (length counts));
      same_length = x.same_length;
    }
  where
    none : (l : List ℕ) → take 0 l ≡ []
    none [] = refl
    none (y ∷ l) = refl

    less : (k : ℕ) → suc k - 1 ≡ k
    less k = omega arith

pub text-first : {L : ℕ} {ns : List Note} (counts : List ℕ) → 1 ≤ length counts → {text₀ text : List ℕ} {end : ℕ} → MeasureFrom L ns text₀ 0 0 (get_or counts 0 0) end text
    → TextFrom L ns counts (length text₀) 1 (get_or counts 0 0) end text
text-first [] h x = absurd (omega arith)
text-first {L} {ns} (n ∷ counts) h {text₀} {text} {end} x = text-start L ns n counts text₀ text end x

module _ {L : ℕ} {ns : List Note} {counts : List ℕ} {size i first at : ℕ} {text : List ℕ} (x : TextFrom L ns counts size i first at text)
    (h : i < length counts) (room : written_length L counts ≤ size) where
  abbrev n : ℕ
  n = get_or counts i 0

  here : tail_text L ns first (drop i counts) ≡ 44 ∷ 10 ∷ (row_text (written_rows L ns first n) ++ tail_text L ns (first + n) (drop (i + 1) counts))
  unfolding tail_text
  here = ap (tail_text L ns first) (drop-next counts i 0 h)

  here-size : length (tail_text L ns first (drop i counts)) ≡ 2 + (L + 1) * n + length (tail_text L ns (first + n) (drop (i + 1) counts))
  here-size =
      omega (
        arith,
        ap length here,
        length-append (row_text (written_rows L ns first n)) (tail_text L ns (first + n) (drop (i + 1) counts)),
        rows-size L ns first n,
      )

  pub comma-room : at + 2 ≤ length text
  comma-room = omega (arith, x.ends, here-size, x.same_length)

  pub measure-room : at + 2 + (L + 1) * n ≤ length text
  measure-room = omega (arith, x.ends, here-size, x.same_length)

  pub measure-few : sum_of counts ≤ 4194304 → first + n ≤ 4194304
  measure-few q = omega (arith, x.sum, ap sum_of (drop-next counts i 0 h))

  pub text-next : (mid : List ℕ) → mid ≡ placed at (44 ∷ 10 ∷ []) text → (text' : List ℕ) (end : ℕ)
      → take end text' ≡ take (at + 2) mid ++ row_text (written_rows L ns first n) → end ≡ at + 2 + (L + 1) * n → length text' ≡ length mid
      → TextFrom L ns counts size (i + 1) (first + n) end text'
  text-next mid e text' end f g q =
      record {
        within = omega arith;
        sum = omega (arith, x.sum, ap sum_of (drop-next counts i 0 h));
        written =
            ap (λ l. l ++ tail_text L ns (first + n) (drop (i + 1) counts))
            (f ∙ ap (λ l. l ++ row_text (written_rows L ns first n)) (ap (take (at + 2)) e ∙ placed-taken text (44 ∷ 10 ∷ []) at comma-room)
            ∙ append_assoc (take at text) (44 ∷ 10 ∷ []) (row_text (written_rows L ns first n)))
            ∙ append_assoc (take at text) (44 ∷ 10 ∷ row_text (written_rows L ns first n)) (tail_text L ns (first + n) (drop (i + 1) counts))
            ∙ ap (λ l. take at text ++ l) (sym here)
            ∙ x.written;
        ends = omega (arith, x.ends, here-size, g);
        same_length = q ∙ ap length e ∙ placed-length text (44 ∷ 10 ∷ []) at comma-room ∙ x.same_length;
      }

pub text-end : {L : ℕ} {ns : List Note} {counts : List ℕ} {size i first at : ℕ} {text : List ℕ} → TextFrom L ns counts size i first at text → length counts ≤ i
    → (take at text ≡ written_text L ns counts) × (at ≡ written_length L counts)
unfolding tail_text
text-end {L} {ns} {counts} {size} {i} {first} {at} {text} x h =
    let none : tail_text L ns first (drop i counts) ≡ [] = ap (tail_text L ns first) (drop-end counts i h) in
    (sym (append-nil (take at text)) ∙ ap (λ l. take at text ++ l) (sym none) ∙ x.written, omega (arith, x.ends, ap length none))

-- so many measures, whatever rows they have
pub record TextHere (L : ℕ) (ns : List Note) (counts : List ℕ) (size i at : ℕ) (text : List ℕ) : Type 0 where
  pub first : ℕ
  pub here : TextFrom L ns counts size i first at text
