-- Lists, numbered from k, that agree at every place but d; and the key law: texts that differ only in lines of measure d have such measures.
use mathlib.Core.Path.{◌≡◌, refl, ap}
use mathlib.Core.Bool.{false, true≢false}
use mathlib.Core.List.{List, [], ◌∷◌, map}
use Prim.Native.Nat.{ℕ, zero, suc, ◌+◌, ◌<◌}
use native.Mathlib.Omega.{arith}
use lib.ListN.{length, take, drop}
use Rattle.std.specs.Prelude.{slice_get}
use Rattle.std.specs.List.{onto_first}
use Rattle.definitions.specs.Lines.{Row, line_kind, line_row}
use Rattle.definitions.specs.Measures.{add_line, measures, chart}
use Rattle.definitions.specs.Beats.{beats_from}
use Rattle.definitions.specs.declared.LineKind.{LineKind}
use Rattle.definitions.specs.declared.LineKind.TheVariants as line
use Rattle.definitions.specs.Damage.{Standing, ended, over, after, ends, Struck, done, stay, out, Differ, SameBut}

module _ {A : Type 0} where
  pub data But (d : ℕ) : ℕ → List A → List A → Type 0 where
    none : {k : ℕ} → But d k [] []
    other : {k : ℕ} {a : A} {s t : List A} → But d (suc k) s t → But d k (a ∷ s) (a ∷ t)
    here : {k : ℕ} {a b : A} {s t : List A} → k ≡ d → But d (suc k) s t → But d k (a ∷ s) (b ∷ t)

  pub but-refl : {d : ℕ} (k : ℕ) (s : List A) → But d k s s
  but-refl k [] = none
  but-refl k (a ∷ s) = other (but-refl (suc k) s)

  pub but-sym : {d k : ℕ} {s t : List A} → But d k s t → But d k t s
  but-sym none = none
  but-sym (other h) = other (but-sym h)
  but-sym (here e h) = here e (but-sym h)

  pub but-trans : {d k : ℕ} {s t u : List A} → But d k s t → But d k t u → But d k s u
  but-trans none none = none
  but-trans (other g) (other h) = other (but-trans g h)
  but-trans (other g) (here e h) = here e (but-trans g h)
  but-trans (here e g) (other h) = here e (but-trans g h)
  but-trans (here e g) (here f h) = here e (but-trans g h)

  -- past d they are equal
  past : {d k : ℕ} {s t : List A} → d < k → But d k s t → s ≡ t
  past l none = refl
  past l (other {a = a} h) = ap (λ r. a ∷ r) (past (omega arith) h)
  past l (here e h) = absurd (omega arith)

  -- what stands before d and what stands after it is the same, and so are the lengths and every other place
  pub takes : {d k : ℕ} {s t : List A} → But d k s t → (e : ℕ) → k + e ≡ d → take e s ≡ take e t
  takes h zero p = refl
  takes none (suc e) p = refl
  takes {d = d} {k = k} (other {a = a} h) (suc e) p = ap (λ r. a ∷ r) (takes {d = d} {k = suc k} h e (omega arith))
  takes (here q h) (suc e) p = absurd (omega arith)

  pub drops : {d k : ℕ} {s t : List A} → But d k s t → (e : ℕ) → k + e ≡ d → drop (suc e) s ≡ drop (suc e) t
  drops none e p = refl
  drops (other h) zero p = past (omega arith) h
  drops (other h) (suc e) p = drops h e (omega arith)
  drops (here q h) zero p = past (omega arith) h
  drops (here q h) (suc e) p = absurd (omega arith)

  lengths : {d k : ℕ} {s t : List A} → But d k s t → length s ≡ length t
  lengths none = refl
  lengths (other h) = ap suc (lengths h)
  lengths (here e h) = ap suc (lengths h)

  gets : {d k : ℕ} {s t : List A} → But d k s t → (i : ℕ) → (k + i ≡ d → ⊥) → slice_get s i ≡ slice_get t i
  gets none i n = refl
  gets (other h) zero n = refl
  gets (other h) (suc i) n = gets h i (λ e. n (omega arith))
  gets (here e h) zero n = absurd (n (omega arith))
  gets (here e h) (suc i) n = gets h i (λ e. n (omega arith))

  pub same-but : {d : ℕ} {s t : List A} → But d 0 s t → SameBut d s t
  same-but h = record { count = omega (arith, lengths h); others = λ i n. gets h i (λ e. omega arith) }

pub but-map : {A B : Type 0} (f : A → B) {d k : ℕ} {s t : List A} → But d k s t → But d k (map f s) (map f t)
but-map f none = none
but-map f (other h) = other (but-map f h)
but-map f (here e h) = here e (but-map f h)

pub but-beats : {d k : ℕ} {s t : List (List Row)} → But d k s t → But d k (beats_from k s) (beats_from k t)
but-beats none = none
but-beats (other h) = other (but-beats h)
but-beats (here e h) = here e (but-beats h)

-- How a list that is made measure by measure agrees.
pub ruleset same_measures = (same-but, but-map, but-beats)

-- The key law. What a line makes of measures that agree but at d, agrees but at d: a line that stays, and a line of d that is struck out.
data Rel (d : ℕ) : Standing → List (List Row) → List (List Row) → Type 0 where
  reading : {k : ℕ} {s t : List (List Row)} → But d k s t → Rel d (ended k) s t
  read : {s t : List (List Row)} → Rel d over s t

data Filled : List (List Row) → Type 0 where
  full : {m : List Row} {ms : List (List Row)} → Filled (m ∷ ms)

line-filled : (x : LineKind) (r : Row) {s : List (List Row)} → Filled s → Filled (add_line x r s)
line-filled line.Passed r full = full
line-filled line.Comma r full = full
line-filled line.Semi r full = full
line-filled line.Row r full = full

filled : (L : ℕ) (ls : List (List ℕ)) → Filled (measures L ls)
filled L [] = full
filled L (l ∷ ls) = line-filled (line_kind L l) (line_row L l) (filled L ls)

rel-refl : {d : ℕ} (p : Standing) (s : List (List Row)) → Rel d p s s
rel-refl (ended k) s = reading (but-refl k s)
rel-refl over s = read

both_first : {d k : ℕ} {s t : List (List Row)} (r : Row) → But d k s t → But d k (onto_first r s) (onto_first r t)
both_first r none = other none
both_first r (other h) = other h
both_first r (here e h) = here e h

one-first : {d k : ℕ} {s t : List (List Row)} (r : Row) → k ≡ d → Filled s → But d k s t → But d k (onto_first r s) t
one-first r e full (other h) = here e h
one-first r e full (here _ h) = here e h

stays : {d : ℕ} (p : Standing) (x : LineKind) (r : Row) {s t : List (List Row)}
    → Rel d (after p x) s t → Rel d p (add_line x r s) (add_line x r t)
stays (ended k) line.Passed r h = h
stays (ended k) line.Comma r (reading h) = reading (other h)
stays (ended k) line.Semi r h = reading (but-refl k ([] ∷ []))
stays (ended k) line.Row r (reading h) = reading (both_first r h)
stays over x r h = read

goes : {d : ℕ} (p : Standing) (x : LineKind) (r : Row) {s t : List (List Row)}
    → p ≡ ended d → ends x ≡ false → Filled s → Rel d p s t → Rel d p (add_line x r s) t
goes p line.Passed r e n f h = h
goes p line.Comma r e n f h = absurd (true≢false n)
goes p line.Semi r e n f h = absurd (true≢false n)
goes (ended k) line.Row r e n f (reading h) = reading (one-first r (cc) f h)
goes over line.Row r e n f h = read

struck : {L d : ℕ} {p : Standing} {xs ys : List (List ℕ)} → Struck L d p xs ys → Rel d p (measures L xs) (measures L ys)
struck (done {p = p}) = rel-refl p ([] ∷ [])
struck {L = L} (stay {p = p} {l = l} h) = stays p (line_kind L l) (line_row L l) (struck h)
struck {L = L} (out {p = p} {l = l} {xs = xs} i h) =
    goes p (line_kind L l) (line_row L l) i.standing i.inside (filled L xs) (struck h)

from_start : {d k : ℕ} {s t : List (List Row)} → Rel d (ended k) s t → But d k s t
from_start (reading h) = h

pub charts-but : {L d : ℕ} {old new : List ℕ} → Differ L d old new → But d 0 (chart L old) (chart L new)
unfolding chart
charts-but x = but-trans (from_start (struck x.from_old)) (but-sym (from_start (struck x.from_new)))
