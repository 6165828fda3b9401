-- A text's minimised text is what is written for its notes and row counts exactly if its cells are those that are written, no head is dropped, and
-- each 3 closes a head.
use mathlib.Core.Path.{◌≡◌, refl, ap, ap₂, sym, ◌∙◌, subst}
use mathlib.Core.Bool.{Bool, true, false, ◌&&◌, ◌||◌, false≢true}
use mathlib.Core.List.{List, [], ◌∷◌, ◌++◌, map}
use Rattle.std.specs.Prelude.{Option, None, Some}
use Prim.Native.Nat.{ℕ, zero, suc, ◌+◌, ◌≤◌}
use native.Mathlib.Nat.{zero-add}
use native.Mathlib.Omega.{arith}
use borrow.Author.Tests.{eqb-true, le-ltb}
use lib.Dec.{eqb, ltb}
use lib.ListN.{length, take, drop, get_or, length-append}
use lib.Seq.{take-append_seam, drop-append_seam}
use Rattle.definitions.specs.Lists.{number_of_bool, among, joined}
use Rattle.definitions.specs.Lines.{Row}
use Rattle.definitions.specs.Measures.{chart}
use Rattle.definitions.specs.Cells.{cell_of, byte_at}
use Rattle.definitions.specs.Reduction.{reduce, minimised}
use Rattle.definitions.specs.Figures.{text_of, minimised_text}
use Rattle.definitions.specs.Notes.{effect_at, meets, tail_row_of, cell_notes, row_notes, notes_from, notes}
use Rattle.definitions.specs.Damage.{byte_in}
use Rattle.definitions.specs.Dropped.{dropped_heads}
use Rattle.definitions.specs.DroppedOrNoted.{listed, noted}
use Rattle.definitions.specs.Consequences.{ReducedStays}
use Rattle.definitions.specs.Written.{letter_of, headed, ends_at, tailed, written_cell, written_row, written_rows, written_from, written_measures, written_text, last_of, shrinks, some_shrink, other_counts}
use Rattle.definitions.specs.WrittenBack.{row_counts, written_letters, some_tailed, Whole, ComesBackExactly}
use Rattle.definitions.specs.declared.Kind.{Kind}
use Rattle.definitions.specs.declared.Kind.TheVariants.{Tap, Hold, Roll, Mine, Lift, Fake}
use Rattle.definitions.specs.declared.Tail.{Tail}
use Rattle.definitions.specs.declared.Tail.TheVariants as tail
use Rattle.definitions.specs.declared.Note.{Note}
use Rattle.definitions.specs.declared.NoteEffect.{NoteEffect}
use Rattle.definitions.specs.declared.NoteEffect.TheVariants.{Nothing, Closes, Single, Head}
use Rattle.definitions.proofs.Lists.{All, none, one, all_append, all_map, all-joined, count-cons}
use Rattle.definitions.proofs.ChartRows.{minimised-rows}
use Rattle.definitions.proofs.Tails.{tail_within}
use Rattle.definitions.proofs.Reduction.{reduce-halved}
use Rattle.definitions.proofs.Consequences.Minimising.{reduced-stays}
use Rattle.definitions.proofs.DroppedOrNoted.{noting, all-once, all-at}
use Rattle.definitions.proofs.Written.Same.{same-list, same-test, is-true, none-listed}
use Rattle.definitions.proofs.Written.Text.{rows-length, rows-more}
use Rattle.definitions.proofs.Written.Notes.{Quiet, all-quiet}
use Rattle.definitions.proofs.Written.Only.{only-whole}
use Rattle.definitions.proofs.Written.Passes.{Found, cell-placed, row-onwards, rows-under, notes-stand}

-- ---- What the notes of rows say of a cell
-- a note that is headed there has the kind of the cell
abbrev Says : NoteEffect → Kind → Type 0
Says Nothing k = ⊥
Says Closes k = ⊥
Says (Single q) k = q ≡ k
Says (Head q) k = q ≡ k

cell-says : (e : NoteEffect) (i c : ℕ) (t : Option ℕ) → All (λ y. Says e y.kind) (cell_notes e i c t)
cell-says Nothing i c t = none
cell-says Closes i c t = none
cell-says (Single k) i c t = one refl none
cell-says (Head k) i c None = none
cell-says (Head k) i c (Some j) = one refl none

row-says : (c i d m : ℕ) (bs : Row) (rs : List Row) → c ≡ d + m → All (λ y. y.column ≡ c → Says (effect_at (get_or bs m 48)) y.kind) (row_notes i d bs rs)
row-says c i d m [] rs e = none
row-says c i d zero (b ∷ bs) rs e =
    all_append (all_map (λ y s f. s) (cell-says (effect_at b) i d (tail_row_of d (suc i) rs)))
    (all_map (λ y p f. absurd (let q = p.column in omega (arith, q.0))) (row-onwards i (suc d) bs rs))
row-says c i d (suc m) (b ∷ bs) rs e =
    all_append (all_map (λ y p f. absurd (omega (arith, p.column))) (cell-placed (effect_at b) i d (tail_row_of d (suc i) rs)))
    (row-says c i (suc d) m bs rs (omega arith))

rows-say : (c i k m : ℕ) (rs : List Row) → i ≡ k + m → All (λ y. y.row ≡ i → y.column ≡ c → Says (effect_at (byte_in rs m c)) y.kind) (notes_from k rs)
rows-say c i k m [] e = none
rows-say c i k zero (r ∷ rs) e =
    all_append (all_map (λ y s f g. s g) (row-says c k 0 c r rs (omega arith)))
    (all_map (λ y u f g. absurd (omega (arith, u.row))) (rows-under (suc k) rs))
rows-say c i k (suc m) (r ∷ rs) e =
    all_append (all_map (λ y p f g. absurd (omega (arith, p.row))) (row-onwards k 0 r rs))
    (rows-say c i (suc k) m rs (omega arith))

-- where a tail was found stands a 3
tail-closes : (c k m : ℕ) (rs : List Row) (j : ℕ) → j ≡ k + m → tail_row_of c k rs ≡ Some j → effect_at (byte_in rs m c) ≡ Closes
tail-closes c k m [] j p q = let z : ◌≡◌ {A = ℕ} 0 1 = cc in absurd (omega arith)
tail-closes c k zero (r ∷ rs) j p q = go (effect_at (byte_at c r)) refl q
  where
    go : (x : NoteEffect) → effect_at (byte_at c r) ≡ x → meets x k (tail_row_of c (suc k) rs) ≡ Some j → effect_at (byte_at c r) ≡ Closes
    go Nothing e h = absurd (let w = tail_within c (suc k) rs j h in omega (arith, w.0))
    go Closes e h = e
    go (Single n) e h = let z : ◌≡◌ {A = ℕ} 0 1 = cc in absurd (omega arith)
    go (Head n) e h = let z : ◌≡◌ {A = ℕ} 0 1 = cc in absurd (omega arith)
tail-closes c k (suc m) (r ∷ rs) j p q = go (effect_at (byte_at c r)) q (tail-closes c (suc k) m rs j (omega arith))
  where
    go : (x : NoteEffect) → meets x k (tail_row_of c (suc k) rs) ≡ Some j → (tail_row_of c (suc k) rs ≡ Some j → effect_at (byte_in rs m c) ≡ Closes)
        → effect_at (byte_in rs m c) ≡ Closes
    go Nothing h ih = ih h
    go Closes h ih = let z : k ≡ j = cc in absurd (omega arith)
    go (Single n) h ih = let z : ◌≡◌ {A = ℕ} 0 1 = cc in absurd (omega arith)
    go (Head n) h ih = let z : ◌≡◌ {A = ℕ} 0 1 = cc in absurd (omega arith)

ended : (i : ℕ) (t : Tail) (f : Option ℕ) → Found t f → ends_at i t ≡ true → f ≡ Some i
ended i tail.Without f h e = absurd (false≢true e)
ended i (tail.Row j) f h e = h ∙ ap Some (eqb-true j i e)

ended-last : (i r : ℕ) (t : Tail) → ends_at i t ≡ true → last_of r t ≡ i
ended-last i r tail.Without e = absurd (false≢true e)
ended-last i r (tail.Row j) e = eqb-true j i e

-- a note is tailed where a 3 stands
rows-end : (c i k m : ℕ) (rs : List Row) → i ≡ k + m → All (λ y. y.column ≡ c → ends_at i y.tail ≡ true → effect_at (byte_in rs m c) ≡ Closes) (notes_from k rs)
rows-end c i k m [] e = none
rows-end c i k zero (r ∷ rs) e =
    all_append
    (all_map (λ y p f g. absurd (let w = tail_within y.column (suc k) rs i (ended i y.tail (tail_row_of y.column (suc k) rs) p.tail g) in omega (arith, w.0))) (row-onwards k 0 r rs))
    (all_map (λ y u f g. absurd (omega (arith, u.reach, ended-last i y.row y.tail g))) (rows-under (suc k) rs))
rows-end c i k (suc m) (r ∷ rs) e =
    all_append
    (all_map
    (λ y p f g.
    subst (λ d. effect_at (byte_in rs m d) ≡ Closes) f
    (tail-closes y.column (suc k) m rs i (omega arith) (ended i y.tail (tail_row_of y.column (suc k) rs) p.tail g)))
    (row-onwards k 0 r rs))
    (rows-end c i (suc k) m rs (omega arith))

-- ---- A cell, by what its notes say
none-headed : (i c : ℕ) (ns : List Note) → noted i c ns ≡ 0 → All (λ y. headed i c y ≡ false) ns
none-headed i c [] h = none
none-headed i c (y ∷ ns) h = go (headed i c y) refl (none-headed i c ns)
  where
    go : (t : Bool) → headed i c y ≡ t → (noted i c ns ≡ 0 → All (λ y. headed i c y ≡ false) ns) → All (λ y. headed i c y ≡ false) (y ∷ ns)
    go true e ih = absurd (omega (arith, count-cons (headed i c) y ns, ap number_of_bool e))
    go false e ih = one e (ih (omega (arith, count-cons (headed i c) y ns, ap number_of_bool e)))

by-head : (i c b : ℕ) (ns : List Note) → 1 ≤ noted i c ns → All (λ y. headed i c y ≡ true → letter_of y.kind ≡ b) ns → All (λ y. tailed i c y ≡ false) ns
    → written_cell ns i c ≡ b
by-head i c b [] h none none = absurd (omega arith)
by-head i c b (y ∷ ns) h (one l a) (one t d) = go (headed i c y) refl (λ more. by-head i c b ns more a d)
  where
    go : (s : Bool) → headed i c y ≡ s → (1 ≤ noted i c ns → written_cell ns i c ≡ b) → written_cell (y ∷ ns) i c ≡ b
    go true e ih = rw e (l e)
    go false e ih = rw (e, t) (ih (omega (arith, count-cons (headed i c) y ns, ap number_of_bool e)))

by-tail : (i c : ℕ) (ns : List Note) → All (λ y. headed i c y ≡ false) ns → some_tailed i c ns ≡ true → written_cell ns i c ≡ 51
by-tail i c [] none h = absurd (false≢true h)
by-tail i c (y ∷ ns) (one e a) h = go (tailed i c y) refl (by-tail i c ns a)
  where
    go : (s : Bool) → tailed i c y ≡ s → (some_tailed i c ns ≡ true → written_cell ns i c ≡ 51) → written_cell (y ∷ ns) i c ≡ 51
    go true t ih = rw (e, t) refl
    go false t ih = rw (e, t) (ih (rw t at h))

pub among-all : (P : ℕ → Type 0) (ks : List ℕ) → All P ks → (b : ℕ) → among b ks ≡ true → P b
among-all P [] none b h = absurd (false≢true h)
among-all P (k ∷ ks) (one p a) b h = go (eqb b k) refl h (among-all P ks a b)
  where
    go : (t : Bool) → eqb b k ≡ t → (t || among b ks) ≡ true → (among b ks ≡ true → P b) → P b
    go true e g ih = subst P (sym (eqb-true b k e)) p
    go false e g ih = ih g

module _ (i c : ℕ) (ns : List Note) where
  record Said (b : ℕ) : Type 0 where
    count : noted i c ns ≡ number_of_bool (noting (effect_at b))
    heads : All (λ y. y.row ≡ i → y.column ≡ c → Says (effect_at b) y.kind) ns
    ends : All (λ y. y.column ≡ c → ends_at i y.tail ≡ true → effect_at b ≡ Closes) ns
    closed : b ≡ 51 → some_tailed i c ns ≡ true

  both : (y : Note) {P : Type 0} → headed i c y ≡ true → (y.row ≡ i → y.column ≡ c → P) → P
  both y e f =
      f (eqb-true y.row i (first (eqb y.row i) (eqb y.column c) e)) (eqb-true y.column c (second (eqb y.row i) (eqb y.column c) e))
    where
      first : (s t : Bool) → (s && t) ≡ true → s ≡ true
      first true t h = refl
      first false t h = h

      second : (s t : Bool) → (s && t) ≡ true → t ≡ true
      second true t h = h
      second false t h = absurd (false≢true h)

  none-tailed : All (λ y. y.column ≡ c → ends_at i y.tail ≡ true → ⊥) ns → All (λ y. tailed i c y ≡ false) ns
  none-tailed a = all_map (λ y h. go y h (ends_at i y.tail) refl (eqb y.column c) refl) a
    where
      go : (y : Note) → (y.column ≡ c → ends_at i y.tail ≡ true → ⊥) → (s : Bool) → ends_at i y.tail ≡ s → (t : Bool) → eqb y.column c ≡ t → tailed i c y ≡ false
      go y h true e true f = absurd (h (eqb-true y.column c f) e)
      go y h true e false f = rw (e, f) refl
      go y h false e t f = rw e refl

  headed-cell : (b : ℕ) (k : Kind) → letter_of k ≡ b → noted i c ns ≡ 1 → All (λ y. y.row ≡ i → y.column ≡ c → k ≡ y.kind) ns
      → All (λ y. y.column ≡ c → ends_at i y.tail ≡ true → ⊥) ns → written_cell ns i c ≡ b
  headed-cell b k l n heads ends =
      by-head i c b ns (omega arith) (all_map (λ y h e. ap letter_of (sym (both y e h)) ∙ l) heads) (none-tailed ends)

  open-effect : {x : NoteEffect} → (x ≡ Closes → ⊥) → All (λ y. y.column ≡ c → ends_at i y.tail ≡ true → x ≡ Closes) ns → All (λ y. y.column ≡ c → ends_at i y.tail ≡ true → ⊥) ns
  open-effect n a = all_map (λ y h f g. n (h f g)) a

  nothing-closes : Nothing ≡ Closes → ⊥
  nothing-closes e = let z : ◌≡◌ {A = ℕ} 0 1 = cc in absurd (omega arith)

  single-closes : (k : Kind) → Single k ≡ Closes → ⊥
  single-closes k e = let z : ◌≡◌ {A = ℕ} 0 1 = cc in absurd (omega arith)

  head-closes : (k : Kind) → Head k ≡ Closes → ⊥
  head-closes k e = let z : ◌≡◌ {A = ℕ} 0 1 = cc in absurd (omega arith)

  quiet : All (λ y. headed i c y ≡ false) ns → All (λ y. tailed i c y ≡ false) ns → All (Quiet i c) ns
  quiet a b = go a b
    where
      go : {l : List Note} → All (λ y. headed i c y ≡ false) l → All (λ y. tailed i c y ≡ false) l → All (Quiet i c) l
      go none none = none
      go (one h a) (one t b) = one (record { head = h; tail = t }) (go a b)

  cell-said : (b : ℕ) → among b written_letters ≡ true → Said b → written_cell ns i c ≡ b
  unfolding effect_at cell_of
  cell-said =
      among-all (λ b. Said b → written_cell ns i c ≡ b) written_letters
      (one (λ s. all-quiet i c ns (quiet (none-headed i c ns s.count) (none-tailed (open-effect nothing-closes s.ends))))
      (one (λ s. headed-cell 49 Tap refl s.count s.heads (open-effect (single-closes Tap) s.ends))
      (one (λ s. headed-cell 50 Hold refl s.count s.heads (open-effect (head-closes Hold) s.ends))
      (one (λ s. by-tail i c ns (none-headed i c ns s.count) (s.closed refl))
      (one (λ s. headed-cell 52 Roll refl s.count s.heads (open-effect (head-closes Roll) s.ends))
      (one (λ s. headed-cell 77 Mine refl s.count s.heads (open-effect (single-closes Mine) s.ends))
      (one (λ s. headed-cell 76 Lift refl s.count s.heads (open-effect (single-closes Lift) s.ends))
      (one (λ s. headed-cell 70 Fake refl s.count s.heads (open-effect (single-closes Fake) s.ends))
      none))))))))

-- each cell of such a text is written
cell-back : (L : ℕ) (text : List ℕ) → Whole L text → (i c : ℕ) → written_cell (notes L text) i c ≡ byte_in (joined (minimised L text)) i c
unfolding notes dropped_heads
cell-back L text w i c =
    let rows : List Row = joined (minimised L text) in
    cell-said i c (notes_from 0 rows) (byte_in rows i c) (is-true _ (omega (arith, ap number_of_bool (w.letters i c))))
    (record {
      count = omega (arith, ap (listed i c) w.none_dropped, none-listed i c, all-once i c 0 rows, all-at i c noting refl 0 i rows (zero-add i));
      heads = rows-say c i 0 i rows (sym (zero-add i));
      ends = rows-end c i 0 i rows (sym (zero-add i));
      closed = λ e. is-true _ (omega (arith, ap number_of_bool (w.tails i c e)));
    })

-- ---- So are its rows and measures
row-equal : (ns : List Note) (i d : ℕ) (r : Row) → ((m c : ℕ) → c ≡ d + m → written_cell ns i c ≡ get_or r m 48) → written_row ns i d (length r) ≡ r
row-equal ns i d [] h = refl
row-equal ns i d (b ∷ r) h = ap₂ {C = List ℕ} (λ x l. x ∷ l) (h 0 d (omega arith)) (row-equal ns i (suc d) r (λ m c e. h (suc m) c (omega arith)))

rows-equal : (L : ℕ) (ns : List Note) (k : ℕ) (rs : List Row) → All (λ (r : Row). length r ≡ L) rs → ((m c i : ℕ) → i ≡ k + m → written_cell ns i c ≡ byte_in rs m c)
    → written_rows L ns k (length rs) ≡ rs
rows-equal L ns k [] none h = refl
rows-equal L ns k (r ∷ rs) (one w a) h =
    ap₂ {C = List Row} (λ x l. x ∷ l)
    (ap (written_row ns k 0) (sym w) ∙ row-equal ns k 0 r (λ m c e. let q : c ≡ m = omega arith in h 0 c k (omega arith) ∙ ap (λ x. get_or r x 48) q))
    (rows-equal L ns (suc k) rs a (λ m c i e. h (suc m) c i (omega arith)))

same-front : {A : Type 0} (x y m r : List A) → length x ≡ length m → x ++ y ≡ m ++ r → x ≡ m
same-front x y m r h e = sym (take-append_seam x y) ∙ ap (take (length x)) e ∙ ap (λ n. take n (m ++ r)) h ∙ take-append_seam m r

same-rest : {A : Type 0} (x y m r : List A) → length x ≡ length m → x ++ y ≡ m ++ r → y ≡ r
same-rest x y m r h e = sym (drop-append_seam x y) ∙ ap (drop (length x)) e ∙ ap (λ n. drop n (m ++ r)) h ∙ drop-append_seam m r

from-equal : (L : ℕ) (ns : List Note) (k : ℕ) (ms : List (List Row)) → written_rows L ns k (length (joined ms)) ≡ joined ms
    → written_from L ns k (map (λ (m : List Row). length m) ms) ≡ ms
from-equal L ns k [] e = refl
from-equal L ns k (m ∷ ms) e =
    let parts : written_rows L ns k (length m) ++ written_rows L ns (k + length m) (length (joined ms)) ≡ m ++ joined ms =
    sym (rows-more L ns k (length m) (length (joined ms))) ∙ ap (written_rows L ns k) (sym (length-append m (joined ms))) ∙ e in
    ap₂ {C = List (List Row)} (λ x l. x ∷ l)
    (same-front (written_rows L ns k (length m)) (written_rows L ns (k + length m) (length (joined ms))) m (joined ms) (rows-length L ns k (length m)) parts)
    (from-equal L ns (k + length m) ms (same-rest (written_rows L ns k (length m)) (written_rows L ns (k + length m) (length (joined ms))) m (joined ms) (rows-length L ns k (length m)) parts))

measures-back : (L : ℕ) (text : List ℕ) → 1 ≤ L → Whole L text → written_from L (notes L text) 0 (row_counts L text) ≡ minimised L text
unfolding row_counts
measures-back L text some w =
    let rows : List Row = joined (minimised L text) in
    from-equal L (notes L text) 0 (minimised L text)
    (rows-equal L (notes L text) 0 rows (all_map (λ r x. x.size) (all-joined (minimised-rows L text some)))
    (λ m c i e. let q : i ≡ m = omega arith in cell-back L text w i c ∙ ap (λ n. byte_in rows n c) q))

whole-back : (L : ℕ) (text : List ℕ) → 1 ≤ L → Whole L text → written_text L (notes L text) (row_counts L text) ≡ minimised_text L text
unfolding written_text written_measures minimised_text
whole-back L text some w = ap text_of (measures-back L text some w)

-- ---- and 15 lets them pass, since what is minimised stays
reduced : (m : List Row) → reduce (reduce m) ≡ reduce m
unfolding ReducedStays
reduced m = reduced-stays reduce-halved m

kept : (m : List Row) → shrinks (reduce m) ≡ false
kept m = ap (λ (r : List Row). ltb (length r) (length (reduce m))) (reduced m) ∙ le-ltb (length (reduce m)) (length (reduce m)) (omega arith)

none-shrinks : (ms : List (List Row)) → some_shrink (map reduce ms) ≡ false
none-shrinks [] = refl
none-shrinks (m ∷ ms) = rw (kept m) (none-shrinks ms)

whole-accepted : (L : ℕ) (text : List ℕ) → 1 ≤ L → Whole L text → other_counts L (notes L text) (row_counts L text) ≡ false
unfolding other_counts written_measures minimised
whole-accepted L text some w =
    let p = notes-stand L text some in
    rw (p.counted, p.within, measures-back L text some w) (none-shrinks (chart L text))

pub comes-back-exactly : ComesBackExactly
unfolding ComesBackExactly
comes-back-exactly L text some =
    record {
      back = λ w. rw (whole-back L text some w) refl;
      only = λ e. only-whole L text some (same-list _ _ (λ f. omega (arith, ap f e)));
      accepted = λ w. same-test _ _ (omega (arith, ap number_of_bool (whole-accepted L text some w)));
    }
