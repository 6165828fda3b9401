-- A measure could be minimised further if it has rows, even in number, and no note stands or ends in a second one.
use mathlib.Core.Path.{◌≡◌, refl, ap, ap₂, sym, ◌∙◌}
use mathlib.Core.Logic.{◌⊎◌, inl, inr}
use mathlib.Core.Bool.{Bool, true, false, cond, not, ◌&&◌, ◌||◌}
use mathlib.Core.List.{List, [], ◌∷◌}
use Prim.Native.Nat.{ℕ, zero, suc, ◌+◌, ◌-◌, ◌%◌, ◌≤◌, ◌<◌}
use native.Mathlib.Omega.{arith}
use borrow.Author.Tests.{eqb-true, eqb-false, eq-eqb, ne_eqb, ltb-true, ltb-false, lt-ltb, le-leb, leb-true}
use lib.Dec.{eqb, leb, ltb}
use Rattle.std.specs.List.{list_any}
use Rattle.definitions.specs.Reduction.{all_zero}
use Rattle.definitions.specs.Halving.{halvable}
use Rattle.definitions.specs.Records.{number_of_tail}
use Rattle.definitions.specs.Written.{letter_of, ends_at, written_cell, written_row, written_rows, shrinks}
use Rattle.definitions.specs.WrittenBack.{wants}
use Rattle.definitions.specs.declared.Note.{Note}
use Rattle.definitions.specs.declared.Kind.{Kind}
use Rattle.definitions.specs.declared.Kind.TheVariants.{Tap, Hold, Roll, Mine, Lift, Fake}
use Rattle.definitions.specs.declared.Tail.{Tail}
use Rattle.definitions.specs.declared.Tail.TheVariants as tail
use Rattle.definitions.specs.Sizes.{row_numbers_bound}
use Rattle.definitions.proofs.Lists.{All, none, one}
use Rattle.definitions.proofs.Bools.{and_left, and_right}
use Rattle.definitions.proofs.Written.Text.{rows-length}
use Rattle.written.specs.Standing.{second_row, note_in_second}
use Rattle.written.proofs.Counts.{shrinks-halvable}

-- ---- Truth
pub same-bool : (a b : Bool) → (a ≡ true → b ≡ true) → (b ≡ true → a ≡ true) → a ≡ b
same-bool true true f g = refl
same-bool true false f g = sym (f refl)
same-bool false true f g = g refl
same-bool false false f g = refl

pub or-parts : (a b : Bool) → (a || b) ≡ true → (a ≡ true) ⊎ (b ≡ true)
or-parts true b e = inl refl
or-parts false b e = inr e

pub or-right : (a b : Bool) → b ≡ true → (a || b) ≡ true
or-right true b e = refl
or-right false b e = e

pub both : {a b : Bool} → a ≡ true → b ≡ true → (a && b) ≡ true
both e f = ap₂ (λ a b. a && b) e f

-- one of a list passes a test or the other
any-or : (p q r : Note → Bool) → ((y : Note) → (p y || q y) ≡ r y) → (l : List Note) → (list_any p l || list_any q l) ≡ list_any r l
any-or p q r f [] = refl
any-or p q r f (y ∷ l) = regroup (p y) (list_any p l) (q y) (list_any q l) ∙ ap₂ (λ a b. a || b) (f y) (any-or p q r f l)
  where
    regroup : (a b c d : Bool) → ((a || b) || (c || d)) ≡ ((a || c) || (b || d))
    regroup true b c d = refl
    regroup false true true d = refl
    regroup false true false d = refl
    regroup false false c d = refl

any-same : {P : Note → Type 0} (p q : Note → Bool) → ((y : Note) → P y → p y ≡ q y) → (l : List Note) → All P l → list_any p l ≡ list_any q l
any-same p q f [] none = refl
any-same p q f (y ∷ l) (one h a) = ap₂ (λ a b. a || b) (f y h) (any-same p q f l a)

any-none : (p : Note → Bool) → ((y : Note) → p y ≡ false) → (l : List Note) → list_any p l ≡ false
any-none p f [] = refl
any-none p f (y ∷ l) = ap₂ (λ a b. a || b) (f y) (any-none p f l)

not-both : (a b : Bool) → (not a && not b) ≡ not (a || b)
not-both true b = refl
not-both false b = refl

-- ---- A row is all zero where no note stands or ends in it.
letter-off : (k : Kind) → eqb (letter_of k) 48 ≡ false
letter-off Tap = refl
letter-off Hold = refl
letter-off Roll = refl
letter-off Mine = refl
letter-off Lift = refl
letter-off Fake = refl

abbrev wants_cell : ℕ → ℕ → Note → Bool
wants_cell i c n = wants i n && eqb n.column c

cell-zero : (ns : List Note) (i c : ℕ) → eqb (written_cell ns i c) 48 ≡ not (list_any (wants_cell i c) ns)
cell-zero [] i c = refl
cell-zero (n ∷ ns) i c = go (eqb n.row i) (ends_at i n.tail) (eqb n.column c) (cell-zero ns i c)
  where
    go : (r t k : Bool) → eqb (written_cell ns i c) 48 ≡ not (list_any (wants_cell i c) ns)
        → eqb (cond (r && k) (letter_of n.kind) (cond (t && k) 51 (written_cell ns i c))) 48 ≡ not (((r || t) && k) || list_any (wants_cell i c) ns)
    go true t true rest = letter-off n.kind
    go false true true rest = refl
    go false false true rest = rest
    go true t false rest = few t rest
      where
        few : (t : Bool) → eqb (written_cell ns i c) 48 ≡ not (list_any (wants_cell i c) ns)
            → eqb (cond (t && false) 51 (written_cell ns i c)) 48 ≡ not (list_any (wants_cell i c) ns)
        few true rest = rest
        few false rest = rest
    go false true false rest = rest
    go false false false rest = rest

abbrev wants_from : ℕ → ℕ → ℕ → Note → Bool
wants_from i c k n = wants i n && (leb c n.column && ltb n.column (c + k))

column-step : (x c k : ℕ) → (eqb x c || (leb (suc c) x && ltb x (suc c + k))) ≡ (leb c x && ltb x (c + suc k))
column-step x c k = same-bool (eqb x c || (leb (suc c) x && ltb x (suc c + k))) (leb c x && ltb x (c + suc k)) to from
  where
    past : (x c : ℕ) → c ≤ x → (x ≡ c → ⊥) → suc c ≤ x
    past x c a f = at (ltb c x) refl
      where
        at : (t : Bool) → ltb c x ≡ t → suc c ≤ x
        at true e = let k = ltb-true c x e in omega arith
        at false e = let k = ltb-false c x e in absurd (f (omega arith))

    to : (eqb x c || (leb (suc c) x && ltb x (suc c + k))) ≡ true → (leb c x && ltb x (c + suc k)) ≡ true
    to h = go (or-parts (eqb x c) (leb (suc c) x && ltb x (suc c + k)) h)
      where
        go : (eqb x c ≡ true) ⊎ ((leb (suc c) x && ltb x (suc c + k)) ≡ true) → (leb c x && ltb x (c + suc k)) ≡ true
        go (inl e) = let q = eqb-true x c e in both (le-leb c x (omega arith)) (lt-ltb x (c + suc k) (omega arith))
        go (inr e) =
            let a = leb-true (suc c) x (and_left (leb (suc c) x) (ltb x (suc c + k)) e) in
            let b = ltb-true x (suc c + k) (and_right (leb (suc c) x) (ltb x (suc c + k)) e) in
            both (le-leb c x (omega arith)) (lt-ltb x (c + suc k) (omega arith))

    from : (leb c x && ltb x (c + suc k)) ≡ true → (eqb x c || (leb (suc c) x && ltb x (suc c + k))) ≡ true
    from h = go (eqb x c) refl
      where
        go : (t : Bool) → eqb x c ≡ t → (t || (leb (suc c) x && ltb x (suc c + k))) ≡ true
        go true e = refl
        go false e =
            let a = leb-true c x (and_left (leb c x) (ltb x (c + suc k)) h) in
            let b = ltb-true x (c + suc k) (and_right (leb c x) (ltb x (c + suc k)) h) in
            both (le-leb (suc c) x (past x c a (eqb-false x c e))) (lt-ltb x (suc c + k) (omega arith))

row-zero-from : (ns : List Note) (i c k : ℕ) → all_zero (written_row ns i c k) ≡ not (list_any (wants_from i c k) ns)
row-zero-from ns i c zero = sym (ap not (any-none (wants_from i c 0) (λ y. ap (λ b. wants i y && b) (off y.column) ∙ and-none (wants i y)) ns))
  where
    off : (x : ℕ) → (leb c x && ltb x (c + 0)) ≡ false
    off x = go (leb c x && ltb x (c + 0)) refl
      where
        go : (t : Bool) → (leb c x && ltb x (c + 0)) ≡ t → t ≡ false
        go false e = refl
        go true e =
            let a = leb-true c x (and_left (leb c x) (ltb x (c + 0)) e) in
            let b = ltb-true x (c + 0) (and_right (leb c x) (ltb x (c + 0)) e) in
            absurd (omega arith)

    and-none : (b : Bool) → (b && false) ≡ false
    and-none true = refl
    and-none false = refl
row-zero-from ns i c (suc k) =
    ap₂ (λ a b. a && b) (cell-zero ns i c) (row-zero-from ns i (suc c) k)
    ∙ not-both (list_any (wants_cell i c) ns) (list_any (wants_from i (suc c) k) ns)
    ∙ ap not (any-or (wants_cell i c) (wants_from i (suc c) k) (wants_from i c (suc k)) (λ y. point (wants i y) y.column) ns)
  where
    point : (w : Bool) (x : ℕ) → ((w && eqb x c) || (w && (leb (suc c) x && ltb x (suc c + k)))) ≡ (w && (leb c x && ltb x (c + suc k)))
    point true x = column-step x c k
    point false x = refl

row-zero : (L : ℕ) (ns : List Note) → All (λ y. y.column < L) ns → (i : ℕ) → all_zero (written_row ns i 0 L) ≡ not (list_any (wants i) ns)
row-zero L ns a i = row-zero-from ns i 0 L ∙ ap not (any-same (wants_from i 0 L) (wants i) (λ y h. whole (wants i y) y.column h) ns a)
  where
    whole : (w : Bool) (x : ℕ) → x < L → (w && (leb 0 x && ltb x (0 + L))) ≡ w
    whole true x h = both (le-leb 0 x (omega arith)) (lt-ltb x (0 + L) (omega arith))
    whole false x h = refl

-- ---- Second rows
pub record Second (i e j : ℕ) : Type 0 where
  pub from : i ≤ j
  pub before : j < e
  pub odd : (j - i) % 2 ≡ 1

pub second-true : (i e j : ℕ) → second_row i e j ≡ true → Second i e j
second-true i e j h =
    let r = and_right (leb i j) (ltb j e && eqb ((j - i) % 2) 1) h in
    record {
      from = leb-true i j (and_left (leb i j) (ltb j e && eqb ((j - i) % 2) 1) h);
      before = ltb-true j e (and_left (ltb j e) (eqb ((j - i) % 2) 1) r);
      odd = eqb-true ((j - i) % 2) 1 (and_right (ltb j e) (eqb ((j - i) % 2) 1) r);
    }

pub true-second : (i e j : ℕ) → Second i e j → second_row i e j ≡ true
true-second i e j s = both (le-leb i j s.from) (both (lt-ltb j e s.before) (eq-eqb ((j - i) % 2) 1 s.odd))

second-step : (i m j : ℕ) → (eqb j (suc i) || second_row (suc (suc i)) (suc (suc i) + m) j) ≡ second_row i (i + suc (suc m)) j
second-step i m j = same-bool (eqb j (suc i) || second_row (suc (suc i)) (suc (suc i) + m) j) (second_row i (i + suc (suc m)) j) to from
  where
    later : (k : ℕ) → k % 2 ≡ 1 → (k + 2) % 2 ≡ 1
    later k h = omega (arith, h)

    sooner : (k : ℕ) → (k + 2) % 2 ≡ 1 → k % 2 ≡ 1
    sooner k h = omega (arith, h)

    none : ◌≡◌ {A = ℕ} 0 1 → ⊥
    none z = omega arith

    near : (j ≡ suc i → ⊥) → (j - i) % 2 ≡ 1 → j ≤ suc i → (t : Bool) → ltb i j ≡ t → ⊥
    near f h q true e = let k = ltb-true i j e in f (omega arith)
    near f h q false e = let k = ltb-false i j e in let z : j - i ≡ 0 = omega arith in none (sym (ap (λ k. k % 2) z) ∙ h)

    past : (j ≡ suc i → ⊥) → (j - i) % 2 ≡ 1 → (t : Bool) → ltb (suc i) j ≡ t → suc (suc i) ≤ j
    past f h true e = let k = ltb-true (suc i) j e in omega arith
    past f h false e = absurd (near f h (ltb-false (suc i) j e) (ltb i j) refl)

    to : (eqb j (suc i) || second_row (suc (suc i)) (suc (suc i) + m) j) ≡ true → second_row i (i + suc (suc m)) j ≡ true
    to h = go (or-parts (eqb j (suc i)) (second_row (suc (suc i)) (suc (suc i) + m) j) h)
      where
        go : (eqb j (suc i) ≡ true) ⊎ (second_row (suc (suc i)) (suc (suc i) + m) j ≡ true) → second_row i (i + suc (suc m)) j ≡ true
        go (inl e) =
            let q = eqb-true j (suc i) e in
            let d : 1 ≡ j - i = omega arith in
            true-second i (i + suc (suc m)) j (record { from = omega arith; before = omega arith; odd = ap (λ k. k % 2) (sym d) })
        go (inr e) =
            let s = second-true (suc (suc i)) (suc (suc i) + m) j e in
            let a = s.from in
            let b = s.before in
            let d : j - suc (suc i) + 2 ≡ j - i = omega arith in
            true-second i (i + suc (suc m)) j (record { from = omega arith; before = omega arith; odd = ap (λ k. k % 2) (sym d) ∙ later (j - suc (suc i)) s.odd })

    from : second_row i (i + suc (suc m)) j ≡ true → (eqb j (suc i) || second_row (suc (suc i)) (suc (suc i) + m) j) ≡ true
    from h = go (eqb j (suc i)) refl (second-true i (i + suc (suc m)) j h)
      where
        go : (t : Bool) → eqb j (suc i) ≡ t → Second i (i + suc (suc m)) j → (t || second_row (suc (suc i)) (suc (suc i) + m) j) ≡ true
        go true e s = refl
        go false e s =
            let a = s.from in
            let b = s.before in
            let p : suc (suc i) ≤ j = past (eqb-false j (suc i) e) s.odd (ltb (suc i) j) refl in
            let d : j - i ≡ j - suc (suc i) + 2 = omega arith in
            true-second (suc (suc i)) (suc (suc i) + m) j (record { from = p; before = omega arith; odd = sooner (j - suc (suc i)) (ap (λ k. k % 2) (sym d) ∙ s.odd) })

pub tail-number : (t : Tail) (j : ℕ) → j < row_numbers_bound → eqb (number_of_tail t) j ≡ ends_at j t
tail-number tail.Without j h = ne_eqb 4294967295 j (λ q. omega arith)
tail-number (tail.Row r) j h = refl

halvable-rows : (L : ℕ) (ns : List Note) → All (λ y. y.column < L) ns → (m i : ℕ) → i + m ≤ 4194304 → halvable (written_rows L ns i m) ≡ (eqb (m % 2) 0 && not (list_any (note_in_second i (i + m)) ns))
halvable-rows L ns a zero i low = sym (ap not (any-none (note_in_second i (i + 0)) (λ y. ap₂ (λ s t. s || t) (off y.row) (off (number_of_tail y.tail))) ns))
  where
    off : (j : ℕ) → second_row i (i + 0) j ≡ false
    off j = go (second_row i (i + 0) j) refl
      where
        go : (t : Bool) → second_row i (i + 0) j ≡ t → t ≡ false
        go false e = refl
        go true e = let s = second-true i (i + 0) j e in let p = s.from in let q = s.before in absurd (omega arith)
halvable-rows L ns a (suc zero) i low = refl
halvable-rows L ns a (suc (suc m)) i low =
    ap₂ (λ x y. x && y) (row-zero L ns a (suc i)) (halvable-rows L ns a m (suc (suc i)) (omega arith))
    ∙ turn (list_any (wants (suc i)) ns) (eqb (m % 2) 0) (list_any (note_in_second (suc (suc i)) (suc (suc i) + m)) ns)
    ∙ ap₂ (λ k b. eqb k 0 && not b) even (any-or (wants (suc i)) (note_in_second (suc (suc i)) (suc (suc i) + m)) (note_in_second i (i + suc (suc m))) point ns)
  where
    turn : (a b c : Bool) → (not a && (b && not c)) ≡ (b && not (a || c))
    turn true true c = refl
    turn true false c = refl
    turn false b c = refl

    even : m % 2 ≡ suc (suc m) % 2
    even = omega arith

    regroup : (a b c d : Bool) → ((a || b) || (c || d)) ≡ ((a || c) || (b || d))
    regroup true b c d = refl
    regroup false true true d = refl
    regroup false true false d = refl
    regroup false false c d = refl

    point : (y : Note) → (wants (suc i) y || note_in_second (suc (suc i)) (suc (suc i) + m) y) ≡ note_in_second i (i + suc (suc m)) y
    point y =
        ap (λ b. (eqb y.row (suc i) || b) || note_in_second (suc (suc i)) (suc (suc i) + m) y) (sym (tail-number y.tail (suc i) (omega arith)))
        ∙ regroup (eqb y.row (suc i)) (eqb (number_of_tail y.tail) (suc i)) (second_row (suc (suc i)) (suc (suc i) + m) y.row) (second_row (suc (suc i)) (suc (suc i) + m) (number_of_tail y.tail))
        ∙ ap₂ (λ a b. a || b) (second-step i m y.row) (second-step i m (number_of_tail y.tail))

pub shrinks-bare : (L : ℕ) (ns : List Note) → All (λ y. y.column < L) ns → (i m : ℕ) → i + m ≤ 4194304
    → shrinks (written_rows L ns i m) ≡ (ltb 0 m && (eqb (m % 2) 0 && not (list_any (note_in_second i (i + m)) ns)))
shrinks-bare L ns a i m low =
    shrinks-halvable (written_rows L ns i m)
    ∙ ap₂ (λ b n. b && ltb 0 n) (halvable-rows L ns a m i low) (rows-length L ns i m)
    ∙ turn (eqb (m % 2) 0 && not (list_any (note_in_second i (i + m)) ns)) (ltb 0 m)
  where
    turn : (a b : Bool) → (a && b) ≡ (b && a)
    turn true true = refl
    turn true false = refl
    turn false true = refl
    turn false false = refl
