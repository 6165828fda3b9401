-- When there are neither strays nor misses.
use mathlib.Core.Path.{◌≡◌, refl, ap, sym, ◌∙◌}
use mathlib.Core.Bool.{Bool, true, false, cond, ◌&&◌, ◌||◌, not, true≢false, false≢true}
use mathlib.Core.List.{List, [], ◌∷◌, map}
use Prim.Native.Nat.{ℕ, ◌≤◌}
use native.Mathlib.Omega.{arith}
use lib.Dec.{eqb, ltb}
use lib.ListN.{length, length-map}
use borrow.Author.Tests.{eqb-true, eqb-false, eq-eqb, ltb-false}
use Rattle.std.specs.List.{filter}
use Rattle.definitions.specs.Lists.{before}
use Rattle.definitions.specs.declared.Note.{Note}
use Rattle.definitions.specs.declared.Press.{Press}
use Rattle.definitions.specs.Presses.{notes_rise, presses_rise, is_played, played, same_place, is_pressed, hits_after, strays, misses}
use Rattle.definitions.specs.PressClaims.{press_on, CleanTrace}
use Rattle.definitions.proofs.Bools.{and_left, and_right}
use Rattle.definitions.proofs.Lists.{All, none, one, all_map}
use Rattle.definitions.proofs.Presses.{Same, is-same, Apart, before-apart, before-trans, all-behind, rise-rest, rise-apart, all-some, counted-after, either-counted, both-counted, same-presses, open_of, hits-open, open-all, count-whole}

-- notes that are all pressed are no more than the presses
open-none : (q : ℕ → ℕ → Bool) {ms : List Note} → All (λ (m : Note). q m.row m.column ≡ true) ms → open_of (λ c. true) q ms ≡ 0
open-none q none = refl
open-none q (one h hs) = rw h (omega (arith, open-none q hs))

or-false : (x : Bool) → (x || false) ≡ x
or-false true = refl
or-false false = refl

few-notes : (ps : List Press) {ms : List Note} → Apart ms → All (λ (m : Note). is_pressed m.row m.column ps ≡ true) ms → length ms ≤ length ps
few-notes ps {ms = ms} x a =
    omega (
      arith,
      hits-open (λ c. true) [] ps x,
      open-all (λ c. true) ms,
      count-whole ms,
      count-whole (hits_after ms [] ps),
      counted-after ms [] ps,
      open-none (λ i c. is_pressed i c ps || false) (all_map (λ (m : Note) h. or-false (is_pressed m.row m.column ps) ∙ h) a),
    )

-- none is missed where there are no misses
none-missed : (ps : List Press) (ms : List Note) → length (filter (λ (m : Note). not (is_pressed m.row m.column ps)) ms) ≡ 0
    → All (λ (m : Note). is_pressed m.row m.column ps ≡ true) ms
none-missed ps [] h = none
none-missed ps (m ∷ ms) h = go (is_pressed m.row m.column ps) refl (none-missed ps ms) h
  where
    left : List Note
    left = filter (λ (m : Note). not (is_pressed m.row m.column ps)) ms

    go : (x : Bool) → is_pressed m.row m.column ps ≡ x → (length left ≡ 0 → All (λ (m : Note). is_pressed m.row m.column ps ≡ true) ms)
        → length (cond (not x) (m ∷ left) left) ≡ 0 → All (λ (m : Note). is_pressed m.row m.column ps ≡ true) (m ∷ ms)
    go true e ih z = one e (ih z)
    go false e ih z = absurd (omega arith)

all-both : {A : Type 0} {P Q R : A → Type 0} {l : List A} → ((a : A) → P a → Q a → R a) → All P l → All Q l → All R l
all-both f none none = none
all-both f (one {a = a} p ps) (one q qs) = one (f a p q) (all-both f ps qs)

-- a place does not stand above another
pub record UpTo (i c j d : ℕ) : Type 0 where
  pub row : i ≤ j
  pub column : i ≡ j → c ≤ d

pub not-behind : (i c j d : ℕ) → not (before j d i c) ≡ true → UpTo i c j d
not-behind i c j d h = go (ltb j i) (eqb j i) (ltb d c) refl refl refl h
  where
    go : (x y z : Bool) → ltb j i ≡ x → eqb j i ≡ y → ltb d c ≡ z → not (x || (y && z)) ≡ true → UpTo i c j d
    go true y z p q r h = absurd (false≢true h)
    go false true true p q r h = absurd (false≢true h)
    go false true false p q r h = record { row = ltb-false j i p; column = λ e. ltb-false d c r }
    go false false z p q r h = record { row = ltb-false j i p; column = λ e. absurd (eqb-false j i q (sym e)) }

pub up-trans : (i c j d k e : ℕ) → UpTo i c j d → UpTo j d k e → UpTo i c k e
up-trans i c j d k e a b =
    record {
      row = omega (arith, a.row, b.row);
      column = λ p. omega (arith, a.column (omega (arith, a.row, b.row)), b.column (omega (arith, a.row, b.row)));
    }

-- one that does not stand above it, nor the other above that, is the same
up-same : (i c j d : ℕ) → UpTo i c j d → before i c j d ≡ false → same_place i c j d ≡ false → ⊥
up-same i c j d u h g = go (ltb i j) (eqb i j) (ltb c d) (eqb c d) refl refl refl refl h g
  where
    go : (x y z w : Bool) → ltb i j ≡ x → eqb i j ≡ y → ltb c d ≡ z → eqb c d ≡ w → (x || (y && z)) ≡ false → (y && w) ≡ false → ⊥
    go true y z w p q r s h g = true≢false h
    go false false z w p q r s h g = eqb-false i j q (omega (arith, ltb-false i j p, u.row))
    go false true true w p q r s h g = true≢false h
    go false true false true p q r s h g = true≢false g
    go false true false false p q r s h g = eqb-false c d s (omega (arith, ltb-false c d r, u.column (eqb-true i j q)))

pub up-rest : (p : Press) (ps : List Press) → presses_rise (p ∷ ps) ≡ true → presses_rise ps ≡ true
up-rest p [] h = refl
up-rest p (q ∷ ps) h = and_right _ _ h

-- the next press does not stand before a press
up-next : (p q : Press) (ps : List Press) → presses_rise (p ∷ q ∷ ps) ≡ true → UpTo p.row p.column q.row q.column
up-next p q ps h =
    let u = not-behind _ _ _ _ (and_left _ (presses_rise (q ∷ ps)) h) in
    record { row = omega (arith, u.row); column = λ e. omega (arith, u.column e) }

pub all-up : (p : Press) (ps : List Press) → presses_rise (p ∷ ps) ≡ true → All (λ (q : Press). UpTo p.row p.column q.row q.column) ps
all-up p [] h = none
all-up p (q ∷ ps) h =
    let a : UpTo p.row p.column q.row q.column = up-next p q ps h in
    one a (all_map (λ (x : Press) u. up-trans p.row p.column q.row q.column x.row x.column a u) (all-up q ps (up-rest p (q ∷ ps) h)))

-- a place at which none of these presses stands
pub not-pressed : (i c : ℕ) {ps : List Press} → All (λ (q : Press). same_place q.row q.column i c ≡ false) ps → is_pressed i c ps ≡ false
not-pressed i c none = refl
not-pressed i c (one h hs) = rw (h, not-pressed i c hs) refl

press-is : (p : Press) (m : Note) → same_place p.row p.column m.row m.column ≡ true → p ≡ press_on m
press-is p m e =
    let x : Same p.row p.column m.row m.column = is-same p.row p.column m.row m.column e in
    rw (← x.row, ← x.column) refl

or-rest : (x y : Bool) → x ≡ false → (x || y) ≡ true → y ≡ true
or-rest true y e h = absurd (true≢false e)
or-rest false y e h = h

-- some of notes that rise do too
rise-all : (ns : List Note) → notes_rise ns ≡ true → (n : Note) → All (λ (m : Note). before n.row n.column m.row m.column ≡ true) ns → notes_rise (n ∷ ns) ≡ true
rise-all [] h n a = refl
rise-all (m ∷ ns) h n (one p a) = rw p h

pub some-rise : (t : Note → Bool) (ns : List Note) → notes_rise ns ≡ true → notes_rise (filter t ns) ≡ true
some-rise t [] h = refl
some-rise t (n ∷ ns) h = go (t n) (some-rise t ns (rise-rest n ns h))
  where
    go : (x : Bool) → notes_rise (filter t ns) ≡ true → notes_rise (cond x (n ∷ filter t ns) (filter t ns)) ≡ true
    go true q = rise-all (filter t ns) q n (all-some t (all-behind n ns h))
    go false q = q

-- A trace that rises, in which each of these notes is pressed and which is no longer than they are, is one press on each.
matched : (ms : List Note) (ps : List Press) → notes_rise ms ≡ true → presses_rise ps ≡ true
    → All (λ (m : Note). is_pressed m.row m.column ps ≡ true) ms → length ps ≤ length ms → ps ≡ map press_on ms
matched [] [] r u a l = refl
matched [] (p ∷ ps) r u a l = absurd (omega arith)
matched (m ∷ ms) [] r u (one h a) l = absurd (false≢true h)
matched (m ∷ ms) (p ∷ ps) r u (one h a) l =
    go (same_place p.row p.column m.row m.column) (before p.row p.column m.row m.column) refl refl
    (matched ms ps (rise-rest m ms r) (up-rest p ps u))
  where
    go : (x y : Bool) → same_place p.row p.column m.row m.column ≡ x → before p.row p.column m.row m.column ≡ y
        → (All (λ (m : Note). is_pressed m.row m.column ps ≡ true) ms → length ps ≤ length ms → ps ≡ map press_on ms)
        → p ∷ ps ≡ map press_on (m ∷ ms)
    go true y e f ih =
        let s : Same p.row p.column m.row m.column = is-same p.row p.column m.row m.column e in
        let others : All (λ (x : Note). same_place p.row p.column x.row x.column ≡ false) ms =
        all_map (λ (x : Note) q. rw (s.row, s.column) (before-apart m.row m.column x.row x.column q)) (all-behind m ms r) in
        ap (λ (q : Press). q ∷ ps) (press-is p m e)
        ∙ ap (λ (qs : List Press). press_on m ∷ qs) (ih (all-both (λ (x : Note) o q. or-rest (same_place p.row p.column x.row x.column) (is_pressed x.row x.column ps) o q) others a) (omega arith))
    go false true e f ih =
        let others : All (λ (x : Note). same_place p.row p.column x.row x.column ≡ false) ms =
        all_map (λ (x : Note) q. before-apart p.row p.column x.row x.column (before-trans p.row p.column m.row m.column x.row x.column f q)) (all-behind m ms r) in
        let rest : All (λ (x : Note). is_pressed x.row x.column ps ≡ true) (m ∷ ms) =
        one
        (or-rest (same_place p.row p.column m.row m.column) (is_pressed m.row m.column ps) e h)
        (all-both (λ (x : Note) o q. or-rest (same_place p.row p.column x.row x.column) (is_pressed x.row x.column ps) o q) others a) in
        absurd (omega (arith, few-notes ps (rise-apart (m ∷ ms) r) rest))
    go false false e f ih =
        absurd
        (true≢false
        (sym (or-rest (same_place p.row p.column m.row m.column) (is_pressed m.row m.column ps) e h)
        ∙ not-pressed m.row m.column (all_map (λ (q : Press) w. differs q w) (all-up p ps u))))
      where
        differs : (q : Press) → UpTo p.row p.column q.row q.column → same_place q.row q.column m.row m.column ≡ false
        differs q w = at (same_place q.row q.column m.row m.column) refl
          where
            at : (t : Bool) → same_place q.row q.column m.row m.column ≡ t → t ≡ false
            at false d = refl
            at true d =
                let s : Same q.row q.column m.row m.column = is-same q.row q.column m.row m.column d in
                absurd
                (up-same p.row p.column m.row m.column
                (record { row = omega (arith, w.row, s.row); column = λ z. omega (arith, w.column (omega (arith, s.row, z)), s.column) }) f e)

-- and the other way: one press on each note, in their order, leaves none
each-pressed : (ms : List Note) → All (λ (m : Note). is_pressed m.row m.column (map press_on ms) ≡ true) ms
each-pressed [] = none
each-pressed (m ∷ ms) =
    one (rw (eq-eqb m.row m.row refl, eq-eqb m.column m.column refl) refl)
    (all_map (λ (x : Note) h. or-more (same_place m.row m.column x.row x.column) (is_pressed x.row x.column (map press_on ms)) h) (each-pressed ms))
  where
    or-more : (x y : Bool) → y ≡ true → (x || y) ≡ true
    or-more true y h = refl
    or-more false y h = h

no-misses : (ps : List Press) {ms : List Note} → All (λ (m : Note). is_pressed m.row m.column ps ≡ true) ms
    → length (filter (λ (m : Note). not (is_pressed m.row m.column ps)) ms) ≡ 0
no-misses ps none = refl
no-misses ps (one h hs) = rw h (no-misses ps hs)

clean-only : (ns : List Note) (ps : List Press) → notes_rise ns ≡ true → presses_rise ps ≡ true
    → length (strays ns ps) ≡ 0 → length (misses ns ps) ≡ 0 → ps ≡ map press_on (played ns)
unfolding misses
clean-only ns ps r u s m =
    matched (played ns) ps (some-rise (λ (n : Note). is_played n.kind) ns r) u (none-missed ps (played ns) m)
    (omega (arith, both-counted ns ps r, either-counted ns ps, s, m))

missed-none : (ns : List Note) → length (misses ns (map press_on (played ns))) ≡ 0
unfolding misses
missed-none ns = no-misses (map press_on (played ns)) (each-pressed (played ns))

only-clean : (ns : List Note) (ps : List Press) → notes_rise ns ≡ true → ps ≡ map press_on (played ns)
    → (length (strays ns ps) ≡ 0) × (length (misses ns ps) ≡ 0)
only-clean ns ps r e =
    let m : length (misses ns ps) ≡ 0 = rw e (missed-none ns) in
    (omega (arith, both-counted ns ps r, either-counted ns ps, m, ap length e, length-map (played ns) press_on), m)

pub clean-trace : CleanTrace
unfolding CleanTrace
clean-trace ns ps r u =
    record {
      clean = λ s m. same-presses _ _ (λ f. omega (arith, ap f (clean-only ns ps r u s m)));
      only = λ e. let x = only-clean ns ps r e in (omega (arith, x.0), omega (arith, x.1));
    }
