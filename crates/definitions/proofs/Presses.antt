-- What hits, strays and misses add up to.
use mathlib.Core.Path.{◌≡◌, refl, ap, ap₂, sym, ◌∙◌}
use mathlib.Core.Bool.{Bool, true, false, cond, ◌&&◌, ◌||◌, not, false≢true}
use mathlib.Core.List.{List, [], ◌∷◌, ◌++◌}
use Prim.Native.Nat.{ℕ, zero, suc, ◌+◌, ◌≤◌, ◌<◌}
use native.Mathlib.Omega.{arith}
use lib.Dec.{eqb, ltb, leb}
use lib.ListN.{length, length-append, get_or}
use borrow.Author.Tests.{eqb-true, eqb-false, ne_eqb, ltb-true, ltb-false, lt-ltb, leb-true}
use Rattle.std.specs.List.{filter, count_by, list_all}
use Rattle.definitions.specs.Lists.{number_of_bool, only_if, sum_columns, before}
use Rattle.definitions.specs.Written.{within_lanes}
use Rattle.definitions.specs.declared.Note.{Note}
use Rattle.definitions.specs.declared.Press.{Press}
use Rattle.definitions.specs.Presses.{notes_rise, columns_fit, is_played, played, same_place, is_pressed, is_noted, is_hit, hits_after, strays_after, hits, strays, misses, hits_in, misses_in, played_in, of_columns}
use Rattle.definitions.specs.PressClaims.{PressesCounted, NotesAreCounted, ColumnsAreCounted}
use Rattle.definitions.proofs.Bools.{and_left, and_right, and-false, equal-turned}
use Rattle.definitions.proofs.Lists.{All, none, one, all_map, count-cons, count-append}
use Rattle.definitions.proofs.Written.Reads.{all-within}

-- ---- Presses by numbers: two lists are the same if each number that is made of them is
first_row : List Press → ℕ
first_row [] = 0
first_row (p ∷ ps) = p.row

first_column : List Press → ℕ
first_column [] = 0
first_column (p ∷ ps) = p.column

after_first : List Press → List Press
after_first [] = []
after_first (p ∷ ps) = ps

pub same-presses : (ps qs : List Press) → ((f : List Press → ℕ) → f ps ≡ f qs) → ps ≡ qs
unfolding first_row first_column after_first
same-presses [] [] h = refl
same-presses [] (q ∷ qs) h = absurd (omega (arith, h length))
same-presses (p ∷ ps) [] h = absurd (omega (arith, h length))
same-presses (p ∷ ps) (q ∷ qs) h = ap₂ (λ a l. a ∷ l) (same-press p q (h first_row) (h first_column)) (same-presses ps qs (λ f. h (λ l. f (after_first l))))
  where
    same-press : (a b : Press) → a.row ≡ b.row → a.column ≡ b.column → a ≡ b
    same-press a b e f = rw (e, f) refl

-- ---- A press is a hit or a stray
one-of : {A : Type 0} (t : Bool) (a : A) → length (only_if t (a ∷ [])) + length (only_if (not t) (a ∷ [])) ≡ 1
one-of true a = refl
one-of false a = refl

pub counted-after : (ns : List Note) (earlier ps : List Press) → length (hits_after ns earlier ps) + length (strays_after ns earlier ps) ≡ length ps
counted-after ns earlier [] = refl
counted-after ns earlier (p ∷ ps) =
    omega (
      arith,
      length-append (only_if (is_hit ns earlier p) (p ∷ [])) (hits_after ns (p ∷ earlier) ps),
      length-append (only_if (not (is_hit ns earlier p)) (p ∷ [])) (strays_after ns (p ∷ earlier) ps),
      one-of (is_hit ns earlier p) p,
      counted-after ns (p ∷ earlier) ps,
    )

pub either-counted : (ns : List Note) (ps : List Press) → length (hits ns ps) + length (strays ns ps) ≡ length ps
unfolding hits strays
either-counted ns ps = counted-after (played ns) [] ps

pub presses-counted : PressesCounted
unfolding PressesCounted
presses-counted ns ps = omega (arith, either-counted ns ps)

-- ---- No two notes stand at one place
pub record Same (i c j d : ℕ) : Type 0 where
  pub row : i ≡ j
  pub column : c ≡ d

pub is-same : (i c j d : ℕ) → same_place i c j d ≡ true → Same i c j d
is-same i c j d h = record { row = eqb-true i j (and_left (eqb i j) (eqb c d) h); column = eqb-true c d (and_right (eqb i j) (eqb c d) h) }

pub data Apart : List Note → Type 0 where
  nil : Apart []
  cons : {n : Note} {ns : List Note} → All (λ (m : Note). same_place n.row n.column m.row m.column ≡ false) ns → Apart ns → Apart (n ∷ ns)

pub before-apart : (i c j d : ℕ) → before i c j d ≡ true → same_place i c j d ≡ false
before-apart i c j d h = go (ltb i j) (eqb i j) (eqb c d) refl refl refl h
  where
    go : (x y z : Bool) → ltb i j ≡ x → eqb i j ≡ y → eqb c d ≡ z → (x || (y && ltb c d)) ≡ true → (y && z) ≡ false
    go x false z p q r h = refl
    go x true false p q r h = refl
    go true true true p q r h = absurd (omega (arith, ltb-true i j p, eqb-true i j q))
    go false true true p q r h = absurd (omega (arith, ltb-true c d h, eqb-true c d r))

pub record Before (i c j d : ℕ) : Type 0 where
  pub row : i ≤ j
  pub column : i ≡ j → c < d

pub before-is : (i c j d : ℕ) → before i c j d ≡ true → Before i c j d
before-is i c j d h = go (ltb i j) (eqb i j) refl refl h
  where
    go : (x y : Bool) → ltb i j ≡ x → eqb i j ≡ y → (x || (y && ltb c d)) ≡ true → Before i c j d
    go true y p q h = record { row = omega (arith, ltb-true i j p); column = λ e. absurd (omega (arith, ltb-true i j p)) }
    go false true p q h = record { row = omega (arith, eqb-true i j q); column = λ e. ltb-true c d h }
    go false false p q h = absurd (false≢true h)

pub is-before : (i c j d : ℕ) → Before i c j d → before i c j d ≡ true
is-before i c j d a = go (ltb i j) (eqb i j) refl refl
  where
    go : (x y : Bool) → ltb i j ≡ x → eqb i j ≡ y → (x || (y && ltb c d)) ≡ true
    go true y p q = refl
    go false true p q = lt-ltb c d (a.column (eqb-true i j q))
    go false false p q = absurd (eqb-false i j q (omega (arith, ltb-false i j p, a.row)))

pub before-trans : (i c j d k e : ℕ) → before i c j d ≡ true → before j d k e ≡ true → before i c k e ≡ true
before-trans i c j d k e p q =
    let a : Before i c j d = before-is i c j d p in
    let b : Before j d k e = before-is j d k e q in
    is-before i c k e (record { row = omega (arith, a.row, b.row); column = λ e. omega (arith, a.column (omega (arith, a.row, b.row)), b.column (omega (arith, a.row, b.row))) })

pub all-behind : (n : Note) (ns : List Note) → notes_rise (n ∷ ns) ≡ true → All (λ (m : Note). before n.row n.column m.row m.column ≡ true) ns
all-behind n [] h = none
all-behind n (m ∷ ns) h =
    let a : before n.row n.column m.row m.column ≡ true = and_left (before n.row n.column m.row m.column) (notes_rise (m ∷ ns)) h in
    one a (all_map (λ (x : Note) q. before-trans n.row n.column m.row m.column x.row x.column a q)
    (all-behind m ns (and_right (before n.row n.column m.row m.column) (notes_rise (m ∷ ns)) h)))

pub rise-rest : (n : Note) (ns : List Note) → notes_rise (n ∷ ns) ≡ true → notes_rise ns ≡ true
rise-rest n [] h = refl
rise-rest n (m ∷ ns) h = and_right (before n.row n.column m.row m.column) (notes_rise (m ∷ ns)) h

pub rise-apart : (ns : List Note) → notes_rise ns ≡ true → Apart ns
rise-apart [] h = nil
rise-apart (n ∷ ns) h =
    cons
    (all_map (λ (m : Note) q. before-apart n.row n.column m.row m.column q) (all-behind n ns h))
    (rise-apart ns (rise-rest n ns h))

-- and so of some of them
pub all-some : {P : Note → Type 0} (t : Note → Bool) {ns : List Note} → All P ns → All P (filter t ns)
all-some t none = none
all-some {P = P} t (one {a = a} {l = l} p ps) = go (t a) (all-some t ps)
  where
    go : (x : Bool) → All P (filter t l) → All P (cond x (a ∷ filter t l) (filter t l))
    go true q = one p q
    go false q = q

pub some-apart : (t : Note → Bool) {ns : List Note} → Apart ns → Apart (filter t ns)
some-apart t nil = nil
some-apart t (cons {n = n} {ns = ns} a r) = go (t n) (some-apart t r)
  where
    go : (x : Bool) → Apart (filter t ns) → Apart (cond x (n ∷ filter t ns) (filter t ns))
    go true q = cons (all-some t a) q
    go false q = q

and-true : (x : Bool) → (x && true) ≡ x
and-true true = refl
and-true false = refl

-- what holds of every note holds of each of a list
for-all : {P : Note → Type 0} (ms : List Note) → ((m : Note) → P m) → All P ms
for-all [] f = none
for-all (m ∷ ms) f = one (f m) (for-all ms f)

turned : (i c j d : ℕ) → same_place i c j d ≡ same_place j d i c
turned i c j d = rw (equal-turned i j, equal-turned c d) refl

-- ---- Notes that no press has met, counted where their column passes a test
module _ (t : ℕ → Bool) where
  -- those of ms that are not among the places q
  abbrev pub open_of : (ℕ → ℕ → Bool) → List Note → ℕ
  open_of q [] = 0
  open_of q (m ∷ ms) = number_of_bool (t m.column && not (q m.row m.column)) + open_of q ms

  open-same : (q r : ℕ → ℕ → Bool) {ms : List Note} → All (λ (m : Note). q m.row m.column ≡ r m.row m.column) ms → open_of q ms ≡ open_of r ms
  open-same q r none = refl
  open-same q r (one {a = a} {l = l} p ps) = rw (p, open-same q r ps)

  -- one press more meets one note more, if it is a hit
  meets-one : (i c : ℕ) (q : ℕ → ℕ → Bool) (ms : List Note) → Apart ms
      → open_of q ms ≡ number_of_bool (t c && (is_noted i c ms && not (q i c))) + open_of (λ j d. same_place i c j d || q j d) ms
  meets-one i c q [] nil = rw (and-false (t c)) refl
  meets-one i c q (n ∷ ns) (cons a r) = go (same_place i c n.row n.column) refl (meets-one i c q ns r)
    where
      elsewhere : (i c : ℕ) (m : Note) → i ≡ n.row → c ≡ n.column → same_place n.row n.column m.row m.column ≡ false
          → q m.row m.column ≡ (same_place i c m.row m.column || q m.row m.column)
      elsewhere i c m row column h =
          let e : same_place i c m.row m.column ≡ false = rw (row, column) h in
          ap (λ b. b || q m.row m.column) (sym e)

      go : (x : Bool) → same_place i c n.row n.column ≡ x
          → open_of q ns ≡ number_of_bool (t c && (is_noted i c ns && not (q i c))) + open_of (λ j d. same_place i c j d || q j d) ns
          → open_of q (n ∷ ns)
          ≡ number_of_bool (t c && (is_noted i c (n ∷ ns) && not (q i c))) + open_of (λ j d. same_place i c j d || q j d) (n ∷ ns)
      go true e ih =
          let x : Same i c n.row n.column = is-same i c n.row n.column e in
          let others : open_of q ns ≡ open_of (λ j d. same_place i c j d || q j d) ns =
          open-same q (λ j d. same_place i c j d || q j d) (all_map (λ (m : Note) h. elsewhere i c m x.row x.column h) a) in
          let f : q i c ≡ q n.row n.column = rw (x.row, x.column) refl in
          let g : t c ≡ t n.column = rw x.column refl in
          rw (turned n.row n.column i c, e, f, g, and-false (t n.column)) (omega (arith, others))
      go false e ih = rw (turned n.row n.column i c, e) (omega (arith, ih))

  -- the hits among presses, and the notes that they and those before them leave open, are those that those before leave open
  pub hits-open : (earlier ps : List Press) {ms : List Note} → Apart ms
      → count_by (λ (p : Press). t p.column) (hits_after ms earlier ps) + open_of (λ i c. is_pressed i c ps || is_pressed i c earlier) ms
      ≡ open_of (λ i c. is_pressed i c earlier) ms
  hits-open earlier [] x = omega arith
  hits-open earlier (p ∷ ps) {ms = ms} x =
      let counted : count_by (λ (p : Press). t p.column) (only_if (is_hit ms earlier p) (p ∷ []) ++ hits_after ms (p ∷ earlier) ps)
      ≡ number_of_bool (t p.column && is_hit ms earlier p) + count_by (λ (p : Press). t p.column) (hits_after ms (p ∷ earlier) ps) =
      count-append (λ (p : Press). t p.column) (only_if (is_hit ms earlier p) (p ∷ [])) (hits_after ms (p ∷ earlier) ps)
      ∙ ap (λ k. k + count_by (λ (p : Press). t p.column) (hits_after ms (p ∷ earlier) ps)) (count-only (is_hit ms earlier p) p) in
      let moved : open_of (λ i c. is_pressed i c (p ∷ ps) || is_pressed i c earlier) ms ≡ open_of (λ i c. is_pressed i c ps || is_pressed i c (p ∷ earlier)) ms =
      open-same (λ i c. is_pressed i c (p ∷ ps) || is_pressed i c earlier) (λ i c. is_pressed i c ps || is_pressed i c (p ∷ earlier))
      (for-all ms (λ (m : Note). or-moved (same_place p.row p.column m.row m.column) (is_pressed m.row m.column ps) (is_pressed m.row m.column earlier))) in
      omega (arith, counted, moved, hits-open (p ∷ earlier) ps x, meets-one p.row p.column (λ i c. is_pressed i c earlier) ms x)
    where
      count-only : (b : Bool) (p : Press) → count_by (λ (p : Press). t p.column) (only_if b (p ∷ [])) ≡ number_of_bool (t p.column && b)
      count-only true p = omega (arith, count-cons (λ (p : Press). t p.column) p [], ap number_of_bool (and-true (t p.column)))
      count-only false p = rw (and-false (t p.column)) refl

      or-moved : (x y z : Bool) → ((x || y) || z) ≡ (y || (x || z))
      or-moved true true z = refl
      or-moved true false z = refl
      or-moved false true z = refl
      or-moved false false z = refl

  -- and the notes that none leaves open are all
  pub open-all : (ms : List Note) → open_of (λ i c. false) ms ≡ count_by (λ (m : Note). t m.column) ms
  open-all [] = refl
  open-all (m ∷ ms) = omega (arith, count-cons (λ (m : Note). t m.column) m ms, ap number_of_bool (and-true (t m.column)), open-all ms)

  open-misses : (ps : List Press) (ms : List Note)
      → open_of (λ i c. is_pressed i c ps || false) ms ≡ count_by (λ (m : Note). t m.column) (filter (λ (m : Note). not (is_pressed m.row m.column ps)) ms)
  open-misses ps [] = refl
  open-misses ps (m ∷ ms) = go (is_pressed m.row m.column ps) (open-misses ps ms)
    where
      f : Note → Bool
      f m = t m.column

      left : List Note
      left = filter (λ (m : Note). not (is_pressed m.row m.column ps)) ms

      go : (x : Bool) → open_of (λ i c. is_pressed i c ps || false) ms ≡ count_by (λ (m : Note). t m.column) left
          → number_of_bool (t m.column && not (x || false)) + open_of (λ i c. is_pressed i c ps || false) ms
          ≡ count_by (λ (m : Note). t m.column) (cond (not x) (m ∷ left) left)
      go true ih = omega (arith, ih, ap number_of_bool (and-false (t m.column)))
      go false ih = omega (arith, ih, count-cons (λ (m : Note). t m.column) m left, ap number_of_bool (and-true (t m.column)))

-- hits and misses, counted where the column passes a test, are the played notes that are counted so
pub played-counted : (t : ℕ → Bool) (ns : List Note) (ps : List Press) → notes_rise ns ≡ true
    → count_by (λ (p : Press). t p.column) (hits ns ps) + count_by (λ (n : Note). t n.column) (misses ns ps)
    ≡ count_by (λ (n : Note). t n.column) (played ns)
unfolding hits misses
played-counted t ns ps h =
    omega
    (arith, hits-open t [] ps (some-apart (λ (n : Note). is_played n.kind) (rise-apart ns h)), open-all t (played ns), open-misses t ps (played ns))

pub count-whole : {A : Type 0} (l : List A) → count_by (λ (a : A). true) l ≡ length l
count-whole [] = refl
count-whole {A = A} (a ∷ l) = omega (arith, count-cons (λ (a : A). true) a l, count-whole l)

pub both-counted : (ns : List Note) (ps : List Press) → notes_rise ns ≡ true → length (hits ns ps) + length (misses ns ps) ≡ length (played ns)
both-counted ns ps h =
    omega (arith, played-counted (λ c. true) ns ps h, count-whole (hits ns ps), count-whole (misses ns ps), count-whole (played ns))

pub notes-counted : NotesAreCounted
unfolding NotesAreCounted hits_in misses_in played_in
notes-counted ns ps h =
    record {
      all = omega (arith, both-counted ns ps h);
      column = λ c. omega (arith, played-counted (λ d. eqb d c) ns ps h);
    }

-- ---- Ten columns
pub columns-length : (f : ℕ → ℕ) (c n : ℕ) → length (of_columns f c n) ≡ n
columns-length f c zero = refl
columns-length f c (suc n) = ap suc (columns-length f (suc c) n)

pub columns-get : (f : ℕ → ℕ) (c n i : ℕ) → i < n → get_or (of_columns f c n) i 0 ≡ f (c + i)
columns-get f c zero i h = absurd (omega arith)
columns-get f c (suc n) zero h = let e : c ≡ c + 0 = omega arith in ap f e
columns-get f c (suc n) (suc i) h = let e : suc c + i ≡ c + suc i = omega arith in columns-get f (suc c) n i (omega arith) ∙ ap f e

none-column : (n x : ℕ) → n ≤ x → sum_columns n (λ c. number_of_bool (eqb x c)) ≡ 0
none-column zero x h = refl
none-column (suc n) x h = rw (ne_eqb x n (λ e. absurd (omega arith))) (omega (arith, none-column n x (omega arith)))

one-column : (n x : ℕ) → x < n → sum_columns n (λ c. number_of_bool (eqb x c)) ≡ 1
one-column zero x h = absurd (omega arith)
one-column (suc n) x h = go (eqb x n) refl (one-column n x)
  where
    go : (t : Bool) → eqb x n ≡ t → (x < n → sum_columns n (λ c. number_of_bool (eqb x c)) ≡ 1)
        → sum_columns n (λ c. number_of_bool (eqb x c)) + number_of_bool t ≡ 1
    go true e ih = omega (arith, none-column n x (omega (arith, eqb-true x n e)))
    go false e ih = omega (arith, ih (below x n (eqb-false x n e) h))
      where
        below : (x n : ℕ) → (x ≡ n → ⊥) → x < suc n → x < n
        below x n d h = omega arith

sum-none : (n : ℕ) → sum_columns n (λ c. 0) ≡ 0
sum-none zero = refl
sum-none (suc n) = omega (arith, sum-none n)

sum-plus : (n : ℕ) (f g h : ℕ → ℕ) → ((c : ℕ) → h c ≡ f c + g c) → sum_columns n h ≡ sum_columns n f + sum_columns n g
sum-plus zero f g h e = refl
sum-plus (suc n) f g h e = omega (arith, sum-plus n f g h e, e n)

pub columns-whole : {A : Type 0} (f : A → ℕ) (n : ℕ) {l : List A} → All (λ a. f a < n) l
    → sum_columns n (λ c. count_by (λ (a : A). eqb (f a) c) l) ≡ length l
columns-whole f n none = sum-none n
columns-whole {A = A} f n (one {a = a} {l = l} p ps) =
    omega (
      arith,
      sum-plus n (λ c. number_of_bool (eqb (f a) c)) (λ c. count_by (λ (a : A). eqb (f a) c) l) (λ c. count_by (λ (a : A). eqb (f a) c) (a ∷ l)) (λ c. count-cons (λ (a : A). eqb (f a) c) a l),
      one-column n (f a) p,
      columns-whole f n ps,
    )

all-hits : {P : Press → Type 0} (ms : List Note) (earlier : List Press) {ps : List Press} → All P ps → All P (hits_after ms earlier ps)
all-hits ms earlier none = none
all-hits {P = P} ms earlier (one {a = p} {l = ps} h hs) = go (is_hit ms earlier p) (all-hits ms (p ∷ earlier) hs)
  where
    go : (t : Bool) → All P (hits_after ms (p ∷ earlier) ps) → All P (only_if t (p ∷ []) ++ hits_after ms (p ∷ earlier) ps)
    go true q = one h q
    go false q = q

up-to : (m : ℕ) → m ≤ 9 → (ps : List Press) → list_all (λ (p : Press). leb p.column m) ps ≡ true → All (λ (p : Press). p.column < 10) ps
up-to m l [] h = none
up-to m l (p ∷ ps) h =
    let rest = list_all (λ (q : Press). leb q.column m) ps in
    one (omega (arith, leb-true p.column m (and_left (leb p.column m) rest h), l)) (up-to m l ps (and_right (leb p.column m) rest h))

presses-below : (ps : List Press) → columns_fit ps ≡ true → All (λ (p : Press). p.column < 10) ps
presses-below ps h = up-to _ (omega arith) ps h

pub notes-below : (ns : List Note) → within_lanes 10 ns ≡ true → All (λ (n : Note). n.column < 10) ns
notes-below ns h = all-within 10 ns h

pub columns-counted : ColumnsAreCounted
unfolding ColumnsAreCounted hits_in misses_in hits misses
columns-counted ns ps h g =
    record {
      hit = omega (arith, columns-whole (λ (p : Press). p.column) 10 (all-hits (played ns) [] (presses-below ps g)));
      missed =
          omega (
            arith,
            columns-whole (λ (n : Note). n.column) 10
                (all-some (λ (n : Note). not (is_pressed n.row n.column ps)) (all-some (λ (n : Note). is_played n.kind) (notes-below ns h))),
          );
    }
