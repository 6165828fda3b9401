-- 14, from the first note on: by the first row of each column that no note reaches.
use mathlib.Core.Path.{◌≡◌, refl, ap, ap₂, sym, ◌∙◌, subst}
use mathlib.Core.Logic.{◌⊎◌, inl, inr}
use mathlib.Core.Bool.{Bool, true, false, not, ◌&&◌, ◌||◌, true≢false}
use mathlib.Core.List.{List, [], ◌∷◌, ◌++◌}
use Prim.Native.Nat.{ℕ, zero, suc, ◌+◌, ◌≤◌, ◌<◌}
use native.Mathlib.Omega.{arith}
use borrow.Author.Tests.{eqb-true, eqb-false, eq-eqb, le-leb, leb-true, leb-false}
use lib.Dec.{eqb, leb}
use lib.ListN.{length, take, drop, get_or, replicate}
use lib.Seq.{get_or-set_same, get_or-set_other}
use Rattle.std.proofs.Common.{set, length-set}
use Rattle.definitions.specs.Written.{meet, meets_one, some_meet}
use Rattle.definitions.specs.declared.Note.{Note}
use Rattle.definitions.proofs.Lists.{All, none, one, all_append, all_map}
use Rattle.definitions.proofs.Bools.{and_left, and_right}
use Rattle.definitions.proofs.Written.Notes.{After, Sorted, no_more, first, Below, all-below, in_order, last, reach-of}
use Rattle.definitions.proofs.Written.Passes.{none-meet, sorted_append}
use Rattle.definitions.proofs.WriterMakes.{no_note}
use Rattle.written.proofs.Parts.{drop-next, take-next, parts-of}
use Rattle.note_records.proofs.Kept.{NoteAt}

-- one of a list
data Some (P : Note → Type 0) : List Note → Type 0 where
  this : {x : Note} {l : List Note} → P x → Some P (x ∷ l)
  later : {x : Note} {l : List Note} → Some P l → Some P (x ∷ l)

some_left : {P : Note → Type 0} {s : List Note} (t : List Note) → Some P s → Some P (s ++ t)
some_left t (this p) = this p
some_left t (later p) = later (some_left t p)

some_last : {P : Note → Type 0} (s : List Note) (x : Note) → P x → Some P (s ++ (x ∷ []))
some_last [] x p = this p
some_last (y ∷ s) x p = later (some_last s x p)

some_map : {P Q : Note → Type 0} {l : List Note} → ((x : Note) → P x → Q x) → Some P l → Some Q l
some_map f (this {x = x} p) = this (f x p)
some_map f (later p) = later (some_map f p)

-- two notes that meet, one before the other
or-true : (b : Bool) → (b || true) ≡ true
or-true true = refl
or-true false = refl

meets-later : (x y : Note) (s t : List Note) → meet x y ≡ true → meets_one x (s ++ (y ∷ t)) ≡ true
meets-later x y [] t e = ap (λ b. b || meets_one x t) e
meets-later x y (z ∷ s) t e = ap (λ b. meet x z || b) (meets-later x y s t e) ∙ or-true (meet x z)

pair-meets : (y : Note) (s t : List Note) → Some (λ x. meet x y ≡ true) s → some_meet (s ++ (y ∷ t)) ≡ true
pair-meets y [] t q = elim q [ ]
pair-meets y (x ∷ s) t (this e) = ap (λ b. b || some_meet (s ++ (y ∷ t))) (meets-later x y s t e)
pair-meets y (x ∷ s) t (later p) = ap (λ b. meets_one x (s ++ (y ∷ t)) || b) (pair-meets y s t p) ∙ or-true (meets_one x (s ++ (y ∷ t)))

-- all that stand before a note in order stand below it
before-note : (y : Note) (s t : List Note) → in_order (s ++ (y ∷ t)) ≡ true → All (λ x. Below x y) s
before-note y [] t e = none
before-note y (x ∷ s) t e = one (at s (all-below x (s ++ (y ∷ t)) e)) (before-note y s t (rest x (s ++ (y ∷ t)) e))
  where
    at : (s : List Note) → All (Below x) (s ++ (y ∷ t)) → Below x y
    at [] (one h a) = h
    at (z ∷ s) (one h a) = at s a

    rest : (x : Note) (l : List Note) → in_order (x ∷ l) ≡ true → in_order l ≡ true
    rest x [] e = refl
    rest x (z ∷ l) e = and_right _ (in_order (z ∷ l)) e

-- ---- The loop
pub record ApartFrom (ns : List Note) (free : List ℕ) (i : ℕ) : Type 0 where
  pub within : i ≤ length ns
  pub size : length free ≡ 10
  sorted : Sorted (take i ns)
  bound : All (λ x. last x < get_or free x.column 0) (take i ns)
  taken : (c : ℕ) → c < 10 → (get_or free c 0 ≡ 0) ⊎ Some (λ x. (x.column ≡ c) × (get_or free c 0 ≡ last x + 1)) (take i ns)

zeros : (n c : ℕ) → ◌≡◌ {A = ℕ} (get_or (replicate n 0) c 0) 0
zeros zero c = refl
zeros (suc n) zero = refl
zeros (suc n) (suc c) = zeros n c

pub apart-start : (ns : List Note) → ApartFrom ns (replicate 10 0) 0
apart-start ns = record { within = omega arith; size = refl; sorted = start ns; bound = empty ns; taken = λ c h. inl (zeros 10 c) }
  where
    start : (ns : List Note) → Sorted (take 0 ns)
    start [] = no_more
    start (x ∷ ns) = no_more

    empty : (ns : List Note) → All (λ x. last x < get_or (replicate 10 0) x.column 0) (take 0 ns)
    empty [] = none
    empty (x ∷ ns) = none

module _ {ns : List Note} {free : List ℕ} {i : ℕ} (o : ApartFrom ns free i) (order : in_order ns ≡ true) (n : Note) (found : NoteAt ns i n) where
  reach : n.row ≤ last n
  reach = reach-of n.row n.kind n.tail found.made.tail

  parts : ns ≡ take i ns ++ (n ∷ drop (i + 1) ns)
  parts = sym (parts-of ns i) ∙ ap (λ l. take i ns ++ l) (drop-next ns i no_note found.within ∙ ap (λ x. x ∷ drop (i + 1) ns) (sym found.same))

  more : take (i + 1) ns ≡ take i ns ++ (n ∷ [])
  more = take-next ns i no_note found.within ∙ ap (λ x. take i ns ++ (x ∷ [])) (sym found.same)

  below : All (λ x. Below x n) (take i ns)
  below = before-note n (take i ns) (drop (i + 1) ns) (subst (λ l. in_order l ≡ true) parts order)

  after : get_or free n.column 0 ≤ n.row → All (λ x. After x n) (take i ns)
  after q = go below o.bound
    where
      go : {l : List Note} → All (λ x. Below x n) l → All (λ x. last x < get_or free x.column 0) l → All (λ x. After x n) l
      go none none = none
      go (one {a = x} b a) (one c d) =
          one
          (record { row = b.row; column = b.column; clear = λ f. let g : get_or free x.column 0 ≡ get_or free n.column 0 = ap (λ k. get_or free k 0) f in omega (arith, c, g, q) })
          (go a d)

  -- v is the first row that the note does not reach
  pub apart-next : get_or free n.column 0 ≤ n.row → (v : ℕ) → v ≡ last n + 1 → ApartFrom ns (set free n.column v) (i + 1)
  apart-next q v e =
      record {
        within = omega (arith, found.within);
        size = length-set free n.column v ∙ o.size;
        sorted = subst Sorted (sym more) (sorted_append o.sorted (first none no_more) (all_map (λ x a. one a none) (after q)));
        bound = subst (All (λ x. last x < get_or (set free n.column v) x.column 0)) (sym more) (all_append (go (after q) o.bound) (one own none));
        taken = taken;
      }
    where
      here : get_or (set free n.column v) n.column 0 ≡ last n + 1
      here = get_or-set_same free n.column v 0 (omega (arith, found.made.column, o.size)) ∙ e

      own : last n < get_or (set free n.column v) n.column 0
      own = omega (arith, here)

      other : (c : ℕ) → (c ≡ n.column → ⊥) → get_or (set free n.column v) c 0 ≡ get_or free c 0
      other c f = get_or-set_other free n.column c v 0 f

      go : {l : List Note} → All (λ x. After x n) l → All (λ x. last x < get_or free x.column 0) l → All (λ x. last x < get_or (set free n.column v) x.column 0) l
      go none none = none
      go (one {a = x} a l) (one b bs) = one (at (eqb x.column n.column) refl) (go l bs)
        where
          at : (t : Bool) → eqb x.column n.column ≡ t → last x < get_or (set free n.column v) x.column 0
          at true f = let g = eqb-true x.column n.column f in let k = a.clear g in omega (arith, ap (λ c. get_or (set free n.column v) c 0) g, here, k, reach)
          at false f = omega (arith, other x.column (eqb-false x.column n.column f), b)

      taken : (c : ℕ) → c < 10 → (get_or (set free n.column v) c 0 ≡ 0) ⊎ Some (λ x. (x.column ≡ c) × (get_or (set free n.column v) c 0 ≡ last x + 1)) (take (i + 1) ns)
      taken c low = at (eqb c n.column) refl
        where
          at : (t : Bool) → eqb c n.column ≡ t → (get_or (set free n.column v) c 0 ≡ 0) ⊎ Some (λ x. (x.column ≡ c) × (get_or (set free n.column v) c 0 ≡ last x + 1)) (take (i + 1) ns)
          at true f =
              let g = eqb-true c n.column f in
              inr (subst (Some (λ x. (x.column ≡ c) × (get_or (set free n.column v) c 0 ≡ last x + 1))) (sym more)
              (some_last (take i ns) n (sym g, ap (λ k. get_or (set free n.column v) k 0) g ∙ here)))
          at false f = old (o.taken c low)
            where
              same : get_or (set free n.column v) c 0 ≡ get_or free c 0
              same = other c (eqb-false c n.column f)

              old : (get_or free c 0 ≡ 0) ⊎ Some (λ x. (x.column ≡ c) × (get_or free c 0 ≡ last x + 1)) (take i ns)
                  → (get_or (set free n.column v) c 0 ≡ 0) ⊎ Some (λ x. (x.column ≡ c) × (get_or (set free n.column v) c 0 ≡ last x + 1)) (take (i + 1) ns)
              old (inl z) = inl (same ∙ z)
              old (inr z) = inr (subst (Some (λ x. (x.column ≡ c) × (get_or (set free n.column v) c 0 ≡ last x + 1))) (sym more) (some_left (n ∷ []) (some_map (λ x p. (p.0, same ∙ p.1)) z)))

  pub apart-broken : n.row < get_or free n.column 0 → some_meet ns ≡ true
  apart-broken q = go (o.taken n.column found.made.column)
    where
      met : {l : List Note} → All (λ x. Below x n) l → Some (λ x. (x.column ≡ n.column) × (get_or free n.column 0 ≡ last x + 1)) l → Some (λ x. meet x n ≡ true) l
      met none q = elim q [ ]
      met (one {a = x} b a) (this p) =
          this (ap₂ (λ s t. s && t) (eq-eqb x.column n.column p.0)
          (ap₂ (λ s t. s && t) (le-leb x.row (last n) (omega (arith, b.row, reach))) (le-leb n.row (last x) (omega (arith, p.1, q)))))
      met (one b a) (later p) = later (met a p)

      go : (get_or free n.column 0 ≡ 0) ⊎ Some (λ x. (x.column ≡ n.column) × (get_or free n.column 0 ≡ last x + 1)) (take i ns) → some_meet ns ≡ true
      go (inl z) = absurd (omega (arith, z, q))
      go (inr p) = ap some_meet parts ∙ pair-meets n (take i ns) (drop (i + 1) ns) (met below p)

pub apart-end : {ns : List Note} {free : List ℕ} {i : ℕ} → ApartFrom ns free i → length ns ≤ i → some_meet ns ≡ false
apart-end {ns} {free} {i} o h = none-meet (subst Sorted (take-all ns i h) o.sorted)
  where
    take-all : (l : List Note) (i : ℕ) → length l ≤ i → take i l ≡ l
    take-all [] zero h = refl
    take-all [] (suc i) h = refl
    take-all (x ∷ l) zero h = absurd (omega arith)
    take-all (x ∷ l) (suc i) h = ap (λ s. x ∷ s) (take-all l i (omega arith))

-- whether none of the notes before meets another
pub record ApartOr (ns : List Note) (free : List ℕ) (i : ℕ) (so_far : Bool) : Type 0 where
  pub apart : so_far ≡ true → ApartFrom ns free i
  pub met : so_far ≡ false → some_meet ns ≡ true

pub apart_or-start : (ns : List Note) → ApartOr ns (replicate 10 0) 0 true
apart_or-start ns = record { apart = λ e. apart-start ns; met = λ e. absurd (true≢false e) }

pub apart_or-next : {ns : List Note} {free : List ℕ} {i : ℕ} {so_far : Bool} → ApartOr ns free i so_far → in_order ns ≡ true → (n : Note) → NoteAt ns i n
    → ApartOr ns (set free n.column (last n + 1)) (i + 1) (so_far && leb (get_or free n.column 0) n.row)
apart_or-next {ns} {free} {i} {so_far} o order n x =
    record {
      apart = λ e.
          apart-next (o.apart (and_left so_far (leb (get_or free n.column 0) n.row) e)) order n x
          (leb-true (get_or free n.column 0) n.row (and_right so_far (leb (get_or free n.column 0) n.row) e)) (last n + 1) refl;
      met = met so_far refl (leb (get_or free n.column 0) n.row) refl;
    }
  where
    met : (a : Bool) → so_far ≡ a → (b : Bool) → leb (get_or free n.column 0) n.row ≡ b → (a && b) ≡ false → some_meet ns ≡ true
    met false e b f q = o.met e
    met true e true f q = absurd (true≢false q)
    met true e false f q = apart-broken (o.apart e) order n x (leb-false (get_or free n.column 0) n.row f)

pub apart_or-end : {ns : List Note} {free : List ℕ} {i : ℕ} {so_far : Bool} → ApartOr ns free i so_far → length ns ≤ i → some_meet ns ≡ not so_far
apart_or-end {ns} {free} {i} {so_far} o h = go so_far refl
  where
    go : (a : Bool) → so_far ≡ a → some_meet ns ≡ not a
    go true e = apart-end (o.apart e) h
    go false e = o.met e
