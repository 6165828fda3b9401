-- Laws of the words of specs/Lists.antt.
use mathlib.Core.Path.{◌≡◌, refl, ap, sym, ◌∙◌}
use mathlib.Core.Bool.{Bool, true, false, cond}
use mathlib.Core.List.{List, [], ◌∷◌, ◌++◌, append_assoc, append-nil}
use Prim.Native.Nat.{ℕ, zero, suc, ◌+◌, ◌≤◌, ◌<◌}
use native.Mathlib.Omega.{arith}
use borrow.Author.Tests.{eqb-false}
use lib.Dec.{eqb}
use lib.ListN.{length, take, drop, get_or, length-append, length-take, take-append-drop}
use lib.Seq.{drop-drop, drop-append_seam, drop-append-le}
use lib.Pointwise.{pointwise_long}
use Rattle.std.specs.Prelude.{nat_eq}
use Rattle.std.specs.List.{All as AllAt, filter, count_by, starts_with}
use Rattle.std.proofs.lemmas.List.Elements.{filter-append}
use Rattle.std.proofs.lemmas.List.Sums.{sum_by-cons, sum_by_push, sum_by-append}
use Rattle.definitions.specs.Lists.{number_of_bool, joined, up_to, through, after, after_each}

number-cond : (b : Bool) → cond b 1 0 ≡ number_of_bool b
number-cond true = refl
number-cond false = refl

module _ {A : Type 0} where
  -- P holds of each
  pub data All (P : A → Type 0) : List A → Type 0 where
    none : All P []
    one : {a : A} {l : List A} → P a → All P l → All P (a ∷ l)

  pub all_append : {P : A → Type 0} {s t : List A} → All P s → All P t → All P (s ++ t)
  all_append none q = q
  all_append (one h p) q = one h (all_append p q)

  pub all_map : {P Q : A → Type 0} {l : List A} → ((a : A) → P a → Q a) → All P l → All Q l
  all_map f none = none
  all_map f (one {a = a} h p) = one (f a h) (all_map f p)

  -- and in std's words, by index
  pub all-by_index : (P : A → Type 0) {l : List A} → All P l → AllAt P l
  all-by_index P none k d h = absurd (omega arith)
  all-by_index P (one p a) zero d h = p
  all-by_index P (one p a) (suc k) d h = all-by_index P a k d (omega arith)

  pub all-from_index : (P : A → Type 0) (l : List A) → AllAt P l → All P l
  all-from_index P [] f = none
  all-from_index P (x ∷ l) f = one (f zero x (omega arith)) (all-from_index P l (λ k d h. f (suc k) d (omega arith)))

  pub filter-all : (p : A → Bool) {l : List A} → All (λ a. p a ≡ true) l → filter p l ≡ l
  filter-all p none = refl
  filter-all p (one {a = a} h q) = rw (h, filter-all p q)

  pub filter-none : (p : A → Bool) {l : List A} → All (λ a. p a ≡ false) l → filter p l ≡ []
  filter-none p none = refl
  filter-none p (one {a = a} h q) = rw (h, filter-none p q)

  pub filter-left : (p : A → Bool) (s : List A) {t : List A} → All (λ a. p a ≡ false) t → filter p (s ++ t) ≡ filter p s
  filter-left p s {t} h = rw (filter-append p s t, filter-none p h, append-nil)

  pub filter-right : (p : A → Bool) {s : List A} (t : List A) → All (λ a. p a ≡ false) s → filter p (s ++ t) ≡ filter p t
  filter-right p {s} t h = rw (filter-append p s t, filter-none p h)

  -- one more that may pass a test
  pub count-cons : (p : A → Bool) (a : A) (l : List A) → count_by p (a ∷ l) ≡ number_of_bool (p a) + count_by p l
  count-cons p a l = sum_by-cons (λ x. cond (p x) 1 0) a l ∙ ap (λ n. n + count_by p l) (number-cond (p a))

  pub count-snoc : (p : A → Bool) (l : List A) (a : A) → count_by p (l ++ (a ∷ [])) ≡ count_by p l + number_of_bool (p a)
  count-snoc p l a = sum_by_push (λ x. cond (p x) 1 0) l a ∙ ap (λ n. count_by p l + n) (number-cond (p a))

  pub count-append : (p : A → Bool) (s t : List A) → count_by p (s ++ t) ≡ count_by p s + count_by p t
  count-append p s t = sum_by-append (λ x. cond (p x) 1 0) s t

  -- lists run together, one list more
  pub joined_snoc : (ls : List (List A)) (l : List A) → joined (ls ++ (l ∷ [])) ≡ joined ls ++ l
  joined_snoc [] l = append-nil l
  joined_snoc (x ∷ ls) l = rw append_assoc (ap (λ r. x ++ r) (joined_snoc ls l))

  -- a list of lists parts at each place d
  pub parts : (d : ℕ) (ls : List (List A)) → joined ls ≡ joined (take d ls) ++ (get_or ls d [] ++ joined (drop (suc d) ls))
  parts zero [] = refl
  parts (suc d) [] = refl
  parts zero (l ∷ ls) = refl
  parts (suc d) (l ∷ ls) = rw append_assoc (ap (λ r. l ++ r) (parts d ls))

  pub parts-suc : (d : ℕ) (ls : List (List A)) → joined (take (suc d) ls) ≡ joined (take d ls) ++ get_or ls d []
  parts-suc zero [] = refl
  parts-suc (suc d) [] = refl
  parts-suc zero (l ∷ ls) = append-nil l
  parts-suc (suc d) (l ∷ ls) = rw append_assoc (ap (λ r. l ++ r) (parts-suc d ls))

-- a test counts for at most one
pub one-le : (b : Bool) → number_of_bool b ≤ 1
one-le true = omega arith
one-le false = omega arith

-- inside a list its default does not count
pub any-default : (l : List ℕ) (i d e : ℕ) → i < length l → get_or l i d ≡ get_or l i e
any-default [] i d e h = absurd (omega arith)
any-default (x ∷ l) zero d e h = refl
any-default (x ∷ l) (suc i) d e h = any-default l i d e (omega arith)

-- what holds of each element of some lists holds of each of their elements in one
pub all-joined : {A : Type 0} {P : A → Type 0} {ls : List (List A)} → All (All P) ls → All P (joined ls)
all-joined none = none
all-joined (one p a) = all_append p (all-joined a)

-- what stands before the first b is the front of a list
pub up_to-front : (b : ℕ) (s : List ℕ) → up_to b s ≡ take (length (up_to b s)) s
unfolding up_to
up_to-front b [] = refl
up_to-front b (x ∷ s) = go (eqb x b) (up_to-front b s)
  where
    go : (t : Bool) → up_to b s ≡ take (length (up_to b s)) s → cond t [] (x ∷ up_to b s) ≡ take (length (cond t [] (x ∷ up_to b s))) (x ∷ s)
    go true e = refl
    go false e = ap {B = List ℕ} (λ l. x ∷ l) e

-- and no longer than it
pub up_to-short : (b : ℕ) (s : List ℕ) → length (up_to b s) ≤ length s
unfolding up_to
up_to-short b [] = omega arith
up_to-short b (x ∷ s) = go (eqb x b) (up_to-short b s)
  where
    go : (t : Bool) → length (up_to b s) ≤ length s → length (cond t [] (x ∷ up_to b s)) ≤ length (x ∷ s)
    go true h = omega arith
    go false h = omega arith

-- a byte in front of a list through the first b, and in front of what follows it
pub through-cons : (b x : ℕ) (s : List ℕ) → through b (x ∷ s) ≡ x ∷ cond (eqb x b) [] (through b s)
unfolding through up_to
through-cons b x s = go (eqb x b)
  where
    go : (t : Bool) → take (suc (length (cond t [] (x ∷ up_to b s)))) (x ∷ s) ≡ x ∷ cond t [] (take (suc (length (up_to b s))) s)
    go true = refl
    go false = refl

pub after-cons : (b x : ℕ) (s : List ℕ) → after b (x ∷ s) ≡ cond (eqb x b) s (after b s)
unfolding after up_to
after-cons b x s = go (eqb x b)
  where
    go : (t : Bool) → drop (suc (length (cond t [] (x ∷ up_to b s)))) (x ∷ s) ≡ cond t s (drop (suc (length (up_to b s))) s)
    go true = refl
    go false = refl

-- a list through the first b, and what follows it, are the list
pub through-after : (b : ℕ) (s : List ℕ) → through b s ++ after b s ≡ s
unfolding through after
through-after b s = take-append-drop (suc (length (up_to b s))) s

pub through-nil : (b : ℕ) → through b [] ≡ []
unfolding through up_to
through-nil b = refl

-- it is no longer than the list
pub through-short : (b : ℕ) (s : List ℕ) → length (through b s) ≤ length s
through-short b s = omega (arith, simp length-append at (ap length (through-after b s)))

-- in a list through the first b, b is at most the last
pub through-last : (b : ℕ) (s : List ℕ) (i : ℕ) → i + 1 < length (through b s) → get_or (through b s) i 0 ≡ b → ⊥
through-last b [] i h e = omega (arith, through-short b [])
through-last b (x ∷ s) i h e = go i (eqb x b) refl (through-last b s) (rw through-cons at h) (rw through-cons at e)
  where
    go : (i : ℕ) (t : Bool) → eqb x b ≡ t → ((i : ℕ) → i + 1 < length (through b s) → get_or (through b s) i 0 ≡ b → ⊥)
        → i + 1 < length (x ∷ cond t [] (through b s)) → get_or (x ∷ cond t [] (through b s)) i 0 ≡ b → ⊥
    go i true q ih h e = omega arith
    go zero false q ih h e = eqb-false x b q e
    go (suc i) false q ih h e = ih i (omega arith) e

-- t is the end of s, from a place on
pub record IsEnd (t s : List ℕ) : Type 0 where
  pub from : ℕ
  pub size : from + length t ≡ length s
  pub part : t ≡ drop from s

pub drop-end : (n : ℕ) (s : List ℕ) → IsEnd (drop n s) s
drop-end zero s = record { from = 0; size = omega arith; part = refl }
drop-end (suc n) [] = record { from = 0; size = refl; part = refl }
drop-end (suc n) (x ∷ s) = let d = drop-end n s in record { from = suc d.from; size = omega arith; part = d.part }

pub end-end : {t s r : List ℕ} → IsEnd t s → IsEnd s r → IsEnd t r
end-end {t} {s} {r} x y =
    record {
      from = y.from + x.from;
      size = omega arith;
      part = x.part ∙ ap (drop x.from) y.part ∙ drop-drop x.from y.from r;
    }

pub end-append : {t s : List ℕ} (x : IsEnd t s) (r : List ℕ) → t ++ r ≡ drop x.from (s ++ r)
end-append {t} {s} x r = ap (λ l. l ++ r) x.part ∙ sym (drop-append-le x.from s r (omega arith))

-- what follows the first n b is the end of a list
pub after_each-end : (b n : ℕ) (s : List ℕ) → IsEnd (after_each b n s) s
unfolding after
after_each-end b zero s = drop-end 0 s
after_each-end b (suc n) s = end-end (after_each-end b n (after b s)) (drop-end (suc (length (up_to b s))) s)

-- a list is what stands before a part that begins at a, the part, and what follows it
pub around-part : (s t r : List ℕ) (a : ℕ) → t ++ r ≡ drop a s → s ≡ take a s ++ (t ++ drop (a + length t) s)
around-part s t r a e =
    let rest : drop (a + length t) s ≡ r = sym (drop-drop (length t) a s) ∙ ap (drop (length t)) (sym e) ∙ drop-append_seam t r in
    rw (rest, e) (sym (take-append-drop a s))

-- a list that begins with a word is no shorter
pub starts_with-length : (word s : List ℕ) → starts_with nat_eq s word ≡ true → length word ≤ length s
starts_with-length word s e = omega (arith, pointwise_long nat_eq word (take (length word) s) e, length-take (length word) s)
