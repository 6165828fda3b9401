-- The 23 places out of the counts of the columns.
use mathlib.Core.Path.{◌≡◌, refl, ap, ◌∙◌}
use mathlib.Core.Bool.{true}
use mathlib.Core.List.{List, [], ◌∷◌}
use Prim.Native.Nat.{ℕ, ◌+◌, ◌-◌, ◌/◌, ◌≤◌, ◌<◌}
use native.Mathlib.Omega.{arith}
use lib.ListN.{length, get_or}
use Rattle.definitions.specs.Lists.{sum_columns}
use Rattle.definitions.specs.Written.{notes_in}
use Rattle.definitions.specs.Presses.{presses_in, notes_rise, columns_fit, is_played, played, hits_in, misses_in, played_in, of_columns, places_of_presses}
use Rattle.definitions.specs.Presses as of
use Rattle.definitions.specs.PressClaims.{PressesCounted, NotesAreCounted, ColumnsAreCounted}
use Rattle.definitions.specs.declared.Note.{Note}
use Rattle.definitions.proofs.Presses.{presses-counted, notes-counted, columns-counted, columns-get, columns-whole, all-some, notes-below}
use Rattle.definitions.proofs.TraceCounted.{notes-fit, trace-length}
use Rattle.presses.proofs.Counts.{played-length}

cons : {A : Type 0} {a b : A} {l m : List A} → a ≡ b → l ≡ m → a ∷ l ≡ b ∷ m
cons p q = cc

module _ (s t hits notes : List ℕ) (r : notes_rise (notes_in s) ≡ true) (w : columns_fit (presses_in t) ≡ true) (eh : hits ≡ of_columns (hits_in (notes_in s) (presses_in t)) 0 10)
    (en : notes ≡ of_columns (played_in (notes_in s)) 0 10) where
  hit-at : (c : ℕ) → c < 10 → get_or hits c 0 ≡ hits_in (notes_in s) (presses_in t) c
  hit-at c h = let z : 0 + c ≡ c = omega arith in ap (λ l. get_or l c 0) eh ∙ columns-get (hits_in (notes_in s) (presses_in t)) 0 10 c h ∙ ap (hits_in (notes_in s) (presses_in t)) z

  note-at : (c : ℕ) → c < 10 → get_or notes c 0 ≡ played_in (notes_in s) c
  note-at c h = let z : 0 + c ≡ c = omega arith in ap (λ l. get_or l c 0) en ∙ columns-get (played_in (notes_in s)) 0 10 c h ∙ ap (played_in (notes_in s)) z

  both-at : (c : ℕ) → c < 10 → hits_in (notes_in s) (presses_in t) c + misses_in (notes_in s) (presses_in t) c ≡ played_in (notes_in s) c
  unfolding NotesAreCounted
  both-at c h = (notes-counted (notes_in s) (presses_in t) r).column c

  -- a column's hits are no more than its played notes, and the rest are its misses
  pub column-less : (c : ℕ) → c < 10 → get_or hits c 0 ≤ get_or notes c 0
  column-less c h = omega (arith, hit-at c h, note-at c h, both-at c h)

  less-at : (c : ℕ) → c < 10 → get_or notes c 0 - get_or hits c 0 ≡ misses_in (notes_in s) (presses_in t) c
  less-at c h = omega (arith, hit-at c h, note-at c h, both-at c h)

  sum-hits : sum_columns 10 (λ c. get_or hits c 0) ≡ length (of.hits (notes_in s) (presses_in t))
  unfolding ColumnsAreCounted
  sum-hits = ap (λ l. sum_columns 10 (λ c. get_or l c 0)) eh ∙ (columns-counted (notes_in s) (presses_in t) (notes-fit s) w).hit

  sum-notes : sum_columns 10 (λ c. get_or notes c 0) ≡ length (played (notes_in s))
  unfolding played_in
  sum-notes =
      ap (λ l. sum_columns 10 (λ c. get_or l c 0)) en
      ∙ columns-whole (λ (n : Note). n.column) 10 (all-some (λ (n : Note). is_played n.kind) (notes-below (notes_in s) (notes-fit s)))

  all-presses : length (of.hits (notes_in s) (presses_in t)) + length (of.strays (notes_in s) (presses_in t)) ≡ length t / 5
  unfolding PressesCounted
  all-presses = presses-counted (notes_in s) (presses_in t) ∙ trace-length t

  all-notes : length (of.hits (notes_in s) (presses_in t)) + length (of.misses (notes_in s) (presses_in t)) ≡ length (played (notes_in s))
  unfolding NotesAreCounted
  all-notes = (notes-counted (notes_in s) (presses_in t) r).all

  pub hits-within : sum_columns 10 (λ c. get_or hits c 0) ≤ length t / 5
  hits-within = omega (arith, sum-hits, all-presses)

  pub notes-within : sum_columns 10 (λ c. get_or notes c 0) ≤ length s
  notes-within = omega (arith, sum-notes, played-length s)

  pub hits-of-notes : sum_columns 10 (λ c. get_or hits c 0) ≤ sum_columns 10 (λ c. get_or notes c 0)
  hits-of-notes = omega (arith, sum-hits, sum-notes, all-notes)

  pub places-are : (hit total : ℕ) → hit ≡ sum_columns 10 (λ c. get_or hits c 0) → total ≡ sum_columns 10 (λ c. get_or notes c 0)
      → ◌≡◌ {A = List ℕ} (hit ∷ (length t / 5 - hit) ∷ (total - hit) ∷ get_or hits 0 0 ∷ get_or hits 1 0 ∷ get_or hits 2 0 ∷ get_or hits 3 0 ∷ get_or hits 4 0 ∷ get_or hits 5 0 ∷ get_or hits 6 0 ∷ get_or hits 7 0 ∷ get_or hits 8 0 ∷ get_or hits 9 0 ∷ (get_or notes 0 0 - get_or hits 0 0) ∷ (get_or notes 1 0 - get_or hits 1 0) ∷ (get_or notes 2 0 - get_or hits 2 0) ∷ (get_or notes 3 0 - get_or hits 3 0) ∷ (get_or notes 4 0 - get_or hits 4 0) ∷ (get_or notes 5 0 - get_or hits 5 0) ∷ (get_or notes 6 0 - get_or hits 6 0) ∷ (get_or notes 7 0 - get_or hits 7 0) ∷ (get_or notes 8 0 - get_or hits 8 0) ∷ (get_or notes 9 0 - get_or hits 9 0) ∷ []) (places_of_presses (notes_in s) (presses_in t))
  unfolding places_of_presses
  places-are hit total e f =
      cons (e ∙ sum-hits)
      (cons (omega (arith, e, sum-hits, all-presses))
      (cons (omega (arith, e, f, sum-hits, sum-notes, all-notes))
      (cons (hit-at 0 (omega arith))
      (cons (hit-at 1 (omega arith))
      (cons (hit-at 2 (omega arith))
      (cons (hit-at 3 (omega arith))
      (cons (hit-at 4 (omega arith))
      (cons (hit-at 5 (omega arith))
      (cons (hit-at 6 (omega arith))
      (cons (hit-at 7 (omega arith))
      (cons (hit-at 8 (omega arith))
      (cons (hit-at 9 (omega arith))
      (cons (less-at 0 (omega arith))
      (cons (less-at 1 (omega arith))
      (cons (less-at 2 (omega arith))
      (cons (less-at 3 (omega arith))
      (cons (less-at 4 (omega arith))
      (cons (less-at 5 (omega arith))
      (cons (less-at 6 (omega arith))
      (cons (less-at 7 (omega arith))
      (cons (less-at 8 (omega arith))
      (cons (less-at 9 (omega arith))
      refl))))))))))))))))))))))
