-- The list of a measure's beats: its length and its elements; and the beats of one measure more.
use Rattle.std.proofs.Common.{◌≡◌, ℕ, zero, suc, ◌+◌, ◌<◌, ◌≤◌, List, [], ◌∷◌, ◌++◌, length, get_or, take, drop, set, sym, refl, ap, ◌∙◌, subst, le_of_eq, le_of_suc-le-suc, not-suc-le-zero, add-zero, add-suc, suc-add, zero-add, add-one, arith, length-append, length-take-le, take_all, take_at}
use lib.Seq.{paste, paste-suc}
use lib.Ieee.{Float, nan}
use Rattle.definitions.specs.Lists.{joined}
use Rattle.definitions.specs.Lines.{Row}
use Rattle.definitions.specs.Beats.{beat_of_row, row_beats, beats_from}
use Rattle.definitions.proofs.Lists.{joined_snoc}

pub length-beats : (m n r k : ℕ) → length (row_beats m n r k) ≡ k
length-beats m n r zero = refl
length-beats m n r (suc k) = ap suc (length-beats m n (suc r) k)

pub at-beats : (m n r k j : ℕ) → j < k → get_or (row_beats m n r k) j nan ≡ beat_of_row m (r + j) n
at-beats m n r zero j h = absurd (not-suc-le-zero h)
at-beats m n r (suc k) zero h = ap (λ (i : ℕ). beat_of_row m i n) (sym (add-zero r))
at-beats m n r (suc k) (suc j) h = at-beats m n (suc r) k j (le_of_suc-le-suc h) ∙ ap (λ (i : ℕ). beat_of_row m i n) (suc-add r j ∙ sym (add-suc r j))

pub beat-at : (m n j : ℕ) → j < n → beat_of_row m j n ≡ get_or (row_beats m n 0 n) j nan
beat-at m n j h = ap (λ (i : ℕ). beat_of_row m i n) (sym (zero-add j)) ∙ sym (at-beats m n 0 n j h)

-- a slice with the first r of n beats of a row pasted in at `at`
pub record Appended (before now : List Float) (at : ℕ) (row : List Float) (n r : ℕ) : Type 0 where
  pub within : r ≤ n
  pub same_length : length now ≡ length before
  pub written : now ≡ paste before at row r

-- The slice l₀ with the first r beats of a measure pasted in at `at`: one beat more, and all of them.
pub beats-next : (l₀ l : List Float) (at m n r : ℕ) (b : Float) → l ≡ paste l₀ at (row_beats m n 0 n) r → at + n ≤ length l₀ → r < n → b ≡ beat_of_row m r n
    → set l (at + r) b ≡ paste l₀ at (row_beats m n 0 n) (r + 1)
beats-next l₀ l at m n r b e room h q =
    ap (λ (x : List Float). set x (at + r) b) e
    ∙ ap (λ (v : Float). set (paste l₀ at (row_beats m n 0 n) r) (at + r) v) (q ∙ beat-at m n r h)
    ∙ paste-suc l₀ at (row_beats m n 0 n) r nan (omega arith) (subst (λ (z : ℕ). r < z) (sym (length-beats m n 0 n)) h)
    ∙ ap (λ (k : ℕ). paste l₀ at (row_beats m n 0 n) k) (sym (add-one r))

pub beats-all : (l : List Float) (at m n : ℕ) → paste l at (row_beats m n 0 n) n ≡ (take at l ++ row_beats m n 0 n) ++ drop (at + n) l
beats-all l at m n = ap (λ (x : List Float). (take at l ++ x) ++ drop (at + n) l) (take_all n (row_beats m n 0 n) (le_of_eq (length-beats m n 0 n)))

beats-measure : (k : ℕ) (done : List (List Row)) (m : List Row)
    → beats_from k (done ++ (m ∷ [])) ≡ beats_from k done ++ (row_beats (k + length done) (length m) 0 (length m) ∷ [])
beats-measure k [] m = ap (λ n. row_beats n (length m) 0 (length m) ∷ []) (sym (add-zero k))
beats-measure k (x ∷ done) m =
    ap (λ l. row_beats k (length x) 0 (length x) ∷ l)
    (beats-measure (suc k) done m ∙ ap (λ n. beats_from (suc k) done ++ (row_beats n (length m) 0 (length m) ∷ [])) (suc-add k (length done) ∙ sym (add-suc k (length done))))

-- What `append_row_beats` leaves: the beats of the measures before, and those of one more.
pub beats-appended : (l : List Float) (at midx n : ℕ) (done : List (List Row)) (m : List Row) → at ≤ length l → take at l ≡ joined (beats_from 0 done) → midx ≡ length done → n ≡ length m
    → take (at + n) ((take at l ++ row_beats midx n 0 n) ++ drop (at + n) l) ≡ joined (beats_from 0 (done ++ (m ∷ [])))
beats-appended l at midx n done m room before em en =
    take_at (take at l ++ row_beats midx n 0 n) (drop (at + n) l) (at + n) size
    ∙ ap (λ b. b ++ row_beats midx n 0 n) before
    ∙ ap (λ k. joined (beats_from 0 done) ++ row_beats k n 0 n) (em ∙ sym (zero-add (length done)))
    ∙ ap (λ n. joined (beats_from 0 done) ++ row_beats (0 + length done) n 0 n) en
    ∙ sym (ap joined (beats-measure 0 done m) ∙ joined_snoc (beats_from 0 done) (row_beats (0 + length done) (length m) 0 (length m)))
  where
    size : length (take at l ++ row_beats midx n 0 n) ≡ at + n
    size = rw (length-append, length-take-le at l room, length-beats midx n 0 n)
