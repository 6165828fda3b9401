-- From what the checks found to what the call answers.
use mathlib.Core.Path.{◌≡◌, refl, ap, sym, ◌∙◌}
use mathlib.Core.Bool.{Bool, true, false, true≢false}
use mathlib.Core.List.{List, [], ◌∷◌}
use Rattle.std.specs.Prelude.{Result, Ok}
use Prim.Native.Nat.{ℕ, ◌≤◌, ◌/◌}
use native.Mathlib.Omega.{arith}
use borrow.Author.Tests.{le-ltb}
use lib.ListN.{length}
use Rattle.definitions.specs.Refusals.{refused_if, other_lanes, long_text}
use Rattle.definitions.specs.Written.{written_length, sum_of, notes_in, uneven_records, broken_records, out_of_order, some_meet, other_counts}
use Rattle.definitions.specs.Entries.{figures_of_written, written_answer}
use Rattle.definitions.specs.declared.Note.{Note}
use Rattle.definitions.specs.declared.Refusal.{Refusal}
use Rattle.definitions.specs.declared.WrittenFigures.{WrittenFigures}

pub not-refused : (t : Bool) (r : Refusal) {u : Unit {0}} → refused_if t r ≡ Ok u → t ≡ false
not-refused true r e = let z : ◌≡◌ {A = ℕ} 0 1 = cc in absurd (omega arith)
not-refused false r e = refl

pub some-counts : (L : ℕ) (ns : List Note) (counts : List ℕ) → other_counts L ns counts ≡ false → 1 ≤ length counts
unfolding other_counts
some-counts L ns [] e = absurd (true≢false e)
some-counts L ns (n ∷ counts) e = omega arith

accepted-answer : (L : ℕ) (s counts out : List ℕ) → other_lanes L ≡ Ok tt → long_text (written_length L counts) ≡ Ok tt → uneven_records s ≡ false → broken_records s ≡ false
    → out_of_order L (notes_in s) ≡ false → some_meet (notes_in s) ≡ false → other_counts L (notes_in s) counts ≡ false → written_length L counts ≤ length out
    → written_answer L s counts out ≡ Ok (figures_of_written L s counts)
unfolding written_answer
accepted-answer L s counts out p q u b o m k f = rw (p, q, u, b, o, m, k, le-ltb (length out) (written_length L counts) f) refl

pub answer-is : (lanes L : ℕ) (s counts out : List ℕ) (bytes rows : ℕ) → L ≡ lanes → other_lanes lanes ≡ Ok tt → long_text (written_length L counts) ≡ Ok tt → uneven_records s ≡ false → broken_records s ≡ false
    → out_of_order L (notes_in s) ≡ false → some_meet (notes_in s) ≡ false → other_counts L (notes_in s) counts ≡ false → bytes ≤ length out
    → bytes ≡ written_length L counts → rows ≡ sum_of counts
    → ◌≡◌ {A = Result WrittenFigures Refusal} (Ok (record { bytes = bytes; measures = length counts; rows = rows; records = length s / 10 })) (written_answer lanes s counts out)
unfolding figures_of_written
answer-is lanes L s counts out bytes rows e p q u b o m k f x y =
    let z : bytes ≡ written_length lanes counts = x ∙ ap (λ n. written_length n counts) e in
    made z y
    ∙ sym
    (accepted-answer lanes s counts out p (ap (λ n. long_text (written_length n counts)) (sym e) ∙ q) u b
    (ap (λ n. out_of_order n (notes_in s)) (sym e) ∙ o) m (ap (λ n. other_counts n (notes_in s) counts) (sym e) ∙ k) (omega (arith, f, z)))
  where
    made : {a b c d : ℕ} → a ≡ b → c ≡ d
        → ◌≡◌ {A = Result WrittenFigures Refusal} (Ok (record { bytes = a; measures = length counts; rows = c; records = length s / 10 })) (Ok (record { bytes = b; measures = length counts; rows = d; records = length s / 10 }))
    made p q = cc
