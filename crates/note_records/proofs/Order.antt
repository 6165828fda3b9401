-- 13, from the first note on: by the lowest place that is still allowed.
use mathlib.Core.Path.{◌≡◌, refl, ap, ap₂, sym, ◌∙◌}
use mathlib.Core.Bool.{Bool, true, false, ◌&&◌, ◌||◌, not}
use mathlib.Core.List.{List, [], ◌∷◌}
use Prim.Native.Nat.{ℕ, zero, suc, ◌+◌, ◌≤◌}
use native.Mathlib.Omega.{arith}
use borrow.Author.Tests.{ltb-true, ltb-false, le-leb, lt-leb, lt-ltb}
use lib.Dec.{eqb, leb, ltb}
use lib.ListN.{length, drop, drop_of_length-le}
use Rattle.definitions.specs.Lists.{before}
use Rattle.definitions.specs.Written.{within_lanes, out_of_order}
use Rattle.definitions.specs.declared.Note.{Note}
use Rattle.definitions.proofs.Written.Notes.{in_order}
use Rattle.definitions.proofs.Written.Records.{next-drop}
use Rattle.definitions.proofs.WriterMakes.{no_note}
use Rattle.note_records.specs.Limits.{from_place}
use Rattle.note_records.proofs.Kept.{NoteAt}

-- from that place on
abbrev pub ordered_from : ℕ → ℕ → ℕ → List Note → Bool
ordered_from L i c [] = true
ordered_from L i c (n ∷ ns) = (from_place i c n && ltb n.column L) && ordered_from L n.row (n.column + 1) ns

next-column : (a b : ℕ) → leb (a + 1) b ≡ ltb a b
next-column a b = go (ltb a b) refl
  where
    go : (t : Bool) → ltb a b ≡ t → leb (a + 1) b ≡ t
    go true e = let h = ltb-true a b e in le-leb (a + 1) b (omega arith)
    go false e = let h = ltb-false a b e in lt-leb (a + 1) b (omega arith)

regroup : (b o l w : Bool) → ((b && o) && (l && w)) ≡ ((b && l) && (o && w))
regroup true true l w = refl
regroup true false true w = refl
regroup true false false w = refl
regroup false o l w = refl

order-after : (L : ℕ) (x : Note) (ns : List Note) → (in_order (x ∷ ns) && within_lanes L ns) ≡ ordered_from L x.row (x.column + 1) ns
order-after L x [] = refl
order-after L x (y ∷ ns) =
    regroup (before x.row x.column y.row y.column) (in_order (y ∷ ns)) (ltb y.column L) (within_lanes L ns)
    ∙ ap₂ (λ a b. (a && ltb y.column L) && b)
    (ap (λ t. ltb x.row y.row || (eqb x.row y.row && t)) (sym (next-column x.column y.column)))
    (order-after L y ns)

order-first : (L : ℕ) (ns : List Note) → (in_order ns && within_lanes L ns) ≡ ordered_from L 0 0 ns
order-first L [] = refl
order-first L (x ∷ ns) =
    turn (in_order (x ∷ ns)) (ltb x.column L) (within_lanes L ns)
    ∙ ap₂ (λ a b. (a && ltb x.column L) && b) (sym (first x.row)) (order-after L x ns)
  where
    turn : (o l w : Bool) → (o && (l && w)) ≡ ((true && l) && (o && w))
    turn true true w = refl
    turn true false w = refl
    turn false true w = refl
    turn false false w = refl

    first : (i : ℕ) → (ltb 0 i || (eqb 0 i && leb 0 x.column)) ≡ true
    first zero = le-leb 0 x.column (omega arith)
    first (suc i) = ap (λ t. t || (eqb 0 (suc i) && leb 0 x.column)) (lt-ltb 0 (suc i) (omega arith))

-- ---- The loop
pub record OrderFrom (L : ℕ) (ns : List Note) (i row column : ℕ) (so_far : Bool) : Type 0 where
  pub within : i ≤ length ns
  pub same : out_of_order L ns ≡ not (so_far && ordered_from L row column (drop i ns))

pub order-start : (L : ℕ) (ns : List Note) → OrderFrom L ns 0 0 0 true
unfolding out_of_order
order-start L ns = record { within = omega arith; same = ap not (order-first L ns) }

and-assoc : (a b c : Bool) → (a && (b && c)) ≡ ((a && b) && c)
and-assoc true b c = refl
and-assoc false b c = refl

-- c is the first column that the next note of its row may have
pub order-next : {L : ℕ} {ns : List Note} {i row column : ℕ} {so_far : Bool} → OrderFrom L ns i row column so_far → (n : Note) → NoteAt ns i n → (c : ℕ) → c ≡ n.column + 1
    → OrderFrom L ns (i + 1) n.row c (so_far && (from_place row column n && ltb n.column L))
order-next {L} {ns} {i} {row} {column} {so_far} o n x c e =
    let here : Bool = from_place row column n && ltb n.column L in
    let next : i + 1 ≡ suc i = omega arith in
    record {
      within = omega (arith, x.within);
      same =
          o.same
          ∙ ap (λ l. not (so_far && ordered_from L row column l)) (sym (next-drop ns i no_note x.within) ∙ ap (λ y. y ∷ drop (suc i) ns) (sym x.same) ∙ ap (λ k. n ∷ drop k ns) (sym next))
          ∙ ap not (and-assoc so_far here (ordered_from L n.row (n.column + 1) (drop (i + 1) ns)))
          ∙ ap (λ k. not ((so_far && here) && ordered_from L n.row k (drop (i + 1) ns))) (sym e);
    }

pub order-end : {L : ℕ} {ns : List Note} {i row column : ℕ} {so_far : Bool} → OrderFrom L ns i row column so_far → length ns ≤ i → out_of_order L ns ≡ not so_far
order-end {L} {ns} {i} {row} {column} {so_far} o h = o.same ∙ ap (λ l. not (so_far && ordered_from L row column l)) (drop_of_length-le ns h) ∙ all so_far
  where
    all : (a : Bool) → not (a && true) ≡ not a
    all true = refl
    all false = refl
