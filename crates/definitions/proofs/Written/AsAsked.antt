-- Two notes meet where a cell is wanted twice or falls inside; and what a text's row counts ask for is short.
use mathlib.Core.Path.{◌≡◌, refl, ap, ap₂, sym, ◌∙◌}
use mathlib.Core.Bool.{Bool, true, false, ◌&&◌, ◌||◌}
use mathlib.Core.List.{List, [], ◌∷◌, map}
use Prim.Native.Nat.{ℕ, suc, ◌+◌, ◌-◌, ◌*◌, ◌≤◌, ◌<◌}
use native.Mathlib.Omega.{arith}
use borrow.Author.Tests.{eqb-true, eq-eqb, ne_eqb, ltb-true, ltb-false, lt-ltb, leb-true, leb-false, le-leb, lt-leb}
use lib.Dec.{eqb, leb, ltb}
use lib.ListN.{length}
use Rattle.definitions.specs.Lists.{number_of_bool}
use Rattle.definitions.specs.Lines.{Row}
use Rattle.definitions.specs.Reduction.{minimised}
use Rattle.definitions.specs.Figures.{text_of, minimised_text}
use Rattle.definitions.specs.WriterMakes.{Made}
use Rattle.definitions.specs.Written.{ends_at, last_of, none_given, written_length, meet}
use Rattle.definitions.specs.WrittenBack.{row_counts, clashes, MeetsAsAsked, WrittenLengthShort}
use Rattle.definitions.specs.declared.Note.{Note}
use Rattle.definitions.specs.declared.Tail.{Tail}
use Rattle.definitions.specs.declared.Tail.TheVariants as tail
use Rattle.definitions.proofs.Lists.{All}
use Rattle.definitions.proofs.ChartRows.{minimised-rows, minimised-short}
use Rattle.definitions.proofs.Written.Same.{same-test}
use Rattle.definitions.proofs.Written.Notes.{last, reach-of}
use Rattle.definitions.proofs.Written.Passes.{notes-stand, sum-joined}
use Rattle.definitions.proofs.Written.Reads.{Wide, all-wide, text-length}

-- ---- What a note takes is what it reaches.
pub takes-is : (i r : ℕ) (t : Tail) → r ≤ last_of r t → ((eqb r i || ends_at i t) || (ltb r i && ltb i (last_of r t))) ≡ (leb r i && leb i (last_of r t))
takes-is i r t w = go (ltb r i) refl (ltb i r) refl
  where
    ends-last : (t : Tail) → i ≡ last_of r t → r < i → ends_at i t ≡ true
    ends-last tail.Without e h = absurd (omega arith)
    ends-last (tail.Row j) e h = eq-eqb j i (sym e)

    ends-not : (t : Tail) → (i ≡ last_of r t → ⊥) → ends_at i t ≡ false
    ends-not tail.Without e = refl
    ends-not (tail.Row j) e = go (eqb j i) refl
      where
        go : (b : Bool) → eqb j i ≡ b → b ≡ false
        go true p = absurd (e (sym (eqb-true j i p)))
        go false p = refl

    inner : r < i → (b : Bool) → ltb i (last_of r t) ≡ b → (c : Bool) → leb i (last_of r t) ≡ c → ((eqb r i || ends_at i t) || (ltb r i && ltb i (last_of r t))) ≡ (leb r i && leb i (last_of r t))
    inner h true p c q =
        let l = ltb-true i (last_of r t) p in
        rw (le-leb r i (omega arith), le-leb i (last_of r t) (omega arith), lt-ltb r i h, p) (or-true (eqb r i || ends_at i t))
      where
        or-true : (b : Bool) → (b || true) ≡ true
        or-true true = refl
        or-true false = refl
    inner h false p true q =
        let l = leb-true i (last_of r t) q in
        let g = ltb-false i (last_of r t) p in
        rw (le-leb r i (omega arith), q, ends-last t (omega arith) h) (or-first (eqb r i) (ltb r i && ltb i (last_of r t)))
      where
        or-first : (b c : Bool) → ((b || true) || c) ≡ true
        or-first true c = refl
        or-first false c = refl
    inner h false p false q =
        let g = leb-false i (last_of r t) q in
        rw (q, p, ends-not t (λ e. omega arith), ne_eqb r i (λ e. omega arith)) (ands (ltb r i) (leb r i))
      where
        ands : (b c : Bool) → (b && false) ≡ (c && false)
        ands true true = refl
        ands true false = refl
        ands false true = refl
        ands false false = refl

    go : (a : Bool) → ltb r i ≡ a → (b : Bool) → ltb i r ≡ b → ((eqb r i || ends_at i t) || (ltb r i && ltb i (last_of r t))) ≡ (leb r i && leb i (last_of r t))
    go true p b q = inner (ltb-true r i p) (ltb i (last_of r t)) refl (leb i (last_of r t)) refl
    go false p true q =
        let l = ltb-true i r q in
        rw (p, lt-leb r i l, ne_eqb r i (λ e. omega arith), ends-not t (λ e. omega arith)) refl
    go false p false q =
        let h = ltb-false r i p in
        let g = ltb-false i r q in
        rw (eq-eqb r i (omega arith), le-leb r i (omega arith), le-leb i (last_of r t) (omega arith)) refl

-- ---- Two reaches have a row in common if one begins or ends in the other.
overlap : (a b c d : ℕ) → a ≤ b → c ≤ d
    → (leb a d && leb c b) ≡ (((leb a c && leb c b) || (leb a d && leb d b)) || ((leb c a && leb a d) || (leb c b && leb b d)))
overlap a b c d p q = go (leb a d) refl (leb c b) refl (leb a c) refl (leb d b) refl (leb c a) refl (leb b d) refl
  where
    go : (s : Bool) → leb a d ≡ s → (t : Bool) → leb c b ≡ t → (u : Bool) → leb a c ≡ u → (v : Bool) → leb d b ≡ v → (w : Bool) → leb c a ≡ w → (x : Bool) → leb b d ≡ x
        → (s && t) ≡ (((u && t) || (s && v)) || ((w && s) || (t && x)))
    go true e true f true g v h w k x l = refl
    go true e true f false g v h true k x l = fin v
      where
        fin : (v : Bool) → true ≡ (v || true)
        fin true = refl
        fin false = refl
    go true e true f false g v h false k x l = absurd (omega (arith, leb-false a c g, leb-false c a k))
    go true e false f u g true h w k x l = absurd (omega (arith, leb-false c b f, leb-true d b h))
    go true e false f u g false h true k x l = absurd (omega (arith, leb-false c b f, leb-true a d e, leb-true c a k))
    go true e false f u g false h false k x l = ends u
      where
        ends : (u : Bool) → false ≡ (((u && false) || false) || false)
        ends true = refl
        ends false = refl
    go false e true f true g v h w k x l = absurd (omega (arith, leb-false a d e, leb-true a c g))
    go false e true f false g v h w k true l = absurd (omega (arith, leb-false a d e, leb-true b d l))
    go false e true f false g v h w k false l = ends w
      where
        ends : (w : Bool) → false ≡ ((w && false) || false)
        ends true = refl
        ends false = refl
    go false e false f u g v h w k x l = absurd (omega (arith, leb-false a d e, leb-false c b f))

meets-is : (x y : Note) → Made x → Made y → meet x y ≡ (eqb x.column y.column && (clashes x y || clashes y x))
meets-is x y m n =
    let p : x.row ≤ last x = reach-of x.row x.kind x.tail m.tail in
    let q : y.row ≤ last y = reach-of y.row y.kind y.tail n.tail in
    ap (λ b. eqb x.column y.column && b)
    (overlap x.row (last x) y.row (last y) p q
    ∙ sym (ap₂ (λ s t. s || t)
    (ap₂ (λ s t. s || t) (takes-is y.row x.row x.tail p) (takes-is (last y) x.row x.tail p))
    (ap₂ (λ s t. s || t) (takes-is x.row y.row y.tail q) (takes-is (last x) y.row y.tail q))))

pub meets-as-asked : MeetsAsAsked
unfolding MeetsAsAsked
meets-as-asked x y m n = same-test _ _ (omega (arith, ap number_of_bool (meets-is x y m n)))

-- ---- The length
text-size : (L : ℕ) (ms : List (List Row)) → All (Wide L) ms → none_given (map (λ (m : List Row). length m) ms) ≡ false
    → written_length L (map (λ (m : List Row). length m) ms) ≡ length (text_of ms)
unfolding written_length
text-size L [] w h = let z : ◌≡◌ {A = ℕ} 0 1 = cc in absurd (omega arith)
text-size L (m ∷ ms) w h =
    ap₂ (λ a b. (L + 1) * a + 2 * b) (sym (sum-joined (m ∷ ms))) (less ms) ∙ sym (text-length L m ms w)
  where
    less : (ms : List (List Row)) → suc (length (map (λ (m : List Row). length m) ms)) - 1 ≡ length ms
    less [] = refl
    less (m ∷ ms) = omega (arith, less ms)

pub written-length-short : WrittenLengthShort
unfolding WrittenLengthShort row_counts minimised_text
written-length-short L text some =
    omega (
      arith,
      text-size L (minimised L text) (all-wide (minimised-rows L text some)) (notes-stand L text some).counted,
      minimised-short L text,
    )
