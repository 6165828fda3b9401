-- What follows from the theorems on pad traces alone. Presses are told by numbers, so that a field that says less gives too little.
use mathlib.Core.Path.{◌≡◌, refl, ap, ap₂, ◌∙◌}
use mathlib.Core.Bool.{Bool, true, false, ◌&&◌, not}
use mathlib.Core.List.{List, [], ◌∷◌, map}
use Prim.Native.Nat.{ℕ, zero, suc, ◌+◌, ◌<◌}
use native.Mathlib.Decide.{dec_lt}
use native.Mathlib.Omega.{arith}
use lib.ListN.{get_or}
use Rattle.definitions.specs.Lists.{before, sum_columns}
use Rattle.definitions.specs.Written.{notes_in}
use Rattle.definitions.specs.Presses.{presses_in, notes_rise, presses_rise, is_played, played, hits_in, misses_in, played_in}
use Rattle.definitions.specs.PressClaims.{PressesCounted, NotesAreCounted, ColumnsAreCounted, press_on, CleanTrace, TraceIsCounted}
use Rattle.definitions.specs.PressConsequences.{HitsArePresses, ShortTraceMisses, UnplayedColumns, OnePressEach, OneTracePasses, TenColumns, WhatPasses, OneEachPasses, PressExamplesCounted}
use Rattle.definitions.specs.PressExamples as presses
use Rattle.definitions.specs.declared.Note.{Note}
use Rattle.definitions.proofs.Bools.{and_left, and_right}
use Rattle.definitions.proofs.Presses.{Before, before-is, before-trans, same-presses}
use Rattle.definitions.proofs.CleanTrace.{some-rise}

-- ---- Of any notes and presses
pub hits-are_presses : PressesCounted → HitsArePresses
unfolding PressesCounted HitsArePresses
hits-are_presses counted ns ps = (omega (arith, counted ns ps), λ none. omega (arith, counted ns ps, none))

-- ---- Of notes each of which stands before the next
pub short-trace_misses : PressesCounted → NotesAreCounted → ShortTraceMisses
unfolding PressesCounted NotesAreCounted ShortTraceMisses
short-trace_misses presses notes ns ps r = omega (arith, presses ns ps, (notes ns ps r).all)

pub unplayed-columns : NotesAreCounted → UnplayedColumns
unfolding NotesAreCounted UnplayedColumns
unplayed-columns counted ns ps c r =
    let x = (counted ns ps r).column c in
    (omega (arith, x), λ none. (omega (arith, x, none), omega (arith, x, none)))

-- where a place stands before another, that does not stand before it
not-back : (i c j d : ℕ) → before i c j d ≡ true → not (before j d i c) ≡ true
not-back i c j d h = go (before j d i c) refl
  where
    go : (t : Bool) → before j d i c ≡ t → not t ≡ true
    go true e =
        let b : Before i c i c = before-is i c i c (before-trans i c j d i c h e) in
        absurd (omega (arith, b.column refl))
    go false e = refl

presses-climb : (ns : List Note) → notes_rise ns ≡ true → presses_rise (map press_on ns) ≡ true
presses-climb [] h = refl
presses-climb (n ∷ []) h = refl
presses-climb (n ∷ m ∷ ns) h =
    let first = before n.row n.column m.row m.column in
    ap₂ (λ a b. a && b) (not-back n.row n.column m.row m.column (and_left first (notes_rise (m ∷ ns)) h))
    (presses-climb (m ∷ ns) (and_right first (notes_rise (m ∷ ns)) h))

pub one-press_each : CleanTrace → OnePressEach
unfolding CleanTrace OnePressEach
one-press_each clean ns r =
    let ps = map press_on (played ns) in
    let x = (clean ns ps r (presses-climb (played ns) (some-rise (λ (n : Note). is_played n.kind) ns r))).only refl in
    (omega (arith, x.0), omega (arith, x.1))

pub one-trace_passes : CleanTrace → OneTracePasses
unfolding CleanTrace OneTracePasses
one-trace_passes clean ns ps qs r u v a b =
    let x = (clean ns ps r u).clean a.0 a.1 in
    let y = (clean ns qs r v).clean b.0 b.1 in
    same-presses ps qs (λ f. omega (arith, ap f x, ap f y))

-- ---- Where no column is over 9
sum-none : (n : ℕ) (f : ℕ → ℕ) → ((c : ℕ) → c < n → f c ≡ 0) → sum_columns n f ≡ 0
sum-none zero f h = refl
sum-none (suc n) f h = omega (arith, sum-none n f (λ c k. h c (omega arith)), h n (omega arith))

pub ten-columns : ColumnsAreCounted → TenColumns
unfolding ColumnsAreCounted TenColumns
ten-columns counted ns ps w fit =
    let x = counted ns ps w fit in (
      λ none. omega (arith, x.hit, sum-none 10 (hits_in ns ps) none),
      λ none. omega (arith, x.missed, sum-none 10 (misses_in ns ps) none),
    )

-- ---- Of what is accepted
none-of : (n : ℕ) (f : ℕ → ℕ) → sum_columns n f ≡ 0 → (c : ℕ) → c < n → f c ≡ 0
none-of zero f e c h = absurd (omega arith)
none-of (suc n) f e c h =
    elim (dec_lt c n) [
      | yes b ↦ none-of n f (omega (arith, e)) c b
      | no b ↦ let z : c ≡ n = omega arith in ap f z ∙ omega (arith, e)
    ]

sum-same : (n : ℕ) (f g : ℕ → ℕ) → ((c : ℕ) → c < n → f c ≡ g c) → sum_columns n f ≡ sum_columns n g
sum-same zero f g h = refl
sum-same (suc n) f g h = omega (arith, sum-same n f g (λ c k. h c (omega arith)), h n (omega arith))

pub what-passes : TraceIsCounted → WhatPasses
unfolding TraceIsCounted WhatPasses
what-passes counted s t places e strays misses =
    let x = counted s t places e in
    let missed : (c : ℕ) → c < 10 → get_or places (13 + c) 0 ≡ 0 = none-of 10 (λ c. get_or places (13 + c) 0) (omega (arith, x.columns.1, misses)) in
    let hit : (c : ℕ) → c < 10 → get_or places (3 + c) 0 ≡ played_in (notes_in s) c = λ c h. omega (arith, x.notes.1 c h, missed c h) in (
      omega (arith, x.presses, strays),
      omega (arith, x.presses, x.notes.0, strays, misses),
      omega (arith, x.presses, x.columns.0, strays, sum-same 10 (λ c. get_or places (3 + c) 0) (played_in (notes_in s)) hit),
      λ c h. (hit c h, missed c h),
      same-presses (presses_in t) (map press_on (played (notes_in s))) (λ f. omega (arith, ap f (x.clean.0 strays misses))),
    )

pub one-each_passes : TraceIsCounted → OneEachPasses
unfolding TraceIsCounted OneEachPasses
one-each_passes counted s t places e each =
    let x = (counted s t places e).clean.1 each in
    (omega (arith, x.0), omega (arith, x.1))

-- ---- Of the examples
pub press-examples_counted : PressExamplesCounted
unfolding PressExamplesCounted presses.table
press-examples_counted = refl
