-- In a clean column every head is paired, and the holds open before a row are as many as the heads that are open there.
use mathlib.Core.Path.{◌≡◌, refl, ap, sym, ◌∙◌}
use mathlib.Core.Bool.{true, false, ◌&&◌, ◌||◌, and-true, and-false, or-true}
use mathlib.Core.List.{List, [], ◌∷◌, ◌++◌, append_assoc}
use Prim.Native.Nat.{ℕ, suc, ◌+◌, ◌≤◌, ◌<◌}
use native.Mathlib.Nat.{zero-add}
use native.Mathlib.Omega.{arith}
use borrow.Author.Tests.{ltb-false, leb-false, lt-ltb, le-ltb, le-leb, lt-leb, eq-eqb}
use lib.Dec.{ltb, leb}
use lib.ListN.{length}
use Rattle.std.specs.List.{count_by}
use Rattle.std.proofs.lemmas.Bool.{or_parts}
use Rattle.std.proofs.lemmas.List.{nil_from_length}
use Rattle.definitions.specs.Lists.{sum_columns}
use Rattle.definitions.specs.Lines.{Row}
use Rattle.definitions.specs.Cells.{byte_at}
use Rattle.definitions.specs.Tracker.{Pair, next_stack, paired, hold_at, pairs_from, pairs, is_head_of}
use Rattle.definitions.specs.Correction.{phantom_step, phantom_after, keep_row}
use Rattle.definitions.specs.Judged.{open_of, open_before}
use Rattle.definitions.specs.declared.DepthEffect.{DepthEffect}
use Rattle.definitions.specs.declared.DepthEffect.TheVariants.{Nothing, Blocks, Opens, Closes}
use Rattle.definitions.proofs.Lists.{All, none, one, all_map, count-cons, count-append}
use Rattle.holds.specs.Tracks.{stack_from, stack_after}
use Rattle.holds.proofs.Pairs.{heads-append, count_none, Placed, placed, stacked, pairs-narrow}
use Rattle.holds.proofs.Ends.{sum_same, sum-beyond}
use Rattle.row_tally.proofs.Kept.{keep-whole}
use Rattle.judged.specs.Clean.{unpairs, unpairs_from, every}

-- Column c of these rows is clean from the depth d on: no cell leaves a head unpaired, and no head is left open.
pub record Clean (c d : ℕ) (rows : List Row) : Type 0 where
  pub whole : unpairs_from c d rows ≡ false
  pub closed : phantom_after c d rows ≡ 0

-- every column is clean
abbrev pub AllClean : List Row → Type 0
AllClean rows = (c : ℕ) → c < 10 → Clean c 0 rows

-- a cell of a clean column, and the rows after it
module _ (c d : ℕ) (r : Row) (rs : List Row) (k : Clean c d (r ∷ rs)) where
  clean-cell : unpairs (hold_at (byte_at c r)) d ≡ false
  clean-cell = (or_parts (unpairs (hold_at (byte_at c r)) d) (unpairs_from c (phantom_step (hold_at (byte_at c r)) d) rs) k.whole).0

  clean-rest : Clean c (phantom_step (hold_at (byte_at c r)) d) rs
  clean-rest =
      record {
        whole = (or_parts (unpairs (hold_at (byte_at c r)) d) (unpairs_from c (phantom_step (hold_at (byte_at c r)) d) rs) k.whole).1;
        closed = k.closed;
      }

-- what such a cell does to the stack
blocks-none : (st : List ℕ) → ltb 0 (length st) ≡ false → st ≡ []
blocks-none st h = nil_from_length st (let l = ltb-false 0 (length st) h in omega arith)

opens-pushed : (i : ℕ) (st : List ℕ) → leb 8 (length st) ≡ false → next_stack Opens i st ≡ i ∷ st
opens-pushed i st h = rw (lt-ltb (length st) 8 (leb-false 8 (length st) h))

depth-next : (e : DepthEffect) (i : ℕ) (st : List ℕ) → unpairs e (length st) ≡ false → length (next_stack e i st) ≡ phantom_step e (length st)
depth-next Nothing i st h = refl
depth-next Blocks i st h = let l = ltb-false 0 (length st) h in omega arith
depth-next Opens i st h = ap length (opens-pushed i st h)
depth-next Closes i [] h = refl
depth-next Closes i (x ∷ st) h = omega arith

-- the rows after one, with the stack after it
module _ (c i : ℕ) (st : List ℕ) (r : Row) (rs : List Row) (k : Clean c (length st) (r ∷ rs)) where
  clean-next : Clean c (length (next_stack (hold_at (byte_at c r)) i st)) rs
  clean-next = rw (depth-next (hold_at (byte_at c r)) i st (clean-cell c (length st) r rs k)) (clean-rest c (length st) r rs k)

-- ---- Every head is paired
abbrev Headed : List Pair → ℕ → Type 0
Headed ps h = is_head_of h ps ≡ true

headed-more : (h : ℕ) (ps qs : List Pair) → Headed qs h → Headed (ps ++ qs) h
headed-more h ps qs e = heads-append h ps qs ∙ ap (λ b. is_head_of h ps || b) e ∙ or-true (is_head_of h ps)

-- the open heads before a row, if those after it are heads of pairs
headed-before : (e : DepthEffect) (i : ℕ) (st : List ℕ) (ps : List Pair) → unpairs e (length st) ≡ false → All (Headed ps) (next_stack e i st)
    → All (Headed (paired e i st ++ ps)) st
headed-before Nothing i st ps h a = a
headed-before Blocks i st ps h a = rw (blocks-none st h) none
headed-before Opens i st ps h a = go (rw (opens-pushed i st h) at a)
  where
    go : All (Headed ps) (i ∷ st) → All (Headed ps) st
    go (one x b) = b
headed-before Closes i [] ps h a = none
headed-before Closes i (x ∷ st) ps h a =
    one {a = x} (rw (eq-eqb x x refl)) (all_map (λ y (q : Headed ps y). headed-more y (record { head = x; tail = i } ∷ []) ps q) a)

-- every open head before some rows
all-headed : (c i : ℕ) (st : List ℕ) (rs : List Row) → Clean c (length st) rs → All (Headed (pairs_from c i st rs)) st
all-headed c i st [] k = rw (nil_from_length st k.closed) none
all-headed c i st (r ∷ rs) k =
    let e = hold_at (byte_at c r) in
    headed-before e i st (pairs_from c (suc i) (next_stack e i st) rs) (clean-cell c (length st) r rs k)
    (all-headed c (suc i) (next_stack e i st) rs (clean-next c i st r rs k))

-- the newest of the open heads
newest : {P : ℕ → Type 0} {x : ℕ} {st l : List ℕ} → l ≡ x ∷ st → All P l → P x
newest {P} {x} {st} e a = go (rw e at a)
  where
    go : All P (x ∷ st) → P x
    go (one h b) = h

-- ---- Some rows, and then others
pairs-parts : (c i : ℕ) (st : List ℕ) (rs rest : List Row)
    → pairs_from c i st (rs ++ rest) ≡ pairs_from c i st rs ++ pairs_from c (i + length rs) (stack_from c i st rs) rest
pairs-parts c i st [] rest = let z : i + 0 ≡ i = omega arith in rw z
pairs-parts c i st (q ∷ rs) rest =
    let next = next_stack (hold_at (byte_at c q)) i st in
    let z : i + suc (length rs) ≡ suc i + length rs = omega arith in
    rw (z, append_assoc) (ap (λ l. paired (hold_at (byte_at c q)) i st ++ l) (pairs-parts c (suc i) next rs rest))

-- in a clean column the others are clean from the stack on, whose heads are as many as the phantom depth
parts-clean : (c i : ℕ) (st : List ℕ) (rs rest : List Row) → Clean c (length st) (rs ++ rest)
    → Clean c (length (stack_from c i st rs)) rest × (length (stack_from c i st rs) ≡ phantom_after c (length st) rs)
parts-clean c i st [] rest k = (k, refl)
parts-clean c i st (r ∷ rs) rest k =
    let a = parts-clean c (suc i) (next_stack (hold_at (byte_at c r)) i st) rs rest (clean-next c i st r (rs ++ rest) k) in
    (a.0, a.1 ∙ ap (λ d. phantom_after c d rs) (depth-next (hold_at (byte_at c r)) i st (clean-cell c (length st) r (rs ++ rest) k)))

pairs-then : (c : ℕ) (rows rest : List Row) → pairs (rows ++ rest) c ≡ pairs rows c ++ pairs_from c (length rows) (stack_after rows c) rest
unfolding pairs stack_after
pairs-then c rows rest = rw zero-add at (pairs-parts c 0 [] rows rest)

then-clean : (c : ℕ) (rows rest : List Row) → Clean c 0 (rows ++ rest)
    → Clean c (length (stack_after rows c)) rest × (length (stack_after rows c) ≡ phantom_after c 0 rows)
unfolding stack_after
then-clean c rows rest k = parts-clean c 0 [] rows rest k

-- every head is the head of a pair
clean-headed : (c : ℕ) (rows : List Row) (r : Row) (rest : List Row) → Clean c 0 (rows ++ (r ∷ rest)) → hold_at (byte_at c r) ≡ Opens
    → Headed (pairs (rows ++ (r ∷ rest)) c) (length rows)
clean-headed c rows r rest k o =
    let i = length rows in
    let st = stack_after rows c in
    let e = hold_at (byte_at c r) in
    let there = (then-clean c rows (r ∷ rest) k).0 in
    let pushed = ap (λ x. next_stack x i st) o ∙ opens-pushed i st (rw o at (clean-cell c (length st) r rest there)) in
    let later = pairs_from c (suc i) (next_stack e i st) rest in
    rw (pairs-then c rows (r ∷ rest))
    (headed-more i (pairs rows c) (paired e i st ++ later)
    (headed-more i (paired e i st) later (newest pushed (all-headed c (suc i) (next_stack e i st) rest (clean-next c i st r rest there)))))

-- so its row is counted as it is
pub clean-whole : (rows : List Row) (r : Row) (rest : List Row) → length r ≤ 10 → AllClean (rows ++ (r ∷ rest))
    → keep_row (pairs (rows ++ (r ∷ rest))) (length rows) 0 r ≡ r
clean-whole rows r rest m k =
    keep-whole (pairs (rows ++ (r ∷ rest))) (length rows) 0 r
    (λ c l o. rw zero-add (clean-headed c rows r rest (k c (omega arith)) o))

-- ---- The open holds
-- the heads of a stack before row k
abbrev before : ℕ → List ℕ → ℕ
before k st = count_by (λ h. ltb h k) st

open-cell : (e : DepthEffect) (i k : ℕ) (st : List ℕ) → k ≤ i → unpairs e (length st) ≡ false
    → open_of every k (paired e i st) + before k (next_stack e i st) ≡ before k st
open-cell Nothing i k st h s = zero-add (before k st)
open-cell Blocks i k st h s = rw (blocks-none st s)
open-cell Opens i k st h s = rw (opens-pushed i st s, count-cons (λ x. ltb x k) i st, le-ltb i k h) (omega arith)
open-cell Closes i k [] h s = refl
open-cell Closes i k (x ∷ st) h s = rw (
  count-cons (λ (p : Pair). every p.head && (ltb p.head k && leb k p.tail)) (record { head = x; tail = i }) [],
  count-cons (λ y. ltb y k) x st,
  le-leb k i h,
  and-true (ltb x k),
)
    (omega arith)

-- of the open heads before row i, those before row k stay open to the tail
open-here : (c i k : ℕ) (st : List ℕ) (rs : List Row) → k ≤ i → Clean c (length st) rs → open_of every k (pairs_from c i st rs) ≡ before k st
open-here c i k st [] h q = rw (nil_from_length st q.closed)
open-here c i k st (r ∷ rs) h q =
    let e = hold_at (byte_at c r) in
    let next = next_stack e i st in
    let a = count-append (λ (p : Pair). every p.head && (ltb p.head k && leb k p.tail)) (paired e i st) (pairs_from c (suc i) next rs) in
    let b = open-here c (suc i) k next rs (omega arith) (clean-next c i st r rs q) in
    let d = open-cell e i k st h (clean-cell c (length st) r rs q) in
    omega arith

-- what is paired before a row is not open there
open-past : (c : ℕ) (rows : List Row) → open_of every (length rows) (pairs rows c) ≡ 0
open-past c rows =
    count_none _ (all_map (λ p (q : Placed (length rows) p). rw (lt-leb (length rows) p.tail q.inside, and-false (ltb p.head (length rows)))) (placed rows c))

all-before : {k : ℕ} {st : List ℕ} → All (λ h. h < k) st → before k st ≡ length st
all-before none = refl
all-before {k} (one {a = h} {l = st} l a) = rw (count-cons (λ x. ltb x k) h st, lt-ltb h k l, all-before a) (omega arith)

-- The holds of a clean column that are open before a row are its open heads there.
clean-open : (c : ℕ) (rows rest : List Row) → Clean c 0 (rows ++ rest) → open_of every (length rows) (pairs (rows ++ rest) c) ≡ phantom_after c 0 rows
clean-open c rows rest k =
    let i = length rows in
    let st = stack_after rows c in
    let there = then-clean c rows rest k in
    let a = count-append (λ (p : Pair). every p.head && (ltb p.head i && leb i p.tail)) (pairs rows c) (pairs_from c i st rest) in
    let b = open-here c i i st rest (omega arith) there.0 in
    let d = all-before (stacked rows c).before in
    rw (pairs-then c rows rest) (omega (arith, a, open-past c rows, b, d, there.1))

-- and so of all columns
pub clean-active : (L : ℕ) (rows rest : List Row) → L ≤ 10 → All (λ r. length r ≤ L) (rows ++ rest) → AllClean (rows ++ rest)
    → open_before L every (pairs (rows ++ rest)) (length rows) ≡ sum_columns 10 (λ c. phantom_after c 0 rows)
unfolding open_before
clean-active L rows rest m short k =
    let holds : ℕ → ℕ = λ c. open_of every (length rows) (pairs (rows ++ rest) c) in
    sym (sum-beyond L 10 holds m (λ c l. ap (open_of every (length rows)) (pairs-narrow L c (rows ++ rest) l short)))
    ∙ sum_same 10 holds (λ c. phantom_after c 0 rows) (λ c l. clean-open c rows rest (k c l))
