-- The last row gets another cell where a `0` stood: the tally and the work slice after it.
use mathlib.Core.Path.{◌≡◌, refl, sym, ap, ap₂, ◌∙◌}
use mathlib.Core.Bool.{Bool, false}
use mathlib.Core.List.{List, [], ◌∷◌, ◌++◌}
use Prim.Native.Nat.{ℕ, ◌+◌, ◌<◌}
use native.Mathlib.Nat.{zero-add}
use native.Mathlib.Decide.{ℕ_discrete}
use native.Mathlib.Omega.{arith}
use lib.ListN.{length, get_or, set, length-set, length-append, get_or-append}
use lib.Seq.{get_or-append_seam}
use Rattle.std.proofs.lemmas.List.{set-get_or}
use Rattle.definitions.specs.Lists.{number_of_bool}
use Rattle.definitions.specs.Lines.{Row}
use Rattle.definitions.specs.Cells.{cell_of}
use Rattle.definitions.specs.Tracker.{Pair, next_stack, paired, hold_at, pairs, is_head_of}
use Rattle.definitions.specs.Tally.{direction, empty_stats, empty_sum}
use Rattle.definitions.specs.Correction.{head_if_paired, keep_row}
use Rattle.definitions.specs.declared.Cell.{Cell}
use Rattle.definitions.specs.declared.Cell.TheVariants.{Empty, Tail}
use Rattle.definitions.specs.declared.DepthEffect.TheVariants.{Opens}
use Rattle.definitions.specs.declared.RowSum.{RowSum}
use Rattle.definitions.specs.declared.ArrowStats.{ArrowStats}
use Rattle.definitions.proofs.RowBounds.{keep-wide}
use Rattle.holds.specs.Stacks.{stack_of, TrackStepped}
use Rattle.holds.specs.Tracks.{stack_after, ends_at}
use Rattle.row_tally.specs.Raised.{with_cells}
use Rattle.paired_tally.specs.declared.PairedTally.{PairedTally}
use Rattle.paired_tally.specs.Entry.{entry_of}
use Rattle.paired_tally.specs.Paired.{kind_sum, counts_from, sum_at, head_number, numbers_after, PairedRows}
use Rattle.paired_tally.specs.Cells.{add_kind}
use Rattle.paired_tally.proofs.Sums.{kind-set, kind-next, kind-tail, cells-swap}
use Rattle.paired_tally.proofs.Keep.{SameBut, Same, keep-same, keep-set, kept-byte}
use Rattle.paired_tally.proofs.Counts.{counts-snoc, counts-same, counts-gain}
use Rattle.paired_tally.proofs.Columns.{ZeroAt, numbers-after, numbers-other, ends-earlier, same-heads, same-ends, no-head, but-here, other-heads, head-now, head-not_before, ends-more}

zero-cell : cell_of 48 ≡ Empty
unfolding cell_of
zero-cell = refl

zero-kept : (p : Bool) → head_if_paired (hold_at 48) p 48 ≡ 48
unfolding hold_at cell_of
zero-kept p = refl

module _
    {plain : Bool}
    {J : ℕ → Bool}
    {L : ℕ}
    (rows : List Row)
    {r : Row}
    {k : ℕ}
    (b : ℕ)
    (z : ZeroAt r k)
    {t : PairedTally}
    {work : List ℕ}
    (t' : PairedTally)
    (work' : List ℕ)
    (s : PairedRows plain J L (rows ++ (r ∷ [])) t work)
    (ps : List Pair)
    (m : TrackStepped (hold_at b) (head_number (length rows) b) k t.tracker t'.tracker ps)
  where
    abbrev n : ℕ
    n = length rows

    abbrev Before : List Row
    Before = rows ++ (r ∷ [])

    abbrev After : List Row
    After = rows ++ (set r k b ∷ [])

    long-before : length Before ≡ n + 1
    long-before = length-append rows (r ∷ [])

    long-after : length After ≡ n + 1
    long-after = length-append rows (set r k b ∷ [])

    last-before : get_or Before n [] ≡ r
    last-before = get_or-append_seam rows r [] []

    last-after : get_or After n [] ≡ set r k b
    last-after = get_or-append_seam rows (set r k b) [] []

    first-before : (i : ℕ) → i < n → get_or Before i [] ≡ get_or rows i []
    first-before i h = get_or-append rows (r ∷ []) [] i h

    first-same : (i : ℕ) → i < n → get_or After i [] ≡ get_or Before i []
    first-same i h = get_or-append rows (set r k b ∷ []) [] i h ∙ sym (first-before i h)

    wide-last : length r ≡ L
    wide-last = ap length (sym last-before) ∙ s.wide n (omega (arith, long-before))

    wide-first : (i : ℕ) → i < n → length (get_or rows i []) ≡ L
    wide-first i h = ap length (sym (first-before i h)) ∙ s.wide i (omega (arith, long-before))

    wide-after : (i : ℕ) → i < length After → length (get_or After i []) ≡ L
    wide-after i h =
        elim (ℕ_discrete i n) [
          | yes e ↦ rw e (ap length last-after ∙ length-set r k b ∙ wide-last)
          | no ne ↦ ap length (first-same i (omega (arith, long-after))) ∙ s.wide i (omega (arith, long-before, long-after))
        ]

    stacks-after : (c : ℕ) → c < 10 → stack_of t'.tracker c ≡ numbers_after After c
    stacks-after c h =
        elim (ℕ_discrete c k) [
          | yes e ↦
              rw e
              (m.stack ∙ ap (next_stack (hold_at b) (head_number n b)) (rw e at (s.stacks c h)) ∙ sym (numbers-after rows b z))
          | no ne ↦ m.others c h ne ∙ s.stacks c h ∙ sym (numbers-other rows b z c ne)
        ]

    -- ---- What the rows add up to
    abbrev sum-before : ℕ → RowSum
    sum-before i = sum_at plain J (pairs Before) Before i

    abbrev sum-after : ℕ → RowSum
    sum-after i = sum_at plain J (pairs After) After i

    -- a row before it, whose heads are the same
    sum-first : (i : ℕ) → i < n → Same (pairs Before) (pairs After) i → sum-after i ≡ sum-before i
    sum-first i h f =
        ap (λ q. kind_sum plain (J i) (keep_row (pairs After) i 0 q)) (first-same i h)
        ∙ ap (kind_sum plain (J i)) (keep-same (pairs Before) (pairs After) i 0 (get_or Before i []) f)

    -- the row itself
    abbrev byte : ℕ
    byte = head_if_paired (hold_at b) (is_head_of n (pairs After k)) b

    kept-last : SameBut (pairs Before) (pairs After) n k → keep_row (pairs After) n 0 (set r k b) ≡ set (keep_row (pairs Before) n 0 r) k byte
    kept-last f = keep-set (pairs Before) (pairs After) n k b r z.inside f

    kept-empty : cell_of (get_or (keep_row (pairs Before) n 0 r) k 0) ≡ Empty
    kept-empty =
        ap cell_of
        (kept-byte (pairs Before) n k r z.inside
        ∙ ap (λ x. head_if_paired (hold_at x) (is_head_of n (pairs Before k)) x) z.zero_there
        ∙ zero-kept (is_head_of n (pairs Before k)))
        ∙ zero-cell

    abbrev here : RowSum
    here = kind_sum plain (J n) (keep_row (pairs Before) n 0 r)

    gained : SameBut (pairs Before) (pairs After) n k
        → kind_sum plain (J n) (keep_row (pairs After) n 0 (set r k b)) ≡ add_kind plain (J n) here (direction L k) (cell_of byte)
    gained f =
        ap (kind_sum plain (J n)) (kept-last f)
        ∙ kind-set k byte (keep_row (pairs Before) n 0 r) (rw keep-wide z.inside) kept-empty plain (J n)
        ∙ ap (λ d. add_kind plain (J n) here (direction d k) (cell_of byte)) (keep-wide (pairs Before) n 0 r ∙ wide-last)

    here-is : here ≡ sum-before n
    here-is = ap (λ q. kind_sum plain (J n) (keep_row (pairs Before) n 0 q)) (sym last-before)

    sum-last : SameBut (pairs Before) (pairs After) n k → sum-after n ≡ add_kind plain (J n) (sum-before n) (direction L k) (cell_of byte)
    sum-last f =
        ap (λ q. kind_sum plain (J n) (keep_row (pairs After) n 0 q)) last-after ∙ gained f
        ∙ ap (λ q. add_kind plain (J n) q (direction L k) (cell_of byte)) here-is

    -- ---- The counts
    abbrev C : ArrowStats
    C = counts_from plain J (pairs Before) empty_stats 0 rows

    abbrev C' : ArrowStats
    C' = counts_from plain J (pairs After) empty_stats 0 rows

    stats-before : t.stats ≡ with_cells C here
    stats-before = s.stats ∙ rw zero-add at (counts-snoc plain J (pairs Before) empty_stats 0 rows r)

    stats-after : counts_from plain J (pairs After) empty_stats 0 After ≡ with_cells C' (kind_sum plain (J n) (keep_row (pairs After) n 0 (set r k b)))
    stats-after = rw zero-add at (counts-snoc plain J (pairs After) empty_stats 0 rows (set r k b))

    -- ---- The rows with it
    abbrev Entry : ℕ → Type 0
    Entry i = get_or work' i 0 ≡ entry_of plain (J i) (sum-after i) (ends_at J After i)

    -- a row before it, whose heads and whose entry are the same
    entry-same : (i : ℕ) → i < n → Same (pairs Before) (pairs After) i → get_or work' i 0 ≡ get_or work i 0 → Entry i
    entry-same i l f e =
        e ∙ s.entries i (omega (arith, long-before))
        ∙ ap₂ (entry_of plain (J i)) (sym (sum-first i l f)) (sym (ends-earlier rows b z J i (λ q. omega arith)))

    rows-after : t'.stats ≡ counts_from plain J (pairs After) empty_stats 0 After → Entry n → ((i : ℕ) → i < n → Entry i)
        → ((i : ℕ) → n < i → get_or work' i 0 ≡ get_or work i 0) → PairedRows plain J L After t' work'
    rows-after stats last first later =
        record {
          wide = wide-after;
          stacks = stacks-after;
          sized = m.sized;
          busy = m.busy s.busy;
          stats = stats;
          entries = λ i l. elim (ℕ_discrete i n) [ yes e ↦ rw e last | no ne ↦ first i (omega (arith, long-after)) ];
          later = λ i l. later i (omega (arith, long-after)) ∙ s.later i (omega (arith, long-before, long-after));
        }

    -- ---- Nothing pairs: the row gains the cell x
    module _
        (no-pair : paired (hold_at b) n (stack_after rows k) ≡ [])
        (x : Cell)
        (cell : cell_of (head_if_paired (hold_at b) false b) ≡ x)
        (counted : t'.stats ≡ with_cells t.stats (add_kind plain (J n) empty_sum (direction L k) x))
        (entry : get_or work' n 0 ≡ entry_of plain (J n) (add_kind plain (J n) (sum-before n) (direction L k) x) (ends_at J Before n))
        (others : (i : ℕ) → (i ≡ n → ⊥) → get_or work' i 0 ≡ get_or work i 0)
      where
        heads : (i : ℕ) → Same (pairs Before) (pairs After) i
        heads = same-heads rows b z no-pair

        byte-is : cell_of byte ≡ x
        byte-is = ap (λ p. cell_of (head_if_paired (hold_at b) p b)) (no-head rows b z no-pair) ∙ cell

        sum-own : sum-after n ≡ add_kind plain (J n) (sum-before n) (direction L k) x
        sum-own = sum-last (λ d ne. heads n d) ∙ ap (add_kind plain (J n) (sum-before n) (direction L k)) byte-is

        stats-own : t'.stats ≡ counts_from plain J (pairs After) empty_stats 0 After
        stats-own =
            counted
            ∙ ap (λ u. with_cells u (add_kind plain (J n) empty_sum (direction L k) x)) stats-before
            ∙ kind-next plain (J n) C here (direction L k) x
            ∙ sym (stats-after
            ∙ ap₂ with_cells (counts-same plain J (pairs Before) (pairs After) empty_stats 0 rows (λ j l. heads j))
            (gained (λ d ne. heads n d) ∙ ap (add_kind plain (J n) here (direction L k)) byte-is))

        pub own : PairedRows plain J L After t' work'
        own =
            rows-after stats-own
            (entry ∙ ap₂ (entry_of plain (J n)) (sym sum-own) (sym (same-ends rows b z no-pair J n)))
            (λ i l. entry-same i l (heads i) (others i (λ e. omega arith)))
            (λ i l. others i (λ e. omega arith))

    -- ---- A tail pairs with the head of row h
    module _
        {h : ℕ}
        (one-pair : paired (hold_at b) n (stack_after rows k) ≡ record { head = h; tail = n } ∷ [])
        (earlier : h < n)
        (low : k < 10)
        (tail : cell_of b ≡ Tail)
        (opens : hold_at (get_or (get_or rows h []) k 0) ≡ Opens)
        (x : Cell)
        (head : cell_of (get_or (get_or rows h []) k 0) ≡ x)
        (counted : t'.stats ≡ with_cells t.stats (add_kind plain (J h) empty_sum (direction L k) x))
        (head-entry : get_or work' h 0 ≡ entry_of plain (J h) (add_kind plain (J h) (sum-before h) (direction L k) x) (ends_at J Before h))
        (tail-entry : get_or work' n 0 ≡ entry_of plain (J n) (add_kind plain (J n) (sum-before n) (direction L k) Tail) (ends_at J Before n + number_of_bool (J h)))
        (others : (i : ℕ) → (i ≡ n → ⊥) → (i ≡ h → ⊥) → get_or work' i 0 ≡ get_or work i 0)
      where
        headed : Row
        headed = get_or rows h []

        closes-kept : (p : Bool) → head_if_paired (hold_at b) p b ≡ b
        unfolding hold_at
        closes-kept p = rw tail

        tail-byte : cell_of byte ≡ Tail
        tail-byte = ap cell_of (closes-kept (is_head_of n (pairs After k))) ∙ tail

        but : (i : ℕ) → SameBut (pairs Before) (pairs After) i k
        but = but-here rows b z one-pair

        others-heads : (i : ℕ) → (i ≡ h → ⊥) → Same (pairs Before) (pairs After) i
        others-heads = other-heads rows b z one-pair

        within : k < length headed
        unfolding headed
        within = omega (arith, wide-last, wide-first h earlier)

        head-sum : kind_sum plain (J h) (keep_row (pairs After) h 0 headed) ≡ add_kind plain (J h) (kind_sum plain (J h) (keep_row (pairs Before) h 0 headed)) (direction L k) x
        unfolding headed
        head-sum =
            let y = get_or headed k 0 in
            let kept = keep_row (pairs Before) h 0 headed in
            ap (λ q. kind_sum plain (J h) (keep_row (pairs After) h 0 q)) (sym (set-get_or headed k 0))
            ∙ ap (kind_sum plain (J h)) (keep-set (pairs Before) (pairs After) h k y headed within (but h) ∙ ap (set kept k) kept-now)
            ∙ kind-set k y kept (rw keep-wide within) empty-before plain (J h)
            ∙ ap₂ (λ d c. add_kind plain (J h) (kind_sum plain (J h) kept) (direction d k) c) (keep-wide (pairs Before) h 0 headed ∙ wide-first h earlier) head
          where
            kept-now : head_if_paired (hold_at (get_or headed k 0)) (is_head_of h (pairs After k)) (get_or headed k 0) ≡ get_or headed k 0
            kept-now = rw (opens, head-now rows b z one-pair)

            empty-before : cell_of (get_or (keep_row (pairs Before) h 0 headed) k 0) ≡ Empty
            empty-before =
                ap cell_of (kept-byte (pairs Before) h k headed within ∙ rw (opens, head-not_before rows b z one-pair)) ∙ zero-cell

        sum-head : sum-after h ≡ add_kind plain (J h) (sum-before h) (direction L k) x
        unfolding headed
        sum-head =
            ap (λ q. kind_sum plain (J h) (keep_row (pairs After) h 0 q)) (first-same h earlier ∙ first-before h earlier)
            ∙ head-sum
            ∙ ap (λ q. add_kind plain (J h) (kind_sum plain (J h) (keep_row (pairs Before) h 0 q)) (direction L k) x) (sym (first-before h earlier))

        y : RowSum
        y = add_kind plain (J h) empty_sum (direction L k) x

        counts-now : C' ≡ with_cells C y
        unfolding headed y
        counts-now =
            counts-gain plain J (pairs Before) (pairs After) y empty_stats h rows earlier others-heads
            (λ u. ap (with_cells u) head-sum ∙ sym (kind-next plain (J h) u (kind_sum plain (J h) (keep_row (pairs Before) h 0 headed)) (direction L k) x))

        stats-paired : t'.stats ≡ counts_from plain J (pairs After) empty_stats 0 After
        unfolding y
        stats-paired =
            counted
            ∙ ap (λ u. with_cells u y) stats-before
            ∙ cells-swap C here y
            ∙ sym (kind-tail plain (J n) (with_cells (with_cells C y) here) (direction L k))
            ∙ kind-next plain (J n) (with_cells C y) here (direction L k) Tail
            ∙ sym (stats-after ∙ ap₂ with_cells counts-now (gained (but n) ∙ ap (add_kind plain (J n) here (direction L k)) tail-byte))

        pub closed : PairedRows plain J L After t' work'
        closed =
            rows-after stats-paired
            (tail-entry
            ∙ ap₂ (entry_of plain (J n)) (sym (sum-last (but n) ∙ ap (add_kind plain (J n) (sum-before n) (direction L k)) tail-byte))
            (sym (ends-more rows b z one-pair J low)))
            (λ i l.
            elim (ℕ_discrete i h) [
              | yes e ↦
                  rw e
                  (head-entry ∙ ap₂ (entry_of plain (J h)) (sym sum-head) (sym (ends-earlier rows b z J h (λ q. omega (arith, earlier)))))
              | no nh ↦ entry-same i l (others-heads i nh) (others i (λ e. omega arith) nh)
            ])
            (λ i l. others i (λ e. omega arith) (λ e. omega (arith, earlier)))
