-- The list of dropped heads.
use mathlib.Core.Path.{◌≡◌, refl, ap, sym, ◌∙◌, subst}
use mathlib.Core.Logic.{◌⊎◌, inl, inr}
use mathlib.Core.Bool.{Bool, true, false, ◌&&◌, ◌||◌, not, true≢false, false≢true}
use mathlib.Core.List.{List, [], ◌∷◌}
use Prim.Native.Nat.{ℕ, zero, suc, ◌+◌, ◌≤◌, ◌<◌}
use native.Mathlib.Omega.{arith}
use borrow.Author.Tests.{eqb-true, ltb-true, le-ltb, lt-ltb}
use lib.Dec.{eqb, ltb}
use lib.ListN.{length, get_or}
use Rattle.std.specs.List.{filter}
use Rattle.definitions.specs.Lists.{joined, before, rises}
use Rattle.definitions.specs.Lines.{Row}
use Rattle.definitions.specs.Reduction.{minimised}
use Rattle.definitions.specs.Entries.{row_count}
use Rattle.definitions.specs.Dropped.{dropped_heads}
use Rattle.definitions.specs.Damage.{DamageStays, is_head, byte_in, rows_above, rows_of, open_in}
use Rattle.definitions.specs.DroppedOrNoted.{listed, DroppedOrNoted}
use Rattle.definitions.specs.DroppedStays.{earlier_drops, later_drops, ShiftedCause, by_head, by_cell, by_end, LateCause, UnlistedOrLate, DroppedStays}
use Rattle.definitions.specs.Consequences.{ListedExactly, HeadsShared, ListRises, cause_down, LaterDrops, dropped_before, EarlierDrops, dropped_within, OpenDrops}
use Rattle.definitions.specs.declared.DropCause.{DropCause}
use Rattle.definitions.specs.declared.DropCause.TheVariants.{OtherHead, OtherCell, ChartEnd}
use Rattle.definitions.specs.declared.DroppedHead.{DroppedHead}
use Rattle.definitions.proofs.Bools.{and_left, and_right}
use Rattle.definitions.proofs.Lists.{All, none, one, all_map, all-by_index, filter-all}
use Rattle.definitions.proofs.Consequences.Places.{each-same}
use Rattle.definitions.proofs.Consequences.Filters.{not-true, each, in-filter, under, here, by-place}

-- ---- Of one text
one-of_two : (a b : ℕ) → a + b ≡ 1 → ((a ≡ 1) × (b ≡ 0)) ⊎ ((a ≡ 0) × (b ≡ 1))
one-of_two zero b e = inr (refl, omega (arith, e))
one-of_two (suc a) b e = inl (omega (arith, e), omega (arith, e))

pub listed-exactly : {L : ℕ} {text : List ℕ} → DroppedOrNoted L text → ListedExactly L text
listed-exactly {L} {text} x = (λ i c h. one-of_two _ _ (omega (arith, x.heads i c h)), λ i c l. go i c l _ refl)
  where
    go : (i c : ℕ) → 1 ≤ listed i c (dropped_heads L text) → (t : Bool) → is_head (byte_in (joined (minimised L text)) i c) ≡ t
        → is_head (byte_in (joined (minimised L text)) i c) ≡ true
    go i c l true e = e
    go i c l false e = absurd (omega (arith, x.others i c e, l))

pub heads-shared : {L : ℕ} {text : List ℕ} → DroppedOrNoted L text → HeadsShared L text
heads-shared x = (omega (arith, x.sum), omega (arith, x.sum))

abbrev Later : DroppedHead → DroppedHead → Type 0
Later x y = (x.row < y.row) ⊎ ((x.row ≡ y.row) × (x.column < y.column))

later-told : (x y : DroppedHead) → before x.row x.column y.row y.column ≡ true → Later x y
later-told x y e = go (ltb x.row y.row) refl (eqb x.row y.row) refl e
  where
    go : (s : Bool) → ltb x.row y.row ≡ s → (t : Bool) → eqb x.row y.row ≡ t → (s || (t && ltb x.column y.column)) ≡ true → Later x y
    go true l t m e = inl (ltb-true x.row y.row l)
    go false l true m e = inr (eqb-true x.row y.row m, ltb-true x.column y.column e)
    go false l false m e = absurd (false≢true e)

abbrev Rises : List DroppedHead → Type 0
Rises l = rises (λ d. d.row) (λ d. d.column) l ≡ true

later-on : (x y z : DroppedHead) → Later x y → Later y z → Later x z
later-on x y z (inl a) (inl b) = inl (omega (arith, a, b))
later-on x y z (inl a) (inr b) = inl (omega (arith, a, b.0))
later-on x y z (inr a) (inl b) = inl (omega (arith, a.0, b))
later-on x y z (inr a) (inr b) = inr (omega (arith, a.0, b.0), omega (arith, a.1, b.1))

first-before : (x : DroppedHead) (l : List DroppedHead) → Rises (x ∷ l) → (j : ℕ) (d : DroppedHead) → j < length l → Later x (get_or l j d)
first-before x [] e j d h = absurd (omega arith)
first-before x (y ∷ l) e zero d h = later-told x y (and_left _ _ e)
first-before x (y ∷ l) e (suc j) d h = later-on x y (get_or l j d) (later-told x y (and_left _ _ e)) (first-before y l (and_right _ _ e) j d (omega arith))

rises-on : (x : DroppedHead) (l : List DroppedHead) → Rises (x ∷ l) → Rises l
rises-on x [] e = refl
rises-on x (y ∷ l) e = and_right _ _ e

each-before : (l : List DroppedHead) → Rises l → (i j : ℕ) (d : DroppedHead) → i < j → j < length l → Later (get_or l i d) (get_or l j d)
each-before [] e i j d h m = absurd (omega arith)
each-before (x ∷ l) e i zero d h m = absurd (omega arith)
each-before (x ∷ l) e zero (suc j) d h m = first-before x l e j d (omega arith)
each-before (x ∷ l) e (suc i) (suc j) d h m = each-before l (rises-on x l e) i j d (omega arith) (omega arith)

pub list-rises : {L : ℕ} {text : List ℕ} → DroppedOrNoted L text → ListRises L text
list-rises {L} {text} x = each-before (dropped_heads L text) x.rising

-- ---- Of heads in later measures
causes-same : (a b : ℕ) (x y : DropCause) → ShiftedCause a b x y → cause_down b x ≡ cause_down a y
causes-same a b _ _ (by_head e) = ap OtherHead (omega (arith, e))
causes-same a b _ _ (by_cell e) = ap OtherCell (omega (arith, e))
causes-same a b _ _ by_end = refl

pub later-drops : {L d : ℕ} {old new : List ℕ} → DroppedStays L d old new → LaterDrops L d old new
later-drops {L} {d} {old} {new} x =
    let a : ℕ = length (rows_of L d old) in
    let b : ℕ = length (rows_of L d new) in
    let s : List DroppedHead = later_drops L d old in
    let t : List DroppedHead = later_drops L d new in (
      each-same (λ (n : DroppedHead). n.column) (λ (n : DroppedHead). n.column) (λ n m e. omega (arith, e.column)) s t x.later,
      each-same (λ (n : DroppedHead). n.row + b) (λ (n : DroppedHead). n.row + a) (λ n m e. omega (arith, e.row)) s t x.later,
      each-same (λ (n : DroppedHead). cause_down b n.cause) (λ (n : DroppedHead). cause_down a n.cause) (λ n m e. causes-same a b n.cause m.cause e.cause) s t x.later,
    )

-- ---- Of heads in earlier measures, and of those that are open
abbrev row_of : DroppedHead → ℕ
row_of n = n.row

abbrev column_of : DroppedHead → ℕ
column_of n = n.column

not-before : (s n : ℕ) (cause : DropCause) → LateCause s n cause → dropped_before s cause ≡ false
not-before s n (OtherHead j) l = le-ltb j s (omega (arith, l.0))
not-before s n (OtherCell j) l = le-ltb j s (omega (arith, l.0))
not-before s n ChartEnd l = refl

within : (s n : ℕ) (cause : DropCause) → LateCause s n cause → dropped_within n cause ≡ true
within s n (OtherHead j) l = lt-ltb j n (omega (arith, l.1))
within s n (OtherCell j) l = lt-ltb j n (omega (arith, l.1))
within s n ChartEnd l = refl

unlisted-or-late : {P : DroppedHead → Type 0} (s n i c : ℕ) (ds : List DroppedHead) → UnlistedOrLate s n i c ds
    → ((x : DroppedHead) → LateCause s n x.cause → P x) → All P (filter (here row_of column_of i c) ds)
unfolding UnlistedOrLate
unlisted-or-late {P} s n i c ds (inl e) f = subst (All P) (sym e) none
unlisted-or-late {P} s n i c ds (inr (cause, late, e)) f = subst (All P) (sym e) (one (f (record { row = i; column = c; cause = cause }) late) none)

one-at_most : (s n i c : ℕ) (ds : List DroppedHead) → UnlistedOrLate s n i c ds → length (filter (here row_of column_of i c) ds) ≤ 1
unfolding UnlistedOrLate
one-at_most s n i c ds (inl e) = omega (arith, ap length e)
one-at_most s n i c ds (inr (cause, late, e)) = omega (arith, ap length e)

module _ {L d : ℕ} {old new : List ℕ} (damage : DamageStays L d old new) (x : DroppedStays L d old new) where
  abbrev rows : List Row
  rows = rows_above L d old

  abbrev shut : DroppedHead → Bool
  shut n = not (open_in rows n.row n.column)

  abbrev gone : DroppedHead → Bool
  gone n = dropped_before (length rows) n.cause

  same_shut : filter shut (earlier_drops L d old) ≡ filter shut (earlier_drops L d new)
  same_shut = x.earlier ∙ ap (λ ps. filter (λ n. not (open_in ps n.row n.column)) (earlier_drops L d new)) (sym damage.same_before)

  -- of either text: what a row before d dropped is among those that are not open
  gone-shut : (text : List ℕ) → ((i c : ℕ) → open_in rows i c ≡ true → UnlistedOrLate (length rows) (row_count L text) i c (dropped_heads L text))
      → filter gone (earlier_drops L d text) ≡ filter gone (filter shut (earlier_drops L d text))
  gone-shut text late =
      let shut-gone : All (λ n. gone n ≡ true → shut n ≡ true) (dropped_heads L text) =
      all_map (λ n h l. not-true (open_in rows n.row n.column) (λ o. true≢false (sym l ∙ h o)))
      (by-place row_of column_of {Q = λ n. gone n ≡ false} (open_in rows) (dropped_heads L text)
      (λ i c o. unlisted-or-late _ _ i c (dropped_heads L text) (late i c o) (λ n l. not-before _ _ n.cause l))) in
      sym (under gone shut (in-filter _ shut-gone))

  pub earlier-drops : EarlierDrops L d old new
  earlier-drops = (
    λ h.
        let all : (l : List DroppedHead) → filter shut l ≡ l = λ l. filter-all shut (each (λ n. rw (h n.row n.column)) l) in
        sym (all (earlier_drops L d old)) ∙ same_shut ∙ all (earlier_drops L d new),
    gone-shut old (λ i c o. (x.open_heads i c o).0)
        ∙ ap (filter gone) same_shut
        ∙ sym (gone-shut new (λ i c o. (x.open_heads i c o).1))
        ∙ ap (λ ps. filter (λ n. dropped_before (length ps) n.cause) (earlier_drops L d new)) damage.same_before,
  )

  pub open-drops : OpenDrops L d old new
  open-drops i c o text e = (
    one-at_most (length rows) (row_count L text) i c (dropped_heads L text) (of e),
    all-by_index Within (unlisted-or-late (length rows) (row_count L text) i c (dropped_heads L text) (of e) (λ n l. within _ _ n.cause l)),
  )
    where
      Within : DroppedHead → Type 0
      Within n = dropped_within (row_count L text) n.cause ≡ true

      of : (text ≡ old) ⊎ (text ≡ new) → UnlistedOrLate (length rows) (row_count L text) i c (dropped_heads L text)
      of (inl e) = rw e (x.open_heads i c o).0
      of (inr e) = rw e (x.open_heads i c o).1
