-- The walk along notes and presses that both rise: a press is noted by the first note that does not stand before it, and pressed before by the press ahead.
use mathlib.Core.Path.{◌≡◌, refl, sym, ◌∙◌}
use mathlib.Core.Bool.{Bool, true, false, cond, ◌&&◌, ◌||◌, not, true≢false}
use mathlib.Core.List.{List, [], ◌∷◌}
use Prim.Native.Nat.{ℕ}
use native.Mathlib.Omega.{arith}
use lib.Dec.{eqb}
use borrow.Author.Tests.{eqb-true, eq-eqb}
use Rattle.std.specs.Prelude.{Option, None, Some}
use Rattle.definitions.specs.Lists.{before}
use Rattle.definitions.specs.Presses.{notes_rise, presses_rise, is_played, played, same_place, is_pressed, is_noted}
use Rattle.definitions.specs.declared.Note.{Note}
use Rattle.definitions.specs.declared.Press.{Press}
use Rattle.definitions.proofs.Bools.{and_left, and_right}
use Rattle.definitions.proofs.Lists.{All, none, one, all_map}
use Rattle.definitions.proofs.Presses.{Before, before-apart, before-is, is-before, all-behind, rise-rest, all-some}
use Rattle.definitions.proofs.CleanTrace.{UpTo, not-behind, up-trans, up-rest, not-pressed}
use Rattle.presses.specs.Reached.{past, met, again}
use Rattle.presses.proofs.Orders.{climb_after}

-- ---- Notes
up-refl : (i c : ℕ) → UpTo i c i c
up-refl i c = record { row = omega arith; column = λ e. omega arith }

-- what stands before a place stands before all that are at it or past it
before-up : (i c j d k e : ℕ) → before i c j d ≡ true → UpTo j d k e → before i c k e ≡ true
before-up i c j d k e p u =
    let b : Before i c j d = before-is i c j d p in
    is-before i c k e (record { row = omega (arith, b.row, u.row); column = λ q. omega (arith, b.column (omega (arith, b.row, u.row)), u.column (omega (arith, b.row, u.row))) })

not-noted : (i c : ℕ) {ms : List Note} → All (λ (m : Note). same_place m.row m.column i c ≡ false) ms → is_noted i c ms ≡ false
not-noted i c none = refl
not-noted i c (one h hs) = rw (h, not-noted i c hs) refl

-- a note that stands elsewhere does not count
elsewhere : (n : Note) (ns : List Note) (i c : ℕ) → same_place n.row n.column i c ≡ false → is_noted i c (played (n ∷ ns)) ≡ is_noted i c (played ns)
elsewhere n ns i c h = go (is_played n.kind)
  where
    go : (t : Bool) → is_noted i c (cond t (n ∷ played ns) (played ns)) ≡ is_noted i c (played ns)
    go true = rw h refl
    go false = refl

past-rises : (p : Press) (ns : List Note) → notes_rise ns ≡ true → notes_rise (past p ns) ≡ true
past-rises p [] h = refl
past-rises p (n ∷ ns) h = go (before n.row n.column p.row p.column) (past-rises p ns (rise-rest n ns h))
  where
    go : (t : Bool) → notes_rise (past p ns) ≡ true → notes_rise (cond t (past p ns) (n ∷ ns)) ≡ true
    go true q = q
    go false q = h

-- no note that is passed stands at the press or past it
past-noted : (p : Press) (ns : List Note) (i c : ℕ) → UpTo p.row p.column i c → is_noted i c (played ns) ≡ is_noted i c (played (past p ns))
past-noted p [] i c u = refl
past-noted p (n ∷ ns) i c u = go (before n.row n.column p.row p.column) refl (past-noted p ns i c u)
  where
    go : (t : Bool) → before n.row n.column p.row p.column ≡ t → is_noted i c (played ns) ≡ is_noted i c (played (past p ns))
        → is_noted i c (played (n ∷ ns)) ≡ is_noted i c (played (cond t (past p ns) (n ∷ ns)))
    go true e q = elsewhere n ns i c (before-apart n.row n.column i c (before-up n.row n.column p.row p.column i c e u)) ∙ q
    go false e q = refl

-- of those that are left the first alone can stand at the press
met-noted : (p : Press) (ns : List Note) → notes_rise ns ≡ true → is_noted p.row p.column (played (past p ns)) ≡ met p (past p ns)
met-noted p [] h = refl
met-noted p (n ∷ ns) h = go (before n.row n.column p.row p.column) refl (met-noted p ns (rise-rest n ns h))
  where
    differs : before n.row n.column p.row p.column ≡ false → (m : Note) → before n.row n.column m.row m.column ≡ true → same_place m.row m.column p.row p.column ≡ false
    differs e m b = at (same_place m.row m.column p.row p.column) refl
      where
        at : (t : Bool) → same_place m.row m.column p.row p.column ≡ t → t ≡ false
        at false d = refl
        at true d =
            let row : m.row ≡ p.row = eqb-true m.row p.row (and_left (eqb m.row p.row) (eqb m.column p.column) d) in
            let column : m.column ≡ p.column = eqb-true m.column p.column (and_right (eqb m.row p.row) (eqb m.column p.column) d) in
            absurd (true≢false (sym (rw (row, column) at b) ∙ e))

    go : (t : Bool) → before n.row n.column p.row p.column ≡ t → is_noted p.row p.column (played (past p ns)) ≡ met p (past p ns)
        → is_noted p.row p.column (played (cond t (past p ns) (n ∷ ns))) ≡ met p (cond t (past p ns) (n ∷ ns))
    go true e q = q
    go false e q = told (is_played n.kind)
      where
        none-left : is_noted p.row p.column (played ns) ≡ false
        none-left = not-noted p.row p.column (all-some (λ (m : Note). is_played m.kind) (all_map (differs e) (all-behind n ns h)))

        or-false : (x : Bool) → (x || false) ≡ x
        or-false true = refl
        or-false false = refl

        told : (t : Bool) → is_noted p.row p.column (cond t (n ∷ played ns) (played ns)) ≡ (t && same_place n.row n.column p.row p.column)
        told true = rw none-left (or-false (same_place n.row n.column p.row p.column))
        told false = none-left

-- one note more is passed, or none
pub past-on : (p : Press) (n : Note) (ns : List Note) → before n.row n.column p.row p.column ≡ true → past p (n ∷ ns) ≡ past p ns
past-on p n ns h = rw h refl

pub past-here : (p : Press) (n : Note) (ns : List Note) → before n.row n.column p.row p.column ≡ false → past p (n ∷ ns) ≡ n ∷ ns
past-here p n ns h = rw h refl

-- Of notes that rise these are left where the walk stands at a place: at it and past it they are noted as all are.
pub record Reached (ns rest : List Note) (a b : ℕ) : Type 0 where
  pub rises : notes_rise rest ≡ true
  pub noted : (i c : ℕ) → UpTo a b i c → is_noted i c (played ns) ≡ is_noted i c (played rest)

module _ (ns rest : List Note) (a b : ℕ) (x : Reached ns rest a b) (p : Press) (u : UpTo a b p.row p.column) where
  pub reached-next : Reached ns (past p rest) p.row p.column
  reached-next =
      record {
        rises = past-rises p rest x.rises;
        noted = λ i c v. x.noted i c (up-trans a b p.row p.column i c u v) ∙ past-noted p rest i c v;
      }

  pub reached-met : is_noted p.row p.column (played ns) ≡ met p (past p rest)
  reached-met = x.noted p.row p.column u ∙ past-noted p rest p.row p.column (up-refl p.row p.column) ∙ met-noted p rest x.rises

-- ---- Presses
-- from the last one back they do not rise
pub data Falling : List Press → Type 0 where
  nil : Falling []
  cons : {q : Press} {qs : List Press} → All (λ (r : Press). UpTo r.row r.column q.row q.column) qs → Falling qs → Falling (q ∷ qs)

abbrev pub first_of : List Press → Option Press
first_of [] = None
first_of (q ∷ qs) = Some q

abbrev pub row_of : Option Press → ℕ
row_of None = 0
row_of (Some q) = q.row

abbrev pub column_of : Option Press → ℕ
column_of None = 0
column_of (Some q) = q.column

-- a press comes after those before it
abbrev pub Next : Option Press → Press → Type 0
Next last p = UpTo (row_of last) (column_of last) p.row p.column

pub next-of : (last : Option Press) (p : Press) (ps : List Press) → climb_after last (p ∷ ps) ≡ true → Next last p
next-of None p ps h = record { row = omega arith; column = λ e. omega arith }
next-of (Some q) p ps h = not-behind q.row q.column p.row p.column (and_left (not (before p.row p.column q.row q.column)) (presses_rise (p ∷ ps)) h)

pub climb-next : (last : Option Press) (p : Press) (ps : List Press) → climb_after last (p ∷ ps) ≡ true → climb_after (Some p) ps ≡ true
climb-next None p ps h = h
climb-next (Some q) p ps h = up-rest q (p ∷ ps) h

pub falling-next : (qs : List Press) (p : Press) → Falling qs → Next (first_of qs) p → Falling (p ∷ qs)
falling-next [] p f u = cons none f
falling-next (q ∷ qs) p (cons a f) u = cons (one u (all_map (λ (r : Press) v. up-trans r.row r.column q.row q.column p.row p.column v u) a)) (cons a f)

-- a press was pressed before where the one ahead of it stands there
pub pressed-again : (qs : List Press) (p : Press) → Falling qs → Next (first_of qs) p → is_pressed p.row p.column qs ≡ again (first_of qs) p
pressed-again [] p f u = refl
pressed-again (q ∷ qs) p (cons a f) u = go (same_place q.row q.column p.row p.column) refl
  where
    go : (t : Bool) → same_place q.row q.column p.row p.column ≡ t → (t || is_pressed p.row p.column qs) ≡ t
    go true e = refl
    go false e = not-pressed p.row p.column (all_map (λ (r : Press) v. differs r v) a)
      where
        differs : (r : Press) → UpTo r.row r.column q.row q.column → same_place r.row r.column p.row p.column ≡ false
        differs r v = at (same_place r.row r.column p.row p.column) refl
          where
            at : (t : Bool) → same_place r.row r.column p.row p.column ≡ t → t ≡ false
            at false d = refl
            at true d =
                let row : r.row ≡ p.row = eqb-true r.row p.row (and_left (eqb r.row p.row) (eqb r.column p.column) d) in
                let column : r.column ≡ p.column = eqb-true r.column p.column (and_right (eqb r.row p.row) (eqb r.column p.column) d) in
                let rows : q.row ≡ p.row = omega (arith, u.row, v.row, row) in
                let back : r.row ≡ q.row = omega (arith, rows, row) in
                let columns : q.column ≡ p.column = omega (arith, u.column rows, v.column back, column) in
                absurd (true≢false (sym (rw (eq-eqb q.row p.row rows, eq-eqb q.column p.column columns) refl) ∙ e))
