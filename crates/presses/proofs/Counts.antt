-- The counts of the columns while the lists are walked along.
use mathlib.Core.Path.{◌≡◌, refl, ap, sym, ◌∙◌, subst}
use mathlib.Core.Bool.{Bool, true, false, cond, ◌&&◌, not}
use mathlib.Core.List.{List, [], ◌∷◌}
use Prim.Native.Nat.{ℕ, zero, suc, ◌+◌, ◌/◌, ◌≤◌, ◌<◌}
use native.Mathlib.Omega.{arith}
use lib.Dec.{eqb, leb}
use borrow.Author.Tests.{eqb-true, eqb-false, eq-eqb, leb-true}
use lib.ListN.{length, set, get_or, replicate, length-set}
use lib.Seq.{get_or-set_same, get_or-set_other, ext_get_or}
use Rattle.std.specs.Prelude.{Option, None, Some, Result, Ok, Err}
use Rattle.std.specs.List.{count_by, filter}
use Rattle.definitions.specs.Lists.{number_of_bool, only_if}
use Rattle.definitions.specs.Written.{note_and, notes_in, notes_from_record}
use Rattle.definitions.specs.Presses.{press_at, presses_in, notes_rise, presses_rise, columns_fit, is_played, played, is_hit, hits_after, hits, hits_in, played_in, of_columns}
use Rattle.definitions.specs.PressClaims.{PressesCounted}
use Rattle.definitions.specs.declared.Note.{Note}
use Rattle.definitions.specs.declared.Press.{Press}
use Rattle.definitions.proofs.Bools.{and_left, and_right, and-false}
use Rattle.definitions.proofs.Lists.{count-cons, count-append, one-le}
use Rattle.std.proofs.Math.Bool.{and-true}
use Rattle.definitions.proofs.Presses.{presses-counted, columns-length, columns-get}
use Rattle.definitions.proofs.TraceCounted.{Narrow, record-narrow, trace-length}
use Rattle.definitions.specs.Records.{note_of_record}
use Rattle.definitions.specs.declared.Refusal.{Refusal}
use Rattle.presses.specs.Reached.{left_from, past, met, again}
use Rattle.presses.proofs.Records.{to_come, come-next, come-end, all-left, all-come, left-ok, left-end}
use Rattle.presses.proofs.Orders.{climb_after}
use Rattle.presses.proofs.Walk.{Reached, reached-next, reached-met, Falling, nil, first_of, row_of, column_of, Next, next-of, climb-next, falling-next, pressed-again}

-- ---- Ten columns
-- ten counts that are f's
pub columns-are : (l : List ℕ) (f : ℕ → ℕ) → length l ≡ 10 → ((c : ℕ) → c < 10 → get_or l c 0 ≡ f c) → l ≡ of_columns f 0 10
columns-are l f size h =
    ext_get_or 0 l (of_columns f 0 10) (size ∙ sym (columns-length f 0 10))
    (λ i k. let inside : i < 10 = omega (arith, size) in let e : 0 + i ≡ i = omega arith in h i inside ∙ sym (columns-get f 0 10 i inside ∙ ap f e))

-- one more in column i, where a test holds
pub raised : (l : List ℕ) (i c : ℕ) (b : Bool) → i < length l → get_or (set l i (get_or l i 0 + number_of_bool b)) c 0 ≡ get_or l c 0 + number_of_bool (b && eqb i c)
raised l i c b h = go (eqb i c) refl
  where
    go : (t : Bool) → eqb i c ≡ t → get_or (set l i (get_or l i 0 + number_of_bool b)) c 0 ≡ get_or l c 0 + number_of_bool (b && t)
    go true e =
        let same : i ≡ c = eqb-true i c e in
        ap (λ k. get_or (set l i (get_or l i 0 + number_of_bool b)) k 0) (sym same)
        ∙ get_or-set_same l i _ _ h
        ∙ ap (λ k. get_or l k 0 + number_of_bool b) same
        ∙ ap (λ x. get_or l c 0 + number_of_bool x) (sym (and-true b))
    go false e = get_or-set_other l i c _ _ (λ q. eqb-false i c e (sym q)) ∙ rw (and-false b) (omega arith)

abbrev pub none_yet : List ℕ
none_yet = 0 ∷ 0 ∷ 0 ∷ 0 ∷ 0 ∷ 0 ∷ 0 ∷ 0 ∷ 0 ∷ 0 ∷ []

zeros : (n c : ℕ) → get_or {A = ℕ} (replicate n 0) c 0 ≡ 0
zeros zero c = refl
zeros (suc n) zero = refl
zeros (suc n) (suc c) = zeros n c

pub count-few : {A : Type 0} (t : A → Bool) (l : List A) → count_by t l ≤ length l
count-few t [] = omega arith
count-few t (a ∷ l) = omega (arith, count-cons t a l, one-le (t a), count-few t l)

-- ---- Played notes
-- so many stand in each column of those that were read
pub record Played (s notes : List ℕ) (k : ℕ) : Type 0 where
  pub size : length notes ≡ 10
  pub counted : (c : ℕ) → c < 10 → get_or notes c 0 + played_in (left_from s k) c ≡ played_in (notes_in s) c

pub played-start : (s : List ℕ) → Played s (none_yet) 0
played-start s = record { size = refl; counted = λ c h. ap (λ k. k + played_in (left_from s 0) c) (zeros 10 c) ∙ (omega arith) ∙ ap (λ ns. played_in ns c) (all-left s) }

-- they are no more than the bytes of the records
from-few : (s : List ℕ) (k n : ℕ) → length (notes_from_record s k n) ≤ n
from-few s k zero = omega arith
from-few s k (suc n) = go (note_of_record s k) (from-few s (suc k) n)
  where
    go : (r : Result Note Refusal) → length (notes_from_record s (suc k) n) ≤ n → length (note_and r (notes_from_record s (suc k) n)) ≤ suc n
    go (Ok m) h = omega arith
    go (Err r) h = omega arith

filter-few : {A : Type 0} (t : A → Bool) (l : List A) → length (filter t l) ≤ length l
filter-few t [] = omega arith
filter-few t (a ∷ l) = go (t a) (filter-few t l)
  where
    go : (b : Bool) → length (filter t l) ≤ length l → length (cond b (a ∷ filter t l) (filter t l)) ≤ suc (length l)
    go true h = omega arith
    go false h = omega arith

pub played-length : (s : List ℕ) → length (played (notes_in s)) ≤ length s
unfolding notes_in
played-length s = omega (arith, filter-few (λ (n : Note). is_played n.kind) (notes_in s), from-few s 0 (length s / 10))

played-few : (s : List ℕ) (c : ℕ) → played_in (notes_in s) c ≤ length s
unfolding played_in notes_in
played-few s c =
    omega (arith, count-few (λ (n : Note). eqb n.column c) (played (notes_in s)), filter-few (λ (n : Note). is_played n.kind) (notes_in s), from-few s 0 (length s / 10))

-- one note more
pub played-more : (n : Note) (ns : List Note) (c : ℕ) → played_in (n ∷ ns) c ≡ number_of_bool (is_played n.kind && eqb n.column c) + played_in ns c
unfolding played_in
played-more n ns c = go (is_played n.kind)
  where
    go : (t : Bool) → count_by (λ (m : Note). eqb m.column c) (cond t (n ∷ played ns) (played ns)) ≡ number_of_bool (t && eqb n.column c) + count_by (λ (m : Note). eqb m.column c) (played ns)
    go true = count-cons (λ (m : Note). eqb m.column c) n (played ns)
    go false = omega arith

-- a note of a record
pub note-narrow : (s : List ℕ) (k : ℕ) (n : Note) → note_of_record s k ≡ Ok n → n.column < 10
note-narrow s k n e = subst Narrow e (record-narrow s k)

module _ (s notes : List ℕ) (k : ℕ) (x : Played s notes k) (inside : k < length s / 10) where
  left-more : (n : Note) → note_of_record s k ≡ Ok n → (c : ℕ) → played_in (left_from s k) c ≡ number_of_bool (is_played n.kind && eqb n.column c) + played_in (left_from s (k + 1)) c
  left-more n e c = ap (λ ns. played_in ns c) (left-ok s k inside n e) ∙ played-more n (left_from s (k + 1)) c

  pub note-fits : (n : Note) → note_of_record s k ≡ Ok n → get_or notes n.column 0 + number_of_bool (is_played n.kind) ≤ length s
  note-fits n e =
      let own : number_of_bool (is_played n.kind && eqb n.column n.column) ≡ number_of_bool (is_played n.kind) = rw (eq-eqb n.column n.column refl, and-true (is_played n.kind)) refl in
      omega (arith, x.counted n.column (note-narrow s k n e), left-more n e n.column, own, played-few s n.column)

  pub played-next : (n : Note) → note_of_record s k ≡ Ok n → Played s (set notes n.column (get_or notes n.column 0 + number_of_bool (is_played n.kind))) (k + 1)
  played-next n e =
      let low : n.column < length notes = omega (arith, x.size, note-narrow s k n e) in
      record {
        size = length-set notes n.column (get_or notes n.column 0 + number_of_bool (is_played n.kind)) ∙ x.size;
        counted = λ c i. omega (arith, x.counted c i, left-more n e c, raised notes n.column c (is_played n.kind) low);
      }

pub played-over : (s notes : List ℕ) (k : ℕ) → Played s notes k → length s / 10 ≤ k → notes ≡ of_columns (played_in (notes_in s)) 0 10
unfolding played_in
played-over s notes k x h =
    columns-are notes (played_in (notes_in s)) x.size
    (λ c i. omega (arith, x.counted c i, ap (λ ns. count_by (λ (n : Note). eqb n.column c) (played ns)) (left-end s k h)))

-- ---- Hits
-- of the presses before press k so many hits stand in each column, and the notes are reached at the last of them
pub record Walking (s t hits : List ℕ) (reached k : ℕ) (last : Option Press) : Type 0 where
  pub size : length hits ≡ 10
  pub earlier : List Press
  pub last_is : first_of earlier ≡ last
  pub falling : Falling earlier
  pub at : Reached (notes_in s) (left_from s reached) (row_of last) (column_of last)
  pub climbs : climb_after last (to_come t k) ≡ true
  pub narrow : columns_fit (to_come t k) ≡ true
  pub counted : (c : ℕ) → c < 10 → get_or hits c 0 + count_by (λ (p : Press). eqb p.column c) (hits_after (played (notes_in s)) earlier (to_come t k)) ≡ hits_in (notes_in s) (presses_in t) c

pub walking-start : (s t : List ℕ) → notes_rise (notes_in s) ≡ true → columns_fit (presses_in t) ≡ true → presses_rise (presses_in t) ≡ true → Walking s t (none_yet) 0 0 None
unfolding hits_in hits
walking-start s t r w u =
    record {
      size = refl;
      earlier = [];
      last_is = refl;
      falling = nil;
      at = rw (all-left s) (record { rises = r; noted = λ i c v. refl });
      climbs = rw (all-come t) u;
      narrow = rw (all-come t) w;
      counted = λ c h. rw (all-come t, zeros 10 c) (omega arith);
    }

count-only : (c : ℕ) (b : Bool) (p : Press) → count_by (λ (p : Press). eqb p.column c) (only_if b (p ∷ [])) ≡ number_of_bool (b && eqb p.column c)
count-only c true p = count-cons (λ (p : Press). eqb p.column c) p [] ∙ omega arith
count-only c false p = refl

module _ (s t hits : List ℕ) (reached k : ℕ) (last : Option Press) (x : Walking s t hits reached k last) (inside : k < length t / 5) where
  abbrev p : Press
  p = press_at t k

  climbs-here : climb_after last (p ∷ to_come t (k + 1)) ≡ true
  climbs-here = ap (climb_after last) (sym (come-next t k inside)) ∙ x.climbs

  narrow-here : columns_fit (p ∷ to_come t (k + 1)) ≡ true
  narrow-here = ap columns_fit (sym (come-next t k inside)) ∙ x.narrow

  column-narrow : p.column < 10
  column-narrow = omega (arith, leb-true p.column 9 (and_left (leb p.column 9) (columns_fit (to_come t (k + 1))) narrow-here))

  after-last : Next last p
  after-last = next-of last p (to_come t (k + 1)) climbs-here

  after-first : Next (first_of x.earlier) p
  after-first = rw x.last_is after-last

  -- the press is a hit where the walk tells it
  hit-told : is_hit (played (notes_in s)) x.earlier p ≡ (met p (past p (left_from s reached)) && not (again last p))
  hit-told =
      let noted = reached-met (notes_in s) (left_from s reached) (row_of last) (column_of last) x.at p after-last in
      let pressed = pressed-again x.earlier p x.falling after-first ∙ ap (λ l. again l p) x.last_is in
      rw (noted, pressed) refl

  counted-here : (hit : Bool) → hit ≡ (met p (past p (left_from s reached)) && not (again last p)) → (c : ℕ) → c < 10
      → get_or hits c 0 + number_of_bool (hit && eqb p.column c) + count_by (λ (p : Press). eqb p.column c) (hits_after (played (notes_in s)) (p ∷ x.earlier) (to_come t (k + 1)))
      ≡ hits_in (notes_in s) (presses_in t) c
  counted-here hit e c h =
      let told : is_hit (played (notes_in s)) x.earlier p ≡ hit = hit-told ∙ sym e in
      let all = x.counted c h in
      let next = ap (λ (ps : List Press). count_by (λ (p : Press). eqb p.column c) (hits_after (played (notes_in s)) x.earlier ps)) (come-next t k inside) in
      let parts = count-append (λ (p : Press). eqb p.column c) (only_if (is_hit (played (notes_in s)) x.earlier p) (p ∷ [])) (hits_after (played (notes_in s)) (p ∷ x.earlier) (to_come t (k + 1))) in
      let here = ap (λ b. count_by (λ (p : Press). eqb p.column c) (only_if b (p ∷ []))) told ∙ count-only c hit p in
      omega (arith, all, next, parts, here)

  -- and the count of its column can be raised
  hit-fits : (hit : Bool) → hit ≡ (met p (past p (left_from s reached)) && not (again last p)) → get_or hits p.column 0 + number_of_bool hit ≤ hits_in (notes_in s) (presses_in t) p.column
  hit-fits hit e =
      let own : number_of_bool (hit && eqb p.column p.column) ≡ number_of_bool hit = rw (eq-eqb p.column p.column refl, and-true hit) refl in
      omega (arith, counted-here hit e p.column column-narrow, own)

  walking-next : (hit : Bool) → hit ≡ (met p (past p (left_from s reached)) && not (again last p)) → (hits' : List ℕ) → length hits' ≡ 10
      → ((c : ℕ) → c < 10 → get_or hits' c 0 ≡ get_or hits c 0 + number_of_bool (hit && eqb p.column c))
      → (place : ℕ) → left_from s place ≡ past p (left_from s reached) → Walking s t hits' place (k + 1) (Some p)
  walking-next hit e hits' size f place l =
      record {
        size = size;
        earlier = p ∷ x.earlier;
        last_is = refl;
        falling = falling-next x.earlier p x.falling after-first;
        at = rw l (reached-next (notes_in s) (left_from s reached) (row_of last) (column_of last) x.at p after-last);
        climbs = climb-next last p (to_come t (k + 1)) climbs-here;
        narrow = and_right (leb p.column 9) (columns_fit (to_come t (k + 1))) narrow-here;
        counted = λ c h. omega (arith, counted-here hit e c h, f c h);
      }

hits-few : (ns : List Note) (ps : List Press) (c : ℕ) → hits_in ns ps c ≤ length ps
unfolding hits_in PressesCounted
hits-few ns ps c = omega (arith, count-few (λ (p : Press). eqb p.column c) (hits ns ps), presses-counted ns ps)

-- of a press as the code has it
pub press-narrow : {s t hits : List ℕ} {reached k : ℕ} {last : Option Press} → Walking s t hits reached k last → k < length t / 5 → {p : Press} → p ≡ press_at t k → p.column < 10
press-narrow {s} {t} {hits} {reached} {k} {last} x inside e = omega (arith, column-narrow s t hits reached k last x inside, ap (λ (q : Press). q.column) e)

-- what the code finds of press k: the notes from record `place` on are left for it, and so many more are hit
pub record Found (s t : List ℕ) (reached k : ℕ) (last : Option Press) (p : Press) (place : ℕ) (more : ℕ) : Type 0 where
  pub inside : k < length t / 5
  pub same : p ≡ press_at t k
  pub left : left_from s place ≡ past p (left_from s reached)
  pub hit : more ≡ number_of_bool (met p (past p (left_from s reached)) && not (again last p))

pub found-of : {s t : List ℕ} {reached k place more : ℕ} {last : Option Press} {p : Press} {noted hit : Bool} → k < length t / 5 → p ≡ press_at t k → left_from s place ≡ past p (left_from s reached)
    → noted ≡ met p (past p (left_from s reached)) → hit ≡ (noted && not (again last p)) → more ≡ number_of_bool hit → Found s t reached k last p place more
found-of {last = last} {p = p} inside same left noted hit more =
    record { inside = inside; same = same; left = left; hit = more ∙ ap number_of_bool (hit ∙ ap (λ b. b && not (again last p)) noted) }

module _ {s t hits : List ℕ} {reached k : ℕ} {last : Option Press} (x : Walking s t hits reached k last) {p : Press} {place more : ℕ} (f : Found s t reached k last p place more) where
  abbrev hit_of : Press → Bool
  hit_of q = met q (past q (left_from s reached)) && not (again last q)

  abbrev here : Press
  here = press_at t k

  pub press-fits : get_or hits p.column 0 + more ≤ length t
  press-fits =
      omega (
        arith,
        hit-fits s t hits reached k last x f.inside (hit_of here) refl,
        ap (λ (q : Press). get_or hits q.column 0) f.same,
        f.hit,
        ap (λ q. number_of_bool (hit_of q)) f.same,
        hits-few (notes_in s) (presses_in t) here.column,
        trace-length t,
      )

  pub walked-press : Walking s t (set hits p.column (get_or hits p.column 0 + more)) place (k + 1) (Some p)
  walked-press = rw f.hit (subst (λ (q : Press). Walking s t (set hits q.column (get_or hits q.column 0 + number_of_bool (hit_of q))) place (k + 1) (Some q)) (sym f.same) at_k)
    where
      at_k : Walking s t (set hits here.column (get_or hits here.column 0 + number_of_bool (hit_of here))) place (k + 1) (Some here)
      at_k =
          walking-next s t hits reached k last x f.inside (hit_of here) refl
          (set hits here.column (get_or hits here.column 0 + number_of_bool (hit_of here)))
          (length-set hits here.column (get_or hits here.column 0 + number_of_bool (hit_of here)) ∙ x.size)
          (λ c i. raised hits here.column c (hit_of here) (omega (arith, x.size, column-narrow s t hits reached k last x f.inside)))
          place
          (f.left ∙ ap (λ q. past q (left_from s reached)) f.same)

-- the trace is at its end
pub walked : {s t hits : List ℕ} {reached k : ℕ} {last : Option Press} → Walking s t hits reached k last → length t / 5 ≤ k → hits ≡ of_columns (hits_in (notes_in s) (presses_in t)) 0 10
walked {s} {t} {hits} {reached} {k} {last} x h =
    columns-are hits (hits_in (notes_in s) (presses_in t)) x.size
    (λ c i. let e = x.counted c i in let n = ap (λ (ps : List Press). count_by (λ (p : Press). eqb p.column c) (hits_after (played (notes_in s)) x.earlier ps)) (come-end t k h) in omega (arith, e, n))
