-- Records that pass 7 and 8 are the records of the notes that are read from them, and these notes keep the writer's limits.
use mathlib.Core.Path.{◌≡◌, refl, ap, ap₂, sym, ◌∙◌, subst}
use mathlib.Core.Bool.{Bool, true, false, cond, not}
use mathlib.Core.List.{List, [], ◌∷◌, ◌++◌, map}
use Rattle.std.specs.Prelude.{Result, Ok, Err, is_err}
use Prim.Native.Nat.{ℕ, zero, suc, ◌+◌, ◌*◌, ◌≤◌, ◌<◌, ◌/◌, ◌%◌}
use native.Mathlib.Nat.{div-add-mod', mod-eq_of_lt, zero-add}
use native.Mathlib.Omega.{arith}
use borrow.Author.Tests.{eqb-true, leb-false, ltb-true, ltb-false, eq-eqb, lt-ltb}
use lib.Dec.{eqb, leb, ltb}
use lib.ListN.{length, drop, get_or, get_or-eq_default, drop_of_length-le}
use Rattle.std.proofs.Math.Nat.{mul-add-mod_self_right}
use Rattle.std.proofs.lemmas.Nat.{div-mul-add}
use Rattle.std.proofs.lemmas.Bool.{or_parts, cond_both}
use Rattle.std.specs.List.{All as AllAt}
use Rattle.definitions.specs.Sizes.{row_numbers_bound}
use Rattle.definitions.specs.Lists.{joined}
use Rattle.definitions.specs.Records.{bytes4, word, number_of_kind, fields, encode, records, plain_of, held_of, note_of, note_of_record}
use Rattle.definitions.specs.WriterMakes.{TailMade, Made}
use Rattle.definitions.specs.Written.{note_and, notes_from_record, notes_in, some_breaks, uneven_records, broken_records}
use Rattle.definitions.specs.declared.Kind.{Kind}
use Rattle.definitions.specs.declared.Kind.TheVariants.{Tap, Hold, Roll, Mine, Lift, Fake}
use Rattle.definitions.specs.declared.Tail.TheVariants.{Without, Row}
use Rattle.definitions.specs.declared.Note.{Note}
use Rattle.definitions.specs.declared.Refusal.{Refusal}
use Rattle.definitions.specs.declared.Refusal.TheVariants.{BadRecord}
use Rattle.definitions.proofs.Lists.{All, none, one}
use Rattle.definitions.proofs.WriterMakes.{kind-below}

-- ---- Bytes of a number
-- a digit in base 256 of a number: h stands before it and b, of what weighs w, after it
digit : (x h w r b : ℕ) → x ≡ (h * 256 + r) * w + b → b < w → r < 256 → x / w % 256 ≡ r
digit x h w r b e p q = ap (λ n. n / w % 256) e ∙ ap (λ n. n % 256) (div-mul-add (h * 256 + r) w b p) ∙ mul-add-mod_self_right h 256 r ∙ mod-eq_of_lt q

last-digit : (x h r : ℕ) → x ≡ h * 256 + r → r < 256 → x % 256 ≡ r
last-digit x h r e q = ap (λ n. n % 256) e ∙ mul-add-mod_self_right h 256 r ∙ mod-eq_of_lt q

four : {a b c d e f g h : ℕ} → a ≡ e → b ≡ f → c ≡ g → d ≡ h → ◌≡◌ {A = List ℕ} (a ∷ b ∷ c ∷ d ∷ []) (e ∷ f ∷ g ∷ h ∷ [])
four p q r s = rw (p, q, r, s) refl

bytes4-of : (a b c d : ℕ) → a < 256 → b < 256 → c < 256 → d < 256 → bytes4 (a + 256 * b + 65536 * c + 16777216 * d) ≡ a ∷ b ∷ c ∷ d ∷ []
bytes4-of a b c d p q r s =
    let x : ℕ = a + 256 * b + 65536 * c + 16777216 * d in
    four
    (last-digit x (b + 256 * c + 65536 * d) a (omega arith) p)
    (digit x (c + 256 * d) 256 b a (omega arith) p q)
    (digit x d 65536 c (a + 256 * b) (omega arith) (omega arith) r)
    (digit x 0 16777216 d (a + 256 * b + 65536 * c) (omega arith) (omega arith) s)

-- ---- Ten bytes of a list
pub next-drop : {A : Type 0} (s : List A) (k : ℕ) (d : A) → k < length s → get_or s k d ∷ drop (suc k) s ≡ drop k s
next-drop [] k d h = absurd (omega arith)
next-drop (n ∷ s) zero d h = refl
next-drop (n ∷ s) (suc k) d h = next-drop s k d (omega arith)

byte-drop : (s : List ℕ) (p q : ℕ) → q ≡ suc p → p < length s → get_or s p 0 ∷ drop q s ≡ drop p s
byte-drop s p q e h = ap (λ n. get_or s p 0 ∷ drop n s) e ∙ next-drop s p 0 h

before-byte : (s : List ℕ) (p q : ℕ) (l : List ℕ) → q ≡ suc p → p < length s → l ≡ drop q s → get_or s p 0 ∷ l ≡ drop p s
before-byte s p q l e h f = ap {B = List ℕ} (λ r. get_or s p 0 ∷ r) f ∙ byte-drop s p q e h

word-bytes : (s : List ℕ) (at : ℕ) → ((k : ℕ) → get_or s k 0 < 256)
    → bytes4 (word s at) ≡ get_or s at 0 ∷ get_or s (at + 1) 0 ∷ get_or s (at + 2) 0 ∷ get_or s (at + 3) 0 ∷ []
unfolding word
word-bytes s at small = bytes4-of (get_or s at 0) (get_or s (at + 1) 0) (get_or s (at + 2) 0) (get_or s (at + 3) 0) (small at) (small (at + 1)) (small (at + 2)) (small (at + 3))

ten-bytes : (s : List ℕ) (at : ℕ) → ((k : ℕ) → get_or s k 0 < 256) → at + 10 ≤ length s
    → fields (word s at) (word s (at + 4)) (get_or s (at + 8) 0) (get_or s (at + 9) 0) ++ drop (at + 10) s ≡ drop at s
unfolding fields
ten-bytes s at small h =
    ap (λ l. (l ++ (bytes4 (word s (at + 4)) ++ (get_or s (at + 8) 0 ∷ get_or s (at + 9) 0 ∷ []))) ++ drop (at + 10) s) (word-bytes s at small)
    ∙ ap (λ l. (get_or s at 0 ∷ get_or s (at + 1) 0 ∷ get_or s (at + 2) 0 ∷ get_or s (at + 3) 0 ∷ (l ++ (get_or s (at + 8) 0 ∷ get_or s (at + 9) 0 ∷ []))) ++ drop (at + 10) s) (word-bytes s (at + 4) small)
    ∙ before-byte s at (at + 1) _ (omega arith) (omega arith)
    (before-byte s (at + 1) (at + 2) _ (omega arith) (omega arith)
    (before-byte s (at + 2) (at + 3) _ (omega arith) (omega arith)
    (before-byte s (at + 3) (at + 4) _ (omega arith) (omega arith)
    (before-byte s (at + 4) (at + 4 + 1) _ (omega arith) (omega arith)
    (before-byte s (at + 4 + 1) (at + 4 + 2) _ (omega arith) (omega arith)
    (before-byte s (at + 4 + 2) (at + 4 + 3) _ (omega arith) (omega arith)
    (before-byte s (at + 4 + 3) (at + 8) _ (omega arith) (omega arith)
    (before-byte s (at + 8) (at + 9) _ (omega arith) (omega arith)
    (byte-drop s (at + 9) (at + 10) (omega arith) (omega arith))))))))))

-- ---- The fields of a record that is read
pub record Kept (r t c k : ℕ) (n : Note) : Type 0 where
  pub made : Made n
  same : encode n ≡ fields r t c k

ok-of : {x y : Note} → ◌≡◌ {A = Result Note Refusal} (Ok x) (Ok y) → x ≡ y
ok-of e = cc

not-ok : {P : Type 0} {r : Refusal} {y : Note} → ◌≡◌ {A = Result Note Refusal} (Err r) (Ok y) → P
not-ok e = let z : ◌≡◌ {A = ℕ} 0 1 = cc in absurd (omega arith)

module _ (r t c k : ℕ) (n : Note) (narrow : c < 10) (low : r < row_numbers_bound) where
  abbrev Gives : Result Note Refusal → Type 0
  Gives x = x ≡ Ok n → Kept r t c k n

  kept-plain : (kind : Kind) → number_of_kind kind ≡ k → TailMade r kind Without → Gives (plain_of r t c kind)
  unfolding encode
  kept-plain kind e m =
      cond_both (eqb t 4294967295) (Ok (record { row = r; tail = Without; column = c; kind = kind })) (Err BadRecord) Gives
      (λ q h.
      subst (Kept r t c k) (ok-of h)
      (record {
        made = record { column = narrow; kind = kind-below kind; row = low; tail = m };
        same = ap₂ (λ x y. fields r x c y) (sym (eqb-true t 4294967295 q)) e;
      }))
      (λ q h. not-ok h)

  kept-held : (kind : Kind) → number_of_kind kind ≡ k → ((r < t) × (t < row_numbers_bound) → TailMade r kind (Row t)) → Gives (held_of r t c kind)
  unfolding encode
  kept-held kind e m =
      cond_both (ltb r t) (cond (ltb t row_numbers_bound) (Ok (record { row = r; tail = Row t; column = c; kind = kind })) (Err BadRecord)) (Err BadRecord) Gives
      (λ p.
      cond_both (ltb t row_numbers_bound) (Ok (record { row = r; tail = Row t; column = c; kind = kind })) (Err BadRecord) Gives
      (λ q h.
      subst (Kept r t c k) (ok-of h)
      (record {
        made = record { column = narrow; kind = kind-below kind; row = low; tail = m (ltb-true r t p, ltb-true t row_numbers_bound q) };
        same = ap (λ y. fields r t c y) e;
      }))
      (λ q h. not-ok h))
      (λ p h. not-ok h)

  kept-kind : Gives
      (cond (eqb k 0) (plain_of r t c Tap)
      (cond (eqb k 1) (held_of r t c Hold)
      (cond (eqb k 2) (held_of r t c Roll)
      (cond (eqb k 3) (plain_of r t c Mine)
      (cond (eqb k 4) (plain_of r t c Lift)
      (cond (eqb k 5) (plain_of r t c Fake) (Err BadRecord)))))))
  kept-kind =
      cond_both (eqb k 0) _ _ Gives (λ e. kept-plain Tap (sym (eqb-true k 0 e)) tt)
      (λ e. cond_both (eqb k 1) _ _ Gives (λ e. kept-held Hold (sym (eqb-true k 1 e)) (λ m. m))
      (λ e. cond_both (eqb k 2) _ _ Gives (λ e. kept-held Roll (sym (eqb-true k 2 e)) (λ m. m))
      (λ e. cond_both (eqb k 3) _ _ Gives (λ e. kept-plain Mine (sym (eqb-true k 3 e)) tt)
      (λ e. cond_both (eqb k 4) _ _ Gives (λ e. kept-plain Lift (sym (eqb-true k 4 e)) tt)
      (λ e. cond_both (eqb k 5) _ _ Gives (λ e. kept-plain Fake (sym (eqb-true k 5 e)) tt)
      (λ e h. not-ok h))))))

pub note-kept : (r t c k : ℕ) (n : Note) → note_of r t c k ≡ Ok n → Kept r t c k n
unfolding note_of
note-kept r t c k n =
    cond_both (leb 10 c) _ _ (λ x. x ≡ Ok n → Kept r t c k n) (λ e h. not-ok h)
    (λ e.
    cond_both (leb row_numbers_bound r) _ _ (λ x. x ≡ Ok n → Kept r t c k n) (λ f h. not-ok h)
    (λ f. kept-kind r t c k n (leb-false 10 c e) (leb-false row_numbers_bound r f)))

-- ---- The notes of records
-- so many records from record k on keep the limits
record HoldsFrom (s : List ℕ) (k n : ℕ) (ns : List Note) : Type 0 where
  made : All Made ns
  size : length ns ≡ n
  each : (j : ℕ) (d : Note) → j < n → note_of_record s (k + j) ≡ Ok (get_or ns j d)

module _ (s : List ℕ) (even : length s % 10 ≡ 0) where
  tens : length s / 10 * 10 ≡ length s
  tens = omega (arith, div-add-mod' (length s) 10)

  record-kept : (k : ℕ) (n : Note) → k < length s / 10 → note_of_record s k ≡ Ok n → Kept (word s (k * 10)) (word s (k * 10 + 4)) (get_or s (k * 10 + 8) 0) (get_or s (k * 10 + 9) 0) n
  unfolding note_of_record
  record-kept k n h e =
      note-kept (word s (k * 10)) (word s (k * 10 + 4)) (get_or s (k * 10 + 8) 0) (get_or s (k * 10 + 9) 0) n
      (rw (eq-eqb (length s % 10) 0 even, lt-ltb k (length s / 10) h) at e)

  holds-from : (k n : ℕ) → k + n ≡ length s / 10 → some_breaks s k n ≡ false → HoldsFrom s k n (notes_from_record s k n)
  holds-from k zero e h = record { made = none; size = refl; each = λ j d q. absurd (omega arith) }
  holds-from k (suc n) e h =
      let p = or_parts (is_err (note_of_record s k)) (some_breaks s (suc k) n) h in
      go (note_of_record s k) refl p.0 (holds-from (suc k) n (omega arith) p.1)
    where
      go : (x : Result Note Refusal) → note_of_record s k ≡ x → is_err x ≡ false → HoldsFrom s (suc k) n (notes_from_record s (suc k) n)
          → HoldsFrom s k (suc n) (note_and x (notes_from_record s (suc k) n))
      go (Err r) q b f = let z : ◌≡◌ {A = ℕ} 0 1 = cc in absurd (omega arith)
      go (Ok y) q b f = record { made = one (record-kept k y (omega arith) q).made f.made; size = ap suc f.size; each = each }
        where
          each : (j : ℕ) (d : Note) → j < suc n → note_of_record s (k + j) ≡ Ok (get_or (y ∷ notes_from_record s (suc k) n) j d)
          each zero d h = let z : k + 0 ≡ k = omega arith in ap (note_of_record s) z ∙ q
          each (suc j) d h = let z : k + suc j ≡ suc k + j = omega arith in ap (note_of_record s) z ∙ f.each j d (omega arith)

  -- the bytes of so many records from record k on, where each byte is one
  read-from : ((k : ℕ) → get_or s k 0 < 256) → (k n : ℕ) → k + n ≡ length s / 10 → some_breaks s k n ≡ false → joined (map encode (notes_from_record s k n)) ≡ drop (k * 10) s
  read-from small k zero e h = sym (drop_of_length-le s (omega (arith, tens)))
  read-from small k (suc n) e h =
      let p = or_parts (is_err (note_of_record s k)) (some_breaks s (suc k) n) h in
      go (note_of_record s k) refl p.0 (read-from small (suc k) n (omega arith) p.1)
    where
      go : (x : Result Note Refusal) → note_of_record s k ≡ x → is_err x ≡ false → joined (map encode (notes_from_record s (suc k) n)) ≡ drop (suc k * 10) s
          → joined (map encode (note_and x (notes_from_record s (suc k) n))) ≡ drop (k * 10) s
      go (Err r) q b d = let z : ◌≡◌ {A = ℕ} 0 1 = cc in absurd (omega arith)
      go (Ok y) q b d =
          let next : suc k * 10 ≡ k * 10 + 10 = omega arith in
          ap₂ (λ (a b : List ℕ). a ++ b) (record-kept k y (omega arith) q).same (d ∙ ap (λ m. drop m s) next)
          ∙ ten-bytes s (k * 10) small (omega (arith, tens))

pub is-even : (s : List ℕ) → uneven_records s ≡ false → length s % 10 ≡ 0
unfolding uneven_records
is-even s = go (eqb (length s % 10) 0) refl
  where
    go : (t : Bool) → eqb (length s % 10) 0 ≡ t → not t ≡ false → length s % 10 ≡ 0
    go true e h = eqb-true (length s % 10) 0 e
    go false e h = let z : ◌≡◌ {A = ℕ} 0 1 = cc in absurd (omega arith)

-- of records that pass 7 and 8: their notes keep the limits, and each is read as its note
pub record Holds (s : List ℕ) : Type 0 where
  pub made : All Made (notes_in s)
  pub size : length (notes_in s) ≡ length s / 10
  pub each : (k : ℕ) (d : Note) → k < length s / 10 → note_of_record s k ≡ Ok (get_or (notes_in s) k d)

pub holds : (s : List ℕ) → uneven_records s ≡ false → broken_records s ≡ false → Holds s
unfolding notes_in broken_records
holds s even kept =
    let h = holds-from s (is-even s even) 0 (length s / 10) (zero-add (length s / 10)) kept in
    record { made = h.made; size = h.size; each = λ k d q. ap (note_of_record s) (sym (zero-add k)) ∙ h.each k d q }

-- of records in bytes: they are those of their notes
pub same-records : (s : List ℕ) → AllAt (λ b. b < 256) s → uneven_records s ≡ false → broken_records s ≡ false → records (notes_in s) ≡ s
unfolding notes_in records broken_records
same-records s small even kept = read-from s (is-even s even) all-small 0 (length s / 10) (zero-add (length s / 10)) kept
  where
    all-small : (k : ℕ) → get_or s k 0 < 256
    all-small k = go (ltb k (length s)) refl
      where
        go : (t : Bool) → ltb k (length s) ≡ t → get_or s k 0 < 256
        go true e = small k 0 (ltb-true k (length s) e)
        go false e = rw (get_or-eq_default s 0 (ltb-false k (length s) e)) (omega arith)
