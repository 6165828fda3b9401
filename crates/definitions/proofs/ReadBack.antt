-- A record is read back as the note that it was made of.
use Rattle.std.specs.Prelude.{Ok}
use mathlib.Core.Path.{◌≡◌, refl, ◌∙◌}
use mathlib.Core.List.{List, [], ◌∷◌, ◌++◌, map, append-nil}
use Prim.Native.Nat.{ℕ, zero, suc, ◌+◌, ◌*◌, ◌≤◌, ◌<◌, ◌/◌, ◌%◌}
use native.Mathlib.Nat.{div-div-eq-div-mul, div-add-mod', mod-eq_of_lt, mul-div_cancel, mul-mod_left, add-zero, add_assoc}
use native.Mathlib.Omega.{arith}
use lib.ListN.{length, get_or}
use borrow.Author.Tests.{lt-ltb, lt-leb, eq-eqb}
use Rattle.definitions.specs.Sizes.{row_numbers_bound}
use Rattle.definitions.specs.Lists.{joined}
use Rattle.definitions.specs.Records.{word, number_of_kind, number_of_tail, fields, encode, records, note_of, note_of_record}
use Rattle.definitions.specs.declared.Kind.{Kind}
use Rattle.definitions.specs.declared.Kind.TheVariants.{Tap, Hold, Roll, Mine, Lift, Fake}
use Rattle.definitions.specs.declared.Tail.{Tail}
use Rattle.definitions.specs.declared.Tail.TheVariants.{Without, Row}
use Rattle.definitions.specs.declared.Note.{Note}
use Rattle.definitions.proofs.Lists.{All, none, one}
use Rattle.definitions.specs.WriterMakes.{TailMade, Made}
use Rattle.definitions.proofs.Blocks.{blocks-length, blocks-get}

linear : (x y z w a b c d : ℕ) → y * 256 + a ≡ x → z * 256 + b ≡ y → w * 256 + c ≡ z → d ≡ w → a + 256 * b + 65536 * c + 16777216 * d ≡ x
linear x y z w a b c d p q r s = omega arith

-- the four bytes of a number below 2 ^ 32 give the number
bytes4-back : (x : ℕ) → x < 4294967296 → x % 256 + 256 * (x / 256 % 256) + 65536 * (x / 65536 % 256) + 16777216 * (x / 16777216 % 256) ≡ x
bytes4-back x h =
    linear x (x / 256) (x / 65536) (x / 16777216) _ _ _ _
    (div-add-mod' x 256)
    (rw (div-div-eq-div-mul x 256 256) at (div-add-mod' (x / 256) 256))
    (rw (div-div-eq-div-mul x 65536 256) at (div-add-mod' (x / 65536) 256))
    (mod-eq_of_lt (omega arith))

-- the row and the tail of a record's bytes
pub word_row : (r t c k : ℕ) → r < 4294967296 → word (fields r t c k) 0 ≡ r
unfolding word fields
word_row r t c k h = bytes4-back r h

pub word-tail : (r t c k : ℕ) → t < 4294967296 → word (fields r t c k) 4 ≡ t
unfolding word fields
word-tail r t c k h = bytes4-back t h

-- a note that the writer makes is what its fields give
note-back : (r c : ℕ) (k : Kind) (t : Tail) → c < 10 → r < row_numbers_bound → TailMade r k t
    → note_of r (number_of_tail t) c (number_of_kind k) ≡ Ok (record { row = r; tail = t; column = c; kind = k })
unfolding note_of
note-back r c Tap Without p q m = simp (lt-leb 10 c p, lt-leb row_numbers_bound r q) refl
note-back r c Tap (Row j) p q m = absurd m
note-back r c Hold Without p q m = absurd m
note-back r c Hold (Row j) p q m = simp (lt-leb 10 c p, lt-leb row_numbers_bound r q, lt-ltb r j m.0, lt-ltb j row_numbers_bound m.1) refl
note-back r c Roll Without p q m = absurd m
note-back r c Roll (Row j) p q m = simp (lt-leb 10 c p, lt-leb row_numbers_bound r q, lt-ltb r j m.0, lt-ltb j row_numbers_bound m.1) refl
note-back r c Mine Without p q m = simp (lt-leb 10 c p, lt-leb row_numbers_bound r q) refl
note-back r c Mine (Row j) p q m = absurd m
note-back r c Lift Without p q m = simp (lt-leb 10 c p, lt-leb row_numbers_bound r q) refl
note-back r c Lift (Row j) p q m = absurd m
note-back r c Fake Without p q m = simp (lt-leb 10 c p, lt-leb row_numbers_bound r q) refl
note-back r c Fake (Row j) p q m = absurd m

tail-small : (r : ℕ) (k : Kind) (t : Tail) → TailMade r k t → number_of_tail t < 4294967296
tail-small r k Without m = omega arith
tail-small r Tap (Row j) m = absurd m
tail-small r Hold (Row j) m = omega arith
tail-small r Roll (Row j) m = omega arith
tail-small r Mine (Row j) m = absurd m
tail-small r Lift (Row j) m = absurd m
tail-small r Fake (Row j) m = absurd m

-- "A note record has 10 bytes, and records stand back to back without a header."
pub ten : (n : Note) → length (encode n) ≡ 10
unfolding encode fields
ten n = refl

pub records-length : (ns : List Note) → length (records ns) ≡ length ns * 10
unfolding records
records-length ns = blocks-length encode ten ns

module _ {A : Type 0} (f : A → List ℕ) (tens : (a : A) → length (f a) ≡ 10) where
  -- the word at byte m of block k
  pub blocks-word : (xs : List A) (q : List ℕ) (k m : ℕ) (d : A) → k < length xs → m + 4 ≤ 10
      → word (joined (map f xs) ++ q) (k * 10 + m) ≡ word (f (get_or xs k d)) m
  unfolding word
  blocks-word xs q k m d h g =
      let e0 : get_or (joined (map f xs) ++ q) (k * 10 + m) 0 ≡ get_or (f (get_or xs k d)) m 0 = blocks-get f tens xs q k m d h (omega arith) in
      let e1 : get_or (joined (map f xs) ++ q) (k * 10 + m + 1) 0 ≡ get_or (f (get_or xs k d)) (m + 1) 0 = rw (add_assoc (k * 10) m 1) (blocks-get f tens xs q k (m + 1) d h (omega arith)) in
      let e2 : get_or (joined (map f xs) ++ q) (k * 10 + m + 2) 0 ≡ get_or (f (get_or xs k d)) (m + 2) 0 = rw (add_assoc (k * 10) m 2) (blocks-get f tens xs q k (m + 2) d h (omega arith)) in
      let e3 : get_or (joined (map f xs) ++ q) (k * 10 + m + 3) 0 ≡ get_or (f (get_or xs k d)) (m + 3) 0 = rw (add_assoc (k * 10) m 3) (blocks-get f tens xs q k (m + 3) d h (omega arith)) in
      omega arith

row_of : (n : Note) → Made n → word (encode n) 0 ≡ n.row
unfolding encode
row_of n m = word_row n.row (number_of_tail n.tail) n.column (number_of_kind n.kind) (omega (arith, m.row))

tail_of : (n : Note) → Made n → word (encode n) 4 ≡ number_of_tail n.tail
unfolding encode
tail_of n m = word-tail n.row (number_of_tail n.tail) n.column (number_of_kind n.kind) (tail-small n.row n.kind n.tail m.tail)

column-of : (n : Note) → get_or (encode n) 8 0 ≡ n.column
unfolding encode fields
column-of n = refl

kind-of : (n : Note) → get_or (encode n) 9 0 ≡ number_of_kind n.kind
unfolding encode fields
kind-of n = refl

pub all-at : {P : Note → Type 0} (ns : List Note) (d : Note) (k : ℕ) → All P ns → k < length ns → P (get_or ns k d)
all-at [] d k none h = absurd (omega arith)
all-at (n ∷ ns) d zero (one p ps) h = p
all-at (n ∷ ns) d (suc k) (one p ps) h = all-at ns d k ps (omega arith)

-- record k of the records of notes that the writer makes is note k
pub read_back : (ns : List Note) (d : Note) (k : ℕ) → All Made ns → k < length ns → note_of_record (records ns) k ≡ Ok (get_or ns k d)
unfolding note_of_record records
read_back ns d k all h =
    let m : Made (get_or ns k d) = all-at ns d k all h in
    let s : List ℕ = joined (map encode ns) in
    let n : Note = get_or ns k d in
    let l : length s ≡ length ns * 10 = blocks-length encode ten ns in
    let z : length s % 10 ≡ 0 = rw l (mul-mod_left (length ns) 10) in
    let q : k < length s / 10 = rw (l, mul-div_cancel (length ns) {n = 10} (omega arith)) h in
    let w0 : word s (k * 10) ≡ n.row =
    rw (append-nil, add-zero) at (blocks-word encode ten ns [] k 0 d h (omega arith)) ∙ row_of n m in
    let w4 : word s (k * 10 + 4) ≡ number_of_tail n.tail =
    rw append-nil at (blocks-word encode ten ns [] k 4 d h (omega arith)) ∙ tail_of n m in
    let b8 : get_or s (k * 10 + 8) 0 ≡ n.column = rw append-nil at (blocks-get encode ten ns [] k 8 d h (omega arith)) ∙ column-of n in
    let b9 : get_or s (k * 10 + 9) 0 ≡ number_of_kind n.kind = rw append-nil at (blocks-get encode ten ns [] k 9 d h (omega arith)) ∙ kind-of n in
    rw (eq-eqb (length s % 10) 0 z, lt-ltb k (length s / 10) q, w0, w4, b8, b9)
    (note-back n.row n.column n.kind n.tail m.column m.row m.tail)
