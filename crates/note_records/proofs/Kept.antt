-- Records that keep the limits, chunk by chunk: each is read as its note; and 8, from the first record on.
use mathlib.Core.Path.{◌≡◌, ap, sym, ◌∙◌, subst}
use mathlib.Core.Bool.{true, false, not, ◌||◌}
use mathlib.Core.List.{List, [], ◌∷◌}
use Rattle.std.specs.Prelude.{Result, Ok, is_err}
use Prim.Native.Nat.{ℕ, zero, suc, ◌+◌, ◌*◌, ◌≤◌, ◌<◌, ◌/◌, ◌%◌}
use native.Mathlib.Nat.{zero-add}
use native.Mathlib.Omega.{arith}
use lib.Dec.{eqb}
use lib.ListN.{length, drop, get_or, length-drop}
use lib.Seq.{length-take-le}
use Rattle.std.specs.Simd.{first_chunks}
use Rattle.definitions.specs.Records.{note_of_record}
use Rattle.definitions.specs.WriterMakes.{Made}
use Rattle.definitions.specs.Written.{note_and, notes_from_record, notes_in, some_breaks, uneven_records, broken_records}
use Rattle.definitions.specs.declared.Note.{Note}
use Rattle.definitions.specs.declared.Refusal.{Refusal}
use Rattle.definitions.proofs.Lists.{All, one}
use Rattle.definitions.proofs.ReadBack.{all-at}
use Rattle.definitions.proofs.WriterMakes.{no_note}
use Rattle.definitions.proofs.Written.Records.{is-even, Holds, holds}
use Rattle.note_records.specs.Chunks.{ten_bytes, note_of_bytes}
use Rattle.note_records.specs.Limits.{Limited}
use Rattle.note_records.proofs.Chunks.{chunks-count, chunk-read}

pub held : {s : List ℕ} → Limited s → Holds s
held k = holds _ k.whole k.limits

-- note number i, which keeps the limits
pub record NoteAt (ns : List Note) (i : ℕ) (n : Note) : Type 0 where
  pub within : i < length ns
  pub same : n ≡ get_or ns i no_note
  pub made : Made n

-- record i is read as its chunk is
module _ (s : List ℕ) (whole : uneven_records s ≡ false) {chunks : List (List ℕ)} (e : chunks ≡ ten_bytes s) (i : ℕ) (h : i < length chunks) where
  pub in-records : i < length s / 10
  in-records = omega (arith, h, ap length e, chunks-count s)

  pub chunk-record : note_of_bytes (get_or chunks i []) ≡ note_of_record s i
  chunk-record = ap (λ l. note_of_bytes (get_or l i [])) e ∙ chunk-read s i (is-even s whole) in-records

-- the chunks of ten bytes are the records: each keeps the limits, and is read as its note
module _ {s : List ℕ} {chunks : List (List ℕ)} (k : Limited s) (e : chunks ≡ ten_bytes s) (i : ℕ) (h : i < length chunks) where
  pub chunk-is : note_of_bytes (get_or chunks i []) ≡ Ok (get_or (notes_in s) i no_note)
  chunk-is = chunk-record s k.whole e i h ∙ (held k).each i no_note (in-records s k.whole e i h)

  pub chunk-kept : is_err (note_of_bytes (get_or chunks i [])) ≡ false
  chunk-kept = ap is_err chunk-is

  pub chunk-note : (n : Note) → note_of_bytes (get_or chunks i []) ≡ Ok n → NoteAt (notes_in s) i n
  chunk-note n f =
      let w : i < length (notes_in s) = omega (arith, in-records s k.whole e i h, (held k).size) in
      let g : n ≡ get_or (notes_in s) i no_note = ok (sym f ∙ chunk-is) in
      record { within = w; same = g; made = subst Made (sym g) (all-at (notes_in s) no_note i (held k).made w) }
    where
      ok : {x y : Note} → ◌≡◌ {A = Result Note Refusal} (Ok x) (Ok y) → x ≡ y
      ok e = cc

-- past the last chunk is past the last note
pub past-chunks : {s : List ℕ} {chunks : List (List ℕ)} {i : ℕ} → Limited s → chunks ≡ ten_bytes s → length chunks ≤ i → length (notes_in s) ≤ i
past-chunks {s} k e h = omega (arith, h, ap length e, chunks-count s, (held k).size)

-- ---- 8, from the first record on
pub record KeptFrom (s : List ℕ) (i : ℕ) : Type 0 where
  pub within : i ≤ length s / 10
  pub same : (m : ℕ) → i + m ≡ length s / 10 → broken_records s ≡ some_breaks s i m

pub kept-first : (s : List ℕ) → KeptFrom s 0
unfolding broken_records
kept-first s = record { within = omega arith; same = λ m e. ap (some_breaks s 0) (sym (sym (zero-add m) ∙ e)) }

module _ {s : List ℕ} {i : ℕ} (k : KeptFrom s i) (whole : uneven_records s ≡ false) {chunks : List (List ℕ)} (e : chunks ≡ ten_bytes s) where
  module _ (h : i < length chunks) where
    here : i < length s / 10
    here = in-records s whole e i h

    read-here : is_err (note_of_record s i) ≡ is_err (note_of_bytes (get_or chunks i []))
    read-here = ap is_err (sym (chunk-record s whole e i h))

    pub kept-next : is_err (note_of_bytes (get_or chunks i [])) ≡ false → KeptFrom s (i + 1)
    kept-next f =
        record {
          within = omega (arith, here);
          same = λ m q. k.same (suc m) (omega arith) ∙ ap (λ b. b || some_breaks s (suc i) m) (read-here ∙ f) ∙ next m;
        }
      where
        next : (m : ℕ) → (false || some_breaks s (suc i) m) ≡ some_breaks s (i + 1) m
        next m = let z : suc i ≡ i + 1 = omega arith in ap (λ k. some_breaks s k m) z

    pub kept-broken : is_err (note_of_bytes (get_or chunks i [])) ≡ true → broken_records s ≡ true
    kept-broken f = some (left i (length s / 10) here)
      where
        left : (i n : ℕ) → i < n → (m : ℕ) × (i + suc m ≡ n)
        left i zero h = absurd (omega arith)
        left zero (suc n) h = (n, omega arith)
        left (suc i) (suc n) h = let r = left i n (omega arith) in (r.0, let e = r.1 in omega arith)

        some : (m : ℕ) × (i + suc m ≡ length s / 10) → broken_records s ≡ true
        some m = k.same (suc m.0) m.1 ∙ ap (λ b. b || some_breaks s (suc i) m.0) (read-here ∙ f)

  pub kept-all : length chunks ≤ i → broken_records s ≡ false
  kept-all h = k.same 0 (omega (arith, k.within, h, ap length e, chunks-count s))

-- a chunk has ten bytes
pub chunk-ten : (s : List ℕ) {chunks : List (List ℕ)} {i : ℕ} → chunks ≡ ten_bytes s → i < length chunks → length (get_or chunks i []) ≡ 10
chunk-ten s {chunks} {i} e h = ap (λ l. length (get_or l i [])) e ∙ go (length s / 10) i s (omega (arith, h, ap length e, chunks-count s)) (omega arith)
  where
    go : (n k : ℕ) (s : List ℕ) → k < n → n * 10 ≤ length s → length (get_or (first_chunks 10 n s) k []) ≡ 10
    go zero k s h q = absurd (omega arith)
    go (suc n) zero s h q = length-take-le 10 s (omega arith)
    go (suc n) (suc k) s h q = go n k (drop 10 s) (omega arith) (omega (arith, length-drop 10 s))

-- what is read of ten bytes keeps the limits
pub made-of-ten : (b : List ℕ) (n : Note) → length b ≡ 10 → note_of_bytes b ≡ Ok n → Made n
unfolding note_of_record notes_in uneven_records broken_records
made-of-ten b n ten e = first (subst (All Made) alone (holds b whole (ap (λ k. some_breaks b 0 (k / 10)) ten ∙ ap (λ r. is_err r || false) read)).made)
  where
    whole : uneven_records b ≡ false
    whole = ap (λ k. not (eqb (k % 10) 0)) ten

    read : note_of_record b 0 ≡ Ok n
    read = rw ten e

    alone : notes_in b ≡ n ∷ []
    alone = ap (λ k. notes_from_record b 0 (k / 10)) ten ∙ ap (λ r. note_and r []) read

    first : All Made (n ∷ []) → Made n
    first (one m a) = m
