-- The records from one on, of notes and of presses: the next of them, and their end.
use mathlib.Core.Path.{◌≡◌, ap, sym, ◌∙◌}
use mathlib.Core.Bool.{Bool, true, false, ◌&&◌}
use Rattle.std.specs.Prelude.{Ok, IfOk}
use mathlib.Core.List.{List, [], ◌∷◌}
use Prim.Native.Nat.{ℕ, suc, ◌+◌, ◌*◌, ◌-◌, ◌/◌, ◌≤◌, ◌<◌}
use native.Mathlib.Omega.{arith}
use lib.ListN.{length, get_or}
use Rattle.definitions.specs.Records.{note_of_record}
use Rattle.definitions.specs.Written.{note_and, notes_from_record, notes_in}
use Rattle.definitions.specs.Presses.{press_at, presses_from, presses_in, is_played, same_place}
use Rattle.definitions.specs.Lists.{before}
use Rattle.definitions.specs.declared.Press.{Press}
use Rattle.definitions.specs.declared.Note.{Note}
use Rattle.note_records.specs.Chunks.{ten_bytes, note_of_bytes}
use Rattle.note_records.specs.Limits.{Limited}
use Rattle.note_records.proofs.Chunks.{chunks-count, chunk-at, chunks-length, chunk-byte, chunk-word}
use Rattle.note_records.proofs.Kept.{in-records, chunk-record, chunk-is}
use Rattle.definitions.proofs.WriterMakes.{no_note}
use Rattle.definitions.specs.PressClaims.{press_on}
use Rattle.presses.proofs.Read.{of-note}
use Rattle.presses.proofs.Walk.{past-on, past-here}
use Rattle.presses.specs.Reached.{left_from, past, met, five_bytes}

one-less : (n k : ℕ) → k < n → n - k ≡ suc (n - (k + 1))
one-less n k h = omega arith

next-is : (k : ℕ) → suc k ≡ k + 1
next-is k = omega arith

pub left-next : (s : List ℕ) (k : ℕ) → k < length s / 10 → left_from s k ≡ note_and (note_of_record s k) (left_from s (k + 1))
left-next s k h =
    ap (notes_from_record s k) (one-less (length s / 10) k h)
    ∙ ap (λ j. note_and (note_of_record s k) (notes_from_record s j (length s / 10 - (k + 1)))) (next-is k)

pub left-end : (s : List ℕ) (k : ℕ) → length s / 10 ≤ k → left_from s k ≡ []
left-end s k h = let e : length s / 10 - k ≡ 0 = omega arith in ap (notes_from_record s k) e

-- the presses of a trace from press k on
abbrev pub to_come : List ℕ → ℕ → List Press
to_come t k = presses_from t k (length t / 5 - k)

pub come-next : (t : List ℕ) (k : ℕ) → k < length t / 5 → to_come t k ≡ press_at t k ∷ to_come t (k + 1)
come-next t k h =
    ap (presses_from t k) (one-less (length t / 5) k h)
    ∙ ap (λ j. press_at t k ∷ presses_from t j (length t / 5 - (k + 1))) (next-is k)

pub come-end : (t : List ℕ) (k : ℕ) → length t / 5 ≤ k → to_come t k ≡ []
come-end t k h = let e : length t / 5 - k ≡ 0 = omega arith in ap (presses_from t k) e

pub all-left : (s : List ℕ) → left_from s 0 ≡ notes_in s
unfolding notes_in
all-left s = let e : length s / 10 - 0 ≡ length s / 10 = omega arith in ap (notes_from_record s 0) e

pub left-ok : (s : List ℕ) (k : ℕ) → k < length s / 10 → (n : Note) → note_of_record s k ≡ Ok n → left_from s k ≡ n ∷ left_from s (k + 1)
left-ok s k h n e = left-next s k h ∙ ap (λ r. note_and r (left_from s (k + 1))) e

pub all-come : (t : List ℕ) → to_come t 0 ≡ presses_in t
unfolding presses_in
all-come t = let e : length t / 5 - 0 ≡ length t / 5 = omega arith in ap (presses_from t 0) e

-- the chunks of five bytes are the press records
module _ (t : List ℕ) {chunks : List (List ℕ)} (e : chunks ≡ five_bytes t) where
  pub in-trace : {k : ℕ} → k < length chunks → k < length t / 5
  in-trace h = omega (arith, h, ap length e, chunks-length 5 (length t / 5) t)

  pub trace-over : {k : ℕ} → length chunks ≤ k → length t / 5 ≤ k
  trace-over h = omega (arith, h, ap length e, chunks-length 5 (length t / 5) t)

  pub press-read : (k : ℕ) → k < length chunks → press_at (get_or chunks k []) 0 ≡ press_at t k
  unfolding press_at
  press-read k h =
      ap (λ l. press_at (get_or l k []) 0) e
      ∙ ap (λ r. press_at r 0) (chunk-at 5 (length t / 5) k t (in-trace h))
      ∙ made (chunk-word 5 (k * 5) 0 (k * 5) t (omega arith) (omega arith)) (chunk-byte 5 (k * 5) 4 (k * 5 + 4) t (omega arith) (omega arith))
    where
      made : {a b c d : ℕ} → a ≡ b → c ≡ d → ◌≡◌ {A = Press} (record { row = a; column = c }) (record { row = b; column = d })
      made p q = cc

  pub come-is : (k : ℕ) → k < length chunks → (p : Press) → p ≡ press_at (get_or chunks k []) 0 → to_come t k ≡ p ∷ to_come t (k + 1)
  come-is k h p f = come-next t k (in-trace h) ∙ ap (λ q. q ∷ to_come t (k + 1)) (sym (f ∙ press-read k h))

  pub come-over : (k : ℕ) → length chunks ≤ k → to_come t k ≡ []
  come-over k h = come-end t k (trace-over h)

-- the chunks of ten bytes are the note records
module _ {s : List ℕ} {chunks : List (List ℕ)} (x : Limited s) (e : chunks ≡ ten_bytes s) (k : ℕ) where
  -- the note of record k
  abbrev note_k : Note
  note_k = get_or (notes_in s) k no_note

  pub left-here : k < length chunks → left_from s k ≡ note_k ∷ left_from s (k + 1)
  left-here h = left-ok s k (in-records s x.whole e k h) note_k (sym (chunk-record s x.whole e k h) ∙ chunk-is x e k h)

  pub left-over : length chunks ≤ k → left_from s k ≡ []
  left-over h = left-end s k (omega (arith, h, ap length e, chunks-count s))

  -- where the press on it is told
  module _ (h : k < length chunks) (p there : Press) (on : IfOk (note_of_bytes (get_or chunks k [])) (λ n. there ≡ press_on n)) where
    on-k : there ≡ press_on note_k
    on-k = of-note (λ n. there ≡ press_on n) (note_of_bytes (get_or chunks k [])) note_k (chunk-is x e k h) on

    pub past-record : before there.row there.column p.row p.column ≡ true → past p (left_from s k) ≡ past p (left_from s (k + 1))
    past-record b = ap (past p) (left-here h) ∙ past-on p note_k (left_from s (k + 1)) (ap (λ (q : Press). before q.row q.column p.row p.column) (sym on-k) ∙ b)

    pub at-record : before there.row there.column p.row p.column ≡ false → past p (left_from s k) ≡ left_from s k
    at-record b =
        ap (past p) (left-here h)
        ∙ past-here p note_k (left_from s (k + 1)) (ap (λ (q : Press). before q.row q.column p.row p.column) (sym on-k) ∙ b)
        ∙ sym (left-here h)

    pub met-record : (played : Bool) → IfOk (note_of_bytes (get_or chunks k [])) (λ n. played ≡ is_played n.kind) → met p (left_from s k) ≡ (played && same_place there.row there.column p.row p.column)
    met-record played f =
        let same : played ≡ is_played note_k.kind = of-note (λ n. played ≡ is_played n.kind) (note_of_bytes (get_or chunks k [])) note_k (chunk-is x e k h) f in
        ap (met p) (left-here h) ∙ rw same (ap (λ (q : Press). is_played note_k.kind && same_place q.row q.column p.row p.column) (sym on-k))
