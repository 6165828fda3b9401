-- The card's lines of what the main call and the spacing scan left are the specification's lines of the text.
use mathlib.Core.Path.{◌≡◌, refl, ap, ◌∙◌}
use mathlib.Core.List.{List, [], ◌∷◌, ◌++◌, map, append-nil}
use Rattle.std.specs.Prelude.{Some}
use Prim.Native.Nat.{ℕ, zero, suc, ◌≤◌, ◌<◌}
use native.Mathlib.Omega.{arith}
use lib.ListN.{length, take}
use Rattle.std.specs.Prelude.{slice_get}
use lib.Seq.{take-length}
use Rattle.definitions.specs.Sizes.{most_bytes}
use Rattle.definitions.specs.Lists.{joined}
use Rattle.definitions.specs.Figures.{densities, spacings}
use Rattle.definitions.specs.Notes.{notes}
use Rattle.definitions.specs.Records.{records}
use Rattle.definitions.specs.WriterMakes.{ReadsBack}
use Rattle.definitions.specs.declared.Note.{Note}
use Rattle.reduction.proofs.Blocks.{joined-append}
use Rattle.definitions.proofs.WriterMakes.{records-read}
use Rattle.sheet.specs.Sheet.{line_of_note, lines_of_records, sheet_of}
use Rattle.sheet.specs.Card.{note_lines, sheet}
use Rattle.definitions.specs.Entries.{figures_of_chart}

map_snoc : (ns : List Note) (n : Note) → map line_of_note (ns ++ (n ∷ [])) ≡ map line_of_note ns ++ (line_of_note n ∷ [])
map_snoc [] n = refl
map_snoc (m ∷ ns) n = ap (λ (l : List (List ℕ)). line_of_note m ∷ l) (map_snoc ns n)

take_more : (ns : List Note) (k : ℕ) (n : Note) → slice_get ns k ≡ Some n → take (suc k) ns ≡ take k ns ++ (n ∷ [])
take_more [] k n e = let z : ◌≡◌ {A = ℕ} 0 1 = cc in absurd (omega arith)
take_more (m ∷ ns) zero n e = cc
take_more (m ∷ ns) (suc k) n e = ap (λ (l : List Note). m ∷ l) (take_more ns k n e)

-- the records' lines are the notes'
record-lines : (ns : List Note) (k : ℕ) → k ≤ length ns → ((j : ℕ) → j < length ns → ReadsBack ns j)
    → lines_of_records (records ns) k ≡ joined (map line_of_note (take k ns))
record-lines ns zero h back = refl
record-lines ns (suc k) h back =
    let b : ReadsBack ns k = back k (omega arith) in
    rw (record-lines ns k (omega arith) back, b.read, take_more ns k b.note b.stands, map_snoc, joined-append, append-nil)

module _ (L : ℕ) (some : 1 ≤ L) (ten : L ≤ 10) (text : List ℕ) (short : length text ≤ most_bytes) where
  note-lines-read : lines_of_records (records (notes L text)) (length (notes L text)) ≡ note_lines (notes L text)
  unfolding note_lines
  note-lines-read =
      record-lines (notes L text) (length (notes L text)) (omega arith) (records-read L some ten text short)
      ∙ ap (λ (l : List Note). joined (map line_of_note l)) (take-length (notes L text))

  pub card-lines : sheet_of (figures_of_chart L text) (densities L text) (spacings L text) (records (notes L text))
      ≡ sheet L text
  unfolding sheet_of sheet figures_of_chart
  card-lines = rw note-lines-read
