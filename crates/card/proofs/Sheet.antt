-- A text of at most 4,095 bytes is accepted with the slices that the card lends, and its sheet is what the call leaves.
use Rattle.std.specs.Prelude.{Result, Ok, Err}
use mathlib.Core.Path.{◌≡◌, refl, ap, sym, ◌∙◌}
use mathlib.Core.List.{List}
use Prim.Native.Nat.{ℕ, ◌+◌, ◌*◌, ◌/◌, ◌≤◌}
use native.Mathlib.Omega.{arith}
use borrow.Author.Tests.{le-ltb}
use lib.Ieee.{Float}
use lib.ListN.{length, get_or, take, length-append, length-replicate}
use lib.Seq.{take_at}
use Rattle.definitions.specs.Sizes.{most_bytes}
use Rattle.definitions.specs.Lists.{padded}
use Rattle.definitions.specs.Lanes.{is_lane_count, most_rows_in}
use Rattle.definitions.specs.Refusals.{other_lanes, long_text, short_text, short_measures, short_beats, short_work, short_notes, leaves}
use Rattle.definitions.specs.declared.Refusal.{Refusal}
use Rattle.sheet.specs.Card.{sheet}
use Rattle.chart_sheet.specs.Forms.{sheet_in_form}
use Rattle.chart_sheet.specs.Entry.{short_sheet, other_form, places_of_sheet, sheet_answer}

rows-most : (len : ℕ) → len ≤ 4095 → most_rows_in 4 len ≤ 819
unfolding most_rows_in
rows-most len h = omega arith

-- the call accepts, by the lengths that the card's arrays have
pub answer_is : (text out ds ss : List ℕ) (bs : List Float) (work ns sh : List ℕ) → length text ≤ 4095 → 4096 ≡ length out → 2049 ≡ length ds
    → 2049 ≡ length ss → 819 ≡ length bs → 819 ≡ length work → 32760 ≡ length ns → 175032 ≤ length sh
    → sheet_answer 4 0 text out ds ss bs work ns sh ≡ Ok (places_of_sheet 0 4 text)
unfolding sheet_answer other_lanes long_text short_text short_measures short_beats short_work short_notes short_sheet other_form is_lane_count
answer_is text out ds ss bs work ns sh h o d s b w n g =
    let few : most_rows_in 4 (length text) ≤ 819 = rows-most (length text) h in
    simp (
      le-ltb most_bytes (length text) (omega arith),
      le-ltb (length out) (length text + 1) (omega arith),
      le-ltb (length ds) ((length text + 1) / 2 + 1) (omega arith),
      le-ltb (length ss) ((length text + 1) / 2 + 1) (omega arith),
      le-ltb (length bs) (most_rows_in 4 (length text)) (omega arith),
      le-ltb (length work) (most_rows_in 4 (length text)) (omega arith),
      le-ltb (length ns) (10 * 4 * most_rows_in 4 (length text)) (omega arith),
      le-ltb (length sh) (42 * (length text + 1) + 3000) (omega arith),
    )

-- an answer that was padded to n bytes has at most n
padded-fits : (l : List ℕ) (n : ℕ) → length (padded 0 n l) ≡ n → length l ≤ n
padded-fits l n e = omega (arith, simp (length-append, length-replicate) at e)

module _ (text out ds ss : List ℕ) (bs : List Float) (work ns sh : List ℕ)
    (accepted : sheet_answer 4 0 text out ds ss bs work ns sh ≡ Ok (places_of_sheet 0 4 text)) where
  left : {r : Result (List ℕ) Refusal} {f : List ℕ} → r ≡ Ok f → leaves 0 r (sheet_in_form 0 4 text) sh ≡ padded 0 (length sh) (sheet 4 text)
  unfolding sheet_in_form
  left e = rw e refl

  count : get_or (places_of_sheet 0 4 text) 7 0 ≡ length (sheet 4 text)
  unfolding sheet_in_form
  count = refl

  module _ {r : Result (List ℕ) Refusal} (told : r ≡ sheet_answer 4 0 text out ds ss bs work ns sh) where
    -- it is not refused
    pub not-refused : {e : Refusal} → r ≡ Err e → ⊥
    not-refused e = cc (told, accepted, e)

    pub taken : {h f : List ℕ} → h ≡ leaves 0 r (sheet_in_form 0 4 text) sh → r ≡ Ok f
        → length h ≡ length sh → (get_or f 7 0 ≤ length h) × (take (get_or f 7 0) h ≡ sheet 4 text)
    taken {h} {f} h-is f-is same =
        let places : f ≡ places_of_sheet 0 4 text = cc (told, accepted, f-is) in
        let n : get_or f 7 0 ≡ length (sheet 4 text) = ap (λ (l : List ℕ). get_or l 7 0) places ∙ count in
        let padded-is : h ≡ padded 0 (length sh) (sheet 4 text) = h-is ∙ left f-is in
        let fits = padded-fits (sheet 4 text) (length sh) (ap length (sym padded-is) ∙ same) in
        (omega (arith, n, fits, same), ap (take (get_or f 7 0)) padded-is ∙ take_at (sheet 4 text) _ (get_or f 7 0) (sym n))
