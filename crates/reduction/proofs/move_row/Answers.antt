-- `reduction::move_row` meets its contract: the last four bytes follow on those before them or overlap them, and all are read as they stood.
use mathlib.Core.Path.{◌≡◌, sym, ap, ◌∙◌}
use mathlib.Core.List.{List}
use Prim.Native.Nat.{ℕ, ◌+◌, ◌-◌, ◌≤◌, ◌<◌}
use native.Mathlib.Omega.{arith}
use lib.ListN.{length, drop, length-drop}
use lib.Seq.{paste}
use Rattle.reduction.proofs.Moves.{moved-within, Front, front_of, front-four, front-eight, front-last, source_stays}
use Rattle.cells.proofs.Ends.{between}
use Rattle.reduction.proofs.move_row.Goals as goal
use Rattle.reduction.proofs.move_row.Goals.{then-width-gt8, else-width-gt8}

module _ (text : List ℕ) (from to width : ℕ) (range : (4 ≤ width) × (width ≤ 12)) (apart : (to + width ≤ from) × (from + width ≤ length text)) where
  hs : width ≤ length (drop from text)
  hs = rw length-drop (omega (arith, apart))

  hd : to + width ≤ length text
  hd = omega (arith, apart)

  -- what stands before the last four: eight where there are more,
  eight : {four after : List ℕ} → four ≡ paste text to (drop from text) 4 → after ≡ paste four (to + 4) (drop (from + 4) four) 4 → 8 < width
      → Front text to (drop from text) width after
  eight e f more =
      front_of text to (drop from text) width hs hd
      (f
      ∙ ap (λ (t : List ℕ). paste t (to + 4) (drop (from + 4) t) 4) e
      ∙ ap (λ (l : List ℕ). paste (paste text to (drop from text) 4) (to + 4) l 4)
      (source_stays text from to 4 4 (omega (arith, range, apart)) (omega (arith, range, apart))))
      (front-eight text to (drop from text) width hs hd more range.1)

  -- and else the first four;
  four : {after : List ℕ} → after ≡ paste text to (drop from text) 4 → width ≤ 8 → Front text to (drop from text) width after
  four e few = front_of text to (drop from text) width hs hd e (front-four text to (drop from text) width hs hd range.0 few)

  -- and with them the last four
  with-last : {front : List ℕ} → Front text to (drop from text) width front
      → paste front (to + (width - 4)) (drop (from + (width - 4)) front) 4 ≡ paste text to (drop from text) width
  with-last {front} f =
      ap (λ (l : List ℕ). paste front (to + (width - 4)) l 4) source
      ∙ front-last text to (drop from text) width hs hd f range.0
    where
      source : drop (from + (width - 4)) front ≡ drop (width - 4) (drop from text)
      source =
          ap (drop (from + (width - 4))) f.is
          ∙ source_stays text from to f.bytes (width - 4) (omega (arith, f.within, apart)) (omega (arith, f.within, apart))

pub returns : goal.returns
returns c =
    let range : (4 ≤ c.args.width) × (c.args.width ≤ 12) = between c.args.width c.if-width.false in
    let first = c.move_four.ensures ∙ sym (moved-within c.args.text.now c.args.from c.args.to 4) in
    let front : Front c.args.text.now c.args.to (drop c.args.from c.args.text.now) c.args.width c.if-width-gt8.text =
    elim c.if-width-gt8.branch [
      | then-width-gt8 w ↦
          eight c.args.text.now c.args.from c.args.to c.args.width range (c.requires.apart, c.requires.from_within) first (w.text-is ∙ w.move_four-then-width-gt8.ensures ∙ sym (moved-within _ (c.args.from + 4) (c.args.to + 4) 4)) w.if-width-gt8.true
      | else-width-gt8 w ↦ four c.args.text.now c.args.from c.args.to c.args.width range (c.requires.apart, c.requires.from_within) (w.text-is ∙ first) w.if-width-gt8.false
    ] in
    c.move_four-2.ensures
    ∙ sym (moved-within _ (c.args.from + (c.args.width - 4)) (c.args.to + (c.args.width - 4)) 4)
    ∙ with-last c.args.text.now c.args.from c.args.to c.args.width range (c.requires.apart, c.requires.from_within) front
    ∙ moved-within c.args.text.now c.args.from c.args.to c.args.width
