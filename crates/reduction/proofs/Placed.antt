-- Laws of a text with other bytes from a place on.
use mathlib.Core.Path.{◌≡◌, ap, sym, ◌∙◌}
use mathlib.Core.List.{List, ◌++◌, append_assoc}
use Prim.Native.Nat.{ℕ, ◌+◌, ◌-◌, ◌≤◌}
use native.Mathlib.Nat.{add_assoc}
use native.Mathlib.Omega.{arith}
use lib.ListN.{length, take, drop, length-append, length-drop, take-append-drop}
use lib.Seq.{paste, take_at, drop_at, drop-drop, length-take-le}
use Rattle.reduction.specs.Rows.{placed}

-- up to the end of the new bytes
pub placed-front : (start : ℕ) (bytes text : List ℕ) → start ≤ length text
    → take (start + length bytes) (placed start bytes text) ≡ take start text ++ bytes
placed-front start bytes text h =
    rw (← append_assoc (take start text) bytes (drop (start + length bytes) text))
    (take_at (take start text ++ bytes) _ (start + length bytes) (simp (length-append, length-take-le start text h)))

-- past the new bytes
pub placed_past : (start : ℕ) (bytes text : List ℕ) (k : ℕ) → start ≤ length text → start + length bytes ≤ k
    → drop k (placed start bytes text) ≡ drop k text
placed_past start bytes text k h l =
    ap (λ (m : ℕ). drop m (placed start bytes text)) place
    ∙ sym (drop-drop (k - (start + length bytes)) (start + length bytes) (placed start bytes text))
    ∙ ap (drop (k - (start + length bytes))) end
    ∙ drop-drop (k - (start + length bytes)) (start + length bytes) text
    ∙ ap (λ (m : ℕ). drop m text) (sym place)
  where
    place : k ≡ start + length bytes + (k - (start + length bytes))
    place = omega arith

    end : drop (start + length bytes) (placed start bytes text) ≡ drop (start + length bytes) text
    end =
        rw (← append_assoc (take start text) bytes (drop (start + length bytes) text))
        (drop_at (take start text ++ bytes) _ (start + length bytes) (simp (length-append, length-take-le start text h)))

pub placed-length : (start : ℕ) (bytes text : List ℕ) → start + length bytes ≤ length text → length (placed start bytes text) ≡ length text
placed-length start bytes text h =
    let low : start ≤ length text = omega arith in
    simp (length-append, length-take-le start text low, length-drop) (omega arith)

-- bytes that stood there
pub placed_same : (start n : ℕ) (text : List ℕ) → start + n ≤ length text → placed start (take n (drop start text)) text ≡ text
placed_same start n text h =
    let room : n ≤ length (drop start text) = simp length-drop (omega arith) in
    rw (length-take-le n (drop start text) room, ← drop-drop n start text, take-append-drop) (take-append-drop start text)

-- a part from further on moved to the end of the new bytes
pub placed-more : (start : ℕ) (bytes text : List ℕ) (from w : ℕ) → start + length bytes ≤ from → from + w ≤ length text
    → paste (placed start bytes text) (start + length bytes) (drop from (placed start bytes text)) w
    ≡ placed start (bytes ++ take w (drop from text)) text
placed-more start bytes text from w h l =
    let low : start ≤ length text = omega arith in
    let room : w ≤ length (drop from text) = simp length-drop (omega arith) in
    rw (
      placed-front start bytes text low,
      placed_past start bytes text from low h,
      placed_past start bytes text (start + length bytes + w) low (omega arith),
      length-append bytes (take w (drop from text)),
      length-take-le w (drop from text) room,
    )
    (simp (append_assoc, add_assoc))
