-- Bytes moved to an earlier place of the same text.
use mathlib.Core.Path.{◌≡◌, refl, sym, ◌∙◌, ap}
use mathlib.Core.List.{List, ◌++◌, append_assoc}
use Prim.Native.Nat.{ℕ, suc, ◌+◌, ◌-◌, ◌<◌, ◌≤◌}
use native.Mathlib.Nat.{add-zero, add_assoc, add-sub_cancel_left}
use Rattle.std.specs.List.{copy_within}
use native.Mathlib.Omega.{arith}
use lib.ListN.{length, take, drop, get_or, set, length-drop}
use lib.Seq.{paste, paste-zero, paste-suc, take-paste, drop-paste, length_paste_head, take-take, take-add, take_at, drop-drop, get_or-drop}

-- what std says of a move
pub moved-within : (t : List ℕ) (from to n : ℕ) → paste t to (drop from t) n ≡ copy_within t from (from + n) to
moved-within t from to n = rw add-sub_cancel_left refl

-- four bytes, all read before one is written
pub four-pasted : (d : List ℕ) (at : ℕ) (r : List ℕ) (from : ℕ) → from + 4 ≤ length r → at + 4 ≤ length d
    → set (set (set (set d at (get_or r from 0)) (at + 1) (get_or r (from + 1) 0)) (at + 2) (get_or r (from + 2) 0)) (at + 3) (get_or r (from + 3) 0) ≡ paste d at (drop from r) 4
four-pasted d at r from h k =
    ap (λ (l : List ℕ). set (set (set l (at + 1) (get_or r (from + 1) 0)) (at + 2) (get_or r (from + 2) 0)) (at + 3) (get_or r (from + 3) 0)) first
    ∙ ap (λ (l : List ℕ). set (set l (at + 2) (get_or r (from + 2) 0)) (at + 3) (get_or r (from + 3) 0)) (turn 1 (omega arith))
    ∙ ap (λ (l : List ℕ). set l (at + 3) (get_or r (from + 3) 0)) (turn 2 (omega arith))
    ∙ turn 3 (omega arith)
  where
    turn : (n : ℕ) → n < 4 → set (paste d at (drop from r) n) (at + n) (get_or r (from + n) 0) ≡ paste d at (drop from r) (suc n)
    turn n z =
        ap (set (paste d at (drop from r) n) (at + n)) (sym (get_or-drop from r n 0))
        ∙ paste-suc d at (drop from r) n 0 (omega arith) (rw length-drop (omega arith))

    first : set d at (get_or r from 0) ≡ paste d at (drop from r) 1
    first =
        ap (λ (l : List ℕ). set l at (get_or r from 0)) (paste-zero d at (drop from r))
        ∙ ap (λ (n : ℕ). set (paste d at (drop from r) 0) n (get_or r from 0)) (sym (add-zero at))
        ∙ ap (λ (n : ℕ). set (paste d at (drop from r) 0) (at + 0) (get_or r n 0)) (sym (add-zero from))
        ∙ turn 0 (omega arith)

-- a part that begins within what is pasted and ends past it
pub paste-over : (d : List ℕ) (at : ℕ) (s : List ℕ) (j k m : ℕ) → j ≤ k → k ≤ j + m → j + m ≤ length s → at + (j + m) ≤ length d
    → paste (paste d at s k) (at + j) (drop j s) m ≡ paste d at s (j + m)
paste-over d at s j k m hj hk hs hd =
    rw (front, back, take-add j m s) (simp (append_assoc, add_assoc))
  where
    low : at ≤ length d
    low = omega arith

    split : k ≡ j + (k - j)
    split = omega arith

    front : take (at + j) (paste d at s k) ≡ take at d ++ take j s
    front =
        sym (take-take (at + j) (at + k) (paste d at s k) (omega arith))
        ∙ ap (take (at + j)) (take-paste d at s k low (omega arith))
        ∙ ap (λ (n : ℕ). take (at + j) (take at d ++ take n s)) split
        ∙ ap (λ (l : List ℕ). take (at + j) (take at d ++ l)) (take-add j (k - j) s)
        ∙ ap (take (at + j)) (sym (append_assoc (take at d) (take j s) (take (k - j) (drop j s))))
        ∙ take_at (take at d ++ take j s) (take (k - j) (drop j s)) (at + j) (length_paste_head d at s j low (omega arith))

    place : (at + j) + m ≡ (at + k) + ((j + m) - k)
    place = omega arith

    back : drop ((at + j) + m) (paste d at s k) ≡ drop ((at + j) + m) d
    back =
        ap (λ (n : ℕ). drop n (paste d at s k)) place
        ∙ sym (drop-drop ((j + m) - k) (at + k) (paste d at s k))
        ∙ ap (drop ((j + m) - k)) (drop-paste d at s k low (omega arith))
        ∙ drop-drop ((j + m) - k) (at + k) d
        ∙ ap (λ (n : ℕ). drop n d) (sym place)

-- what is moved to a place before it has not been written over
pub source_stays : (t : List ℕ) (from to k j : ℕ) → to + k ≤ from → from + k ≤ length t
    → drop (from + j) (paste t to (drop from t) k) ≡ drop j (drop from t)
source_stays t from to k j h l =
    ap (λ (n : ℕ). drop n (paste t to (drop from t) k)) place
    ∙ sym (drop-drop ((from + j) - (to + k)) (to + k) (paste t to (drop from t) k))
    ∙ ap (drop ((from + j) - (to + k))) (drop-paste t to (drop from t) k (omega arith) (rw length-drop (omega arith)))
    ∙ drop-drop ((from + j) - (to + k)) (to + k) t
    ∙ ap (λ (n : ℕ). drop n t) (sym place)
    ∙ sym (drop-drop j from t)
  where
    place : from + j ≡ (to + k) + ((from + j) - (to + k))
    place = omega arith

-- Of `width` bytes, so many stand at their place that four more, the last, are all.
pub record Front (d : List ℕ) (at : ℕ) (s : List ℕ) (width : ℕ) (text : List ℕ) : Type 0 where
  pub bytes : ℕ
  pub near : width ≤ bytes + 4
  pub within : bytes ≤ width
  pub is : text ≡ paste d at s bytes

module _ (d : List ℕ) (at : ℕ) (s : List ℕ) (width : ℕ) (hs : width ≤ length s) (hd : at + width ≤ length d) where
  pub front_of : {text after : List ℕ} → after ≡ text → Front d at s width text → Front d at s width after
  front_of e f = record { bytes = f.bytes; near = f.near; within = f.within; is = e ∙ f.is }

  -- the first four, where there are up to eight
  pub front-four : 4 ≤ width → width ≤ 8 → Front d at s width (paste d at s 4)
  front-four l h = record { bytes = 4; near = h; within = l; is = refl }

  -- and four more, where there are up to twelve
  pub front-eight : 8 < width → width ≤ 12 → Front d at s width (paste (paste d at s 4) (at + 4) (drop 4 s) 4)
  front-eight l h =
      record { bytes = 8; near = h; within = omega arith; is = paste-over d at s 4 4 4 (omega arith) (omega arith) (omega arith) (omega arith) }

  -- the last four
  pub front-last : {text : List ℕ} → Front d at s width text → 4 ≤ width → paste text (at + (width - 4)) (drop (width - 4) s) 4 ≡ paste d at s width
  front-last f l =
      let all : (width - 4) + 4 ≡ width = omega arith in
      ap (λ (t : List ℕ). paste t (at + (width - 4)) (drop (width - 4) s) 4) f.is
      ∙ paste-over d at s (width - 4) f.bytes 4 (omega (arith, f.near)) (omega (arith, f.within)) (omega arith) (omega arith)
      ∙ ap (paste d at s) all
