-- The list at the end of a part of a slice, moved to the front.
use mathlib.Core.Path.{◌≡◌, refl, ap, sym, ◌∙◌}
use mathlib.Core.List.{List, ◌++◌}
use Prim.Native.Nat.{ℕ, ◌-◌, ◌*◌, ◌≤◌}
use native.Mathlib.Nat.{zero-add}
use native.Mathlib.Omega.{arith}
use lib.ListN.{length, take, drop, length-append, length-drop}
use lib.Seq.{take_at, drop-append-le, take-paste}
use Rattle.std.specs.List.{copy_within}
use Rattle.definitions.specs.Lists.{padded}
use Rattle.definitions.specs.Dropped.{encode_dropped, dropped_records}
use Rattle.definitions.specs.declared.DroppedHead.{DroppedHead}
use Rattle.definitions.proofs.Blocks.{blocks-length}
use Rattle.slices.specs.Zeroed.{zeroed}
use Rattle.slices.proofs.Zeroed.{zeroed-answer}

-- a record has ten bytes
ten : (d : DroppedHead) → length (encode_dropped d) ≡ 10
unfolding encode_dropped Rattle.definitions.specs.Records.fields
ten d = refl

pub dropped-length : (ds : List DroppedHead) → length (dropped_records ds) ≡ length ds * 10
unfolding dropped_records
dropped-length ds = blocks-length encode_dropped ten ds

module _ (p rest : List ℕ) (first most : ℕ) (ds : List DroppedHead) (size : length p ≡ most * 10) (inside : first * 10 ≤ length p)
    (listed : drop (first * 10) p ≡ dropped_records ds) where
  pub listed-count : most - first ≡ length ds
  listed-count = omega (arith, size, inside, ap length listed, length-drop (first * 10) p, dropped-length ds)

  moved : take ((most - first) * 10) (copy_within (p ++ rest) (first * 10) (most * 10) 0) ≡ dropped_records ds
  moved =
      let n : (most - first) * 10 ≡ most * 10 - first * 10 = omega arith in
      let s : drop (first * 10) (p ++ rest) ≡ drop (first * 10) p ++ rest = drop-append-le (first * 10) p rest inside in
      let m : length (drop (first * 10) p) ≡ most * 10 - first * 10 = omega (arith, length-drop (first * 10) p, size) in
      let long : most * 10 - first * 10 ≤ length (drop (first * 10) (p ++ rest)) = omega (arith, ap length s, length-append (drop (first * 10) p) rest, m) in
      ap (λ k. take k (copy_within (p ++ rest) (first * 10) (most * 10) 0)) (n ∙ sym (zero-add (most * 10 - first * 10)))
      ∙ take-paste (p ++ rest) 0 (drop (first * 10) (p ++ rest)) (most * 10 - first * 10) (omega arith) long
      ∙ ap (take (most * 10 - first * 10)) s
      ∙ take_at (drop (first * 10) p) rest (most * 10 - first * 10) m
      ∙ listed

  pub moved-answer : (list : List ℕ) (n : ℕ) → list ≡ copy_within (p ++ rest) (first * 10) (most * 10) 0 → length list ≡ n → most * 10 ≤ n
      → zeroed 0 ((most - first) * 10) list ≡ padded 0 n (dropped_records ds)
  moved-answer list n e long room =
      let same : ◌≡◌ {A = ℕ} 0 0 = refl in
      zeroed-answer 0 list ((most - first) * 10) n (λ k. dropped_records ds) same long (omega (arith, long, room)) (ap (take ((most - first) * 10)) e ∙ moved)
