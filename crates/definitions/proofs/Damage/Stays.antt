-- Specification, Damage: damage in one measure stays there. Assumes nothing.
use mathlib.Core.Path.{◌≡◌, refl, ap, sym, ◌∙◌, subst, subst₂}
use mathlib.Core.Bool.{true, not}
use mathlib.Core.List.{List, [], ◌∷◌, ◌++◌, map, append_assoc}
use Prim.Native.Nat.{ℕ, zero, suc, ◌+◌}
use native.Mathlib.Nat.{zero-add}
use native.Mathlib.Omega.{arith}
use lib.Dec.{ltb, leb}
use lib.ListN.{length, drop, length-append}
use Rattle.std.specs.List.{filter, AllZip}
use Rattle.definitions.specs.Lists.{joined}
use Rattle.definitions.specs.Lines.{Row}
use Rattle.definitions.specs.Measures.{chart}
use Rattle.definitions.specs.Reduction.{reduce, minimised}
use Rattle.definitions.specs.Figures.{densities, spacings}
use Rattle.definitions.specs.Beats.{measure_beats, row_to_beat}
use Rattle.definitions.specs.Objects.{place48, last_object, last48, last_beat_of}
use Rattle.definitions.specs.Notes.{notes, notes_from}
use Rattle.definitions.specs.Entries.{row_count}
use Rattle.definitions.proofs.Lists.{parts, parts-suc}
use Rattle.definitions.specs.Damage.{Differ, DamageStays, Shifted, rows_above, rows_of, rows_later, all_later, earlier, later, byte_in, head_kind, open_in, open_at, MissingOrLate, HoldObject, ObjectFirst}
use Rattle.definitions.proofs.Damage.But.{But, charts-but, but-map, same_measures, takes, drops}
use Rattle.definitions.proofs.Damage.Notes.{headed, before-part, after-part, notes-shift, earlier-left, open-head}
use Rattle.definitions.proofs.Damage.Objects.{Hold, First, last-later, hold-minimised, first-minimised}

-- The notes of a text, parted at measure d.
notes-parts : (L d : ℕ) (text : List ℕ) → notes L text ≡ notes_from 0 (rows_above L d text ++ (rows_of L d text ++ rows_later L d text))
unfolding notes
notes-parts L d text = ap (notes_from 0) (parts d (minimised L text))

earlier-is : (L d : ℕ) (text : List ℕ) → earlier L d text ≡ headed 0 (rows_above L d text) (rows_of L d text ++ rows_later L d text)
earlier-is L d text =
    ap (filter (λ x. ltb x.row (length (rows_above L d text)))) (notes-parts L d text)
    ∙ before-part (rows_above L d text) (rows_of L d text ++ rows_later L d text)

later-is : (L d : ℕ) (text : List ℕ) → later L d text ≡ notes_from (length (rows_above L d text) + length (rows_of L d text)) (rows_later L d text)
unfolding notes
later-is L d text =
    let ms : List (List Row) = minimised L text in
    let before : List Row = rows_above L (suc d) text in
    let after : List Row = rows_later L d text in
    ap (λ rows. filter (λ x. leb (length before) x.row) (notes_from 0 rows))
    (parts d ms ∙ sym (append_assoc (rows_above L d text) (rows_of L d text) after) ∙ ap (λ r. r ++ after) (sym (parts-suc d ms)))
    ∙ after-part before after
    ∙ ap (λ n. notes_from n after) (ap length (parts-suc d ms) ∙ length-append (rows_above L d text) (rows_of L d text))

module _ (L d : ℕ) (old new : List ℕ) (x : Differ L d old new) where
  but : But d 0 (minimised L old) (minimised L new)
  unfolding minimised
  but = but-map reduce (charts-but x)

  pub same_before : rows_above L d old ≡ rows_above L d new
  same_before = ap joined (takes but d (zero-add d))

  pub same-later : drop (suc d) (minimised L old) ≡ drop (suc d) (minimised L new)
  same-later = drops but d (zero-add d)

  later_notes : AllZip (Shifted (length (rows_of L d old)) (length (rows_of L d new))) (later L d old) (later L d new)
  later_notes =
      let a : ℕ = length (rows_of L d old) in
      let b : ℕ = length (rows_of L d new) in
      let s : ℕ = length (rows_above L d old) in
      let t : ℕ = length (rows_above L d new) in
      let e : s ≡ t = ap length same_before in
      subst₂ (AllZip (Shifted a b)) (sym (later-is L d old)) (ap (λ q. notes_from (t + b) (joined q)) same-later ∙ sym (later-is L d new))
      (notes-shift a b (s + a) (t + b) (omega arith) (rows_later L d old))

  earlier_notes : filter (λ x. not (open_at L d old x)) (earlier L d old) ≡ filter (λ x. not (open_at L d new x)) (earlier L d new)
  earlier_notes =
      let q : List Row = rows_of L d old ++ rows_later L d old in
      let q' : List Row = rows_of L d new ++ rows_later L d new in
      ap (filter (λ x. not (open_at L d old x))) (earlier-is L d old)
      ∙ earlier-left (rows_above L d old) q q'
      ∙ ap (λ ps. filter (λ x. not (open_in ps x.row x.column)) (headed 0 ps q')) same_before
      ∙ ap (filter (λ x. not (open_at L d new x))) (sym (earlier-is L d new))

  open_heads : (text : List ℕ) → rows_above L d old ≡ rows_above L d text → (i c : ℕ) → open_in (rows_above L d old) i c ≡ true
      → MissingOrLate (length (rows_above L d old)) (row_count L text) i c (head_kind (byte_in (rows_above L d old) i c)) (notes L text)
  open_heads text e i c h = rw (notes-parts L d text, parts d (minimised L text), ← e) (open-head i c (rows_above L d old) (rows_of L d text ++ rows_later L d text) h)

  later-reduced : (n : ℕ) (ms : List (List Row)) → drop n (map reduce ms) ≡ map reduce (drop n ms)
  later-reduced zero ms = refl
  later-reduced (suc n) [] = refl
  later-reduced (suc n) (m ∷ ms) = later-reduced n ms

  same_object : HoldObject (all_later L d old) → ObjectFirst (all_later L d old) → last_object L old ≡ last_object L new
  unfolding last_object minimised
  same_object h f =
      let ms : List (List Row) = drop (suc d) (chart L old) in
      let e : map reduce ms ≡ drop (suc d) (minimised L old) = sym (later-reduced (suc d) (chart L old)) in
      last-later (suc d) (minimised L old) (minimised L new) same-later
      (subst (λ q. Hold (joined q)) e (hold-minimised ms h))
      (subst (λ q. (c : ℕ) → First c (joined q)) e (first-minimised ms f))

  same_last : HoldObject (all_later L d old) → ObjectFirst (all_later L d old) → last_beat_of L old ≡ last_beat_of L new
  unfolding last_beat_of last48
  same_last h f = ap (λ o. row_to_beat (place48 o)) (same_object h f)

  same_last48 : HoldObject (all_later L d old) → ObjectFirst (all_later L d old) → last48 L old ≡ last48 L new
  unfolding last48
  same_last48 h f = ap place48 (same_object h f)

  pub damage-stays : DamageStays L d old new
  unfolding densities spacings measure_beats
  damage-stays =
      record {
        same_rows = search (same_measures, but);
        same_beats = search (same_measures, but);
        same_density = search (same_measures, but);
        same_spacing = search (same_measures, but);
        later_notes = search later_notes;
        same_before = search same_before;
        earlier_notes = search earlier_notes;
        open_heads = λ i c h. search (open_heads old refl i c h, open_heads new same_before i c h);
        same_last = search same_last;
        same_last48 = search same_last48;
      }
