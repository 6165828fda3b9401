-- The lowest bit of a mask: rules of all masks of ten columns, each told by one list of values; and a row of taps, gone through by its mask.
use mathlib.Core.Path.{◌≡◌, refl, ap, sym, ◌∙◌, subst}
use mathlib.Core.Bool.{Bool, true, false, cond, not}
use mathlib.Core.List.{List, [], ◌∷◌, ◌++◌}
use Prim.Native.Nat.{ℕ, zero, suc, ◌+◌, ◌-◌, ◌*◌, ◌^◌, ◌%◌, ◌<◌, ◌≤◌}
use native.Mathlib.Decide.{dec_lt, ℕ_discrete}
use native.Mathlib.Nat.{add-zero, zero-div}
use native.Mathlib.Omega.{arith}
use borrow.Author.Tests.{eq-eqb, ne_eqb, lt-ltb, ltb-true, le-leb, lt-leb}
use lib.Bits.{bit_and, bit_or}
use lib.Count.{count_trailing_zeros}
use lib.Dec.{eqb, ltb, leb}
use lib.ListN.{length, get_or, get_or-eq_default}
use lib.Seq.{sets, length-sets}
use Rattle.definitions.specs.Lists.{number_of_bool}
use Rattle.definitions.specs.Lines.{Row}
use Rattle.definitions.specs.Cells.{byte_at}
use Rattle.definitions.specs.Notes.{effect_at}
use Rattle.definitions.specs.Records.{fields}
use Rattle.definitions.proofs.Lists.{any-default}
use Rattle.taps.specs.Taps.{bit, mask_of_line}
use Rattle.taps.specs.declared.Taps.TheVariants.{Mask}
use Rattle.taps.proofs.Masks.{line-taps, line-width, line-below, mask-below}
use Rattle.taps.proofs.Free.{tap-cell, free-byte}
use Rattle.taps.proofs.Tables.{up_from, same_at}
use Rattle.row_notes.specs.Masks.{LowOf}
use Rattle.row_notes.specs.Writer.{no_tail, FreeHeads}
use Rattle.row_notes.specs.Written.{RecordRoom, Written, MaskFits, after_taps}
use Rattle.row_notes.specs.declared.ChartNotesScratch.{ChartNotesScratch}
use Rattle.row_notes.proofs.Steps.{zero-nothing, step-nothing}
use Rattle.row_notes.proofs.Rows.{Midrow, mid_start, mid-ready, mid_step, row_written}
use Rattle.row_notes.proofs.Taps.{counting, tap-step, stored_past}

abbrev column : ℕ → ℕ
column m = count_trailing_zeros 32 (bit_or m 512)

abbrev rest : ℕ → ℕ
rest m = bit_and m (m - 1)

column-inside : (m : ℕ) → m < 1024 → ltb (column m) 10 ≡ true
unfolding count_trailing_zeros
column-inside m h = same_at (λ m. ltb (column m) 10) (λ m. true) 1024 refl m h

rest-less : (m : ℕ) → m < 1024 → ltb (rest m) m ≡ not (eqb m 0)
rest-less m h = same_at (λ m. ltb (rest m) m) (λ m. not (eqb m 0)) 1024 refl m h

column-here : (m : ℕ) → m < 1024 → bit (column m) m ≡ number_of_bool (not (eqb m 0))
unfolding count_trailing_zeros
column-here m h = same_at (λ m. bit (column m) m) (λ m. number_of_bool (not (eqb m 0))) 1024 refl m h

column-below : (m c : ℕ) → m < 1024 → c < 10 → cond (ltb c (column m)) (bit c m) 0 ≡ 0
unfolding count_trailing_zeros
column-below m c h k =
    same_at (λ c. cond (ltb c (column m)) (bit c m) 0) (λ c. 0) 10
    (same_at (λ m. up_from (λ c. cond (ltb c (column m)) (bit c m) 0) 0 10) (λ m. up_from (λ c. 0) 0 10) 1024 refl m h) c k

rest-bits : (m c : ℕ) → m < 1024 → c < 10 → bit c (rest m) ≡ cond (leb c (column m)) 0 (bit c m)
unfolding count_trailing_zeros
rest-bits m c h k =
    same_at (λ c. bit c (rest m)) (λ c. cond (leb c (column m)) 0 (bit c m)) 10
    (same_at (λ m. up_from (λ c. bit c (rest m)) 0 10) (λ m. up_from (λ c. cond (leb c (column m)) 0 (bit c m)) 0 10) 1024 refl m h) c k

pub low-some : (m : ℕ) → m < 1024 → (m ≡ 0 → ⊥) → LowOf m (column m) true (rest m)
low-some m h ne =
    let q : ltb (rest m) m ≡ true = rest-less m h ∙ rw (ne_eqb m 0 ne) in
    let less : rest m < m = ltb-true (rest m) m q in
    let inside : column m < 10 = ltb-true (column m) 10 (column-inside m h) in
    record {
      inside = inside;
      tells = rw (ne_eqb m 0 ne);
      none = λ e. absurd (ne e);
      less = λ n. less;
      here = λ n. column-here m h ∙ rw (ne_eqb m 0 ne);
      below = λ c k. rw (lt-ltb c (column m) k) at (column-below m c h (omega arith));
      small = omega arith;
      low = λ c k. rest-bits m c h (omega arith) ∙ rw (le-leb c (column m) k);
      high = λ c b k. rest-bits m c h b ∙ rw (lt-leb c (column m) k);
    }

bit-none : (c : ℕ) → bit c 0 ≡ 0
bit-none c = ap (λ n. n % 2) (zero-div (2 ^ c))

pub low-none : (m : ℕ) → m ≡ 0 → LowOf m (column m) false 0
low-none m e =
    let inside : column m < 10 = ltb-true (column m) 10 (column-inside m (omega (arith, e))) in
    record {
      inside = inside;
      tells = rw (eq-eqb m 0 e);
      none = λ q. refl;
      less = λ n. absurd (n e);
      here = λ n. absurd (n e);
      below = λ c k. ap (bit c) e ∙ bit-none c;
      small = omega arith;
      low = λ c k. bit-none c;
      high = λ c b k. ap (bit c) (sym e);
    }

-- ---- cells that are `0`, and records past the others

module _ (l : List ℕ) (s : ChartNotesScratch) (l' : List ℕ) (r : ChartNotesScratch) (row : Row) where
  mid-zeros : (c d : ℕ) → Midrow l s l' r c row → c + d ≤ length row → ((k : ℕ) → c ≤ k → k < c + d → get_or row k 0 ≡ 48) → Midrow l s l' r (c + d) row
  mid-zeros c zero M h z = subst (λ n. Midrow l s l' r n row) (sym (add-zero c)) M
  mid-zeros c (suc d) M h z =
      let next : (c + 1) + d ≡ c + suc d = omega arith in
      let one : Midrow l s l' r (c + 1) row = mid_step l s l' r c row M l' r _ refl (omega arith) refl (step-nothing l' r _ c _ (zero-nothing _ (z c (omega arith) (omega arith)))) in
      subst (λ n. Midrow l s l' r n row) next (mid-zeros (c + 1) d one (omega arith) (λ k a b. z k (omega arith) (omega arith)))

  mid-past : (c : ℕ) (vs : List ℕ) → Midrow l s l' r c row → Midrow l s (sets l' (r.count * 10) vs) r c row
  mid-past c vs M = record {
    inside = M.inside;
    same = length-sets l' (r.count * 10) vs ∙ M.same;
    bound = M.bound;
    index = M.index;
    part = λ ds S. let P = M.part ds S in (P.0, stored_past l' r.hold_heads r.count r.has_invalid P.0 vs P.1, P.2);
  }

-- ---- a row by its mask

-- k records are written of a row, and m has the bits of the taps that are left
pub record Taken (l : List ℕ) (s : ChartNotesScratch) (row : Row) (mask : ℕ) (l' : List ℕ) (k m : ℕ) : Type 0 where
  pub at : ℕ
  pub mid : Midrow l s l' (counting s k) at row
  pub small : m < 1024
  pub low : (c : ℕ) → c < at → c < 10 → bit c m ≡ 0
  pub high : (c : ℕ) → at ≤ c → c < 10 → bit c m ≡ bit c mask

module _ (l : List ℕ) (s : ChartNotesScratch) (row : Row) (mask : ℕ) (R : RecordRoom s row l) (heads : FreeHeads s.hold_heads row) (e : mask_of_line row ≡ Mask mask) where
  cell : (c : ℕ) → c < length row → get_or row c 0 ≡ 48 + bit c mask
  cell c h = any-default row c 0 48 h ∙ tap-cell row mask c (line-taps row mask e)

  within : (c : ℕ) → bit c mask ≡ 1 → c < length row
  within c o =
      elim (dec_lt c (length row)) [
        | yes h ↦ h
        | no n ↦
            let past : byte_at c row ≡ 48 = get_or-eq_default row 48 (omega arith) in
            absurd (omega (arith, past, tap-cell row mask c (line-taps row mask e)))
      ]

  taken_start : mask < 1024 → Taken l s row mask l s.count mask
  taken_start h = record { at = 0; mid = mid_start l s row; small = h; low = λ c k b. absurd (omega arith); high = λ c k b. refl }

  module _ (l' : List ℕ) (k m : ℕ) (T : Taken l s row mask l' k m) where
    taken-few : k < 4294967295
    taken-few =
        omega (arith, T.mid.bound, T.mid.inside, R.narrow, R.written.low, R.few)

    -- there is room for one record more
    room-early : k ≤ s.count + 1 → k * 10 + 10 ≤ length l'
    room-early h = omega (arith, T.mid.same, R.room, (line-width row mask e).0)

    module _ (t : ℕ) (b : Bool) (r : ℕ) (L : LowOf m t b r) where
      module _ (ne : m ≡ 0 → ⊥) where
        later : T.at ≤ t
        later = elim (dec_lt t T.at) [ yes h ↦ absurd (omega (arith, T.low t h L.inside, L.here ne)) | no n ↦ omega arith ]

        own : bit t mask ≡ 1
        own = sym (T.high t later L.inside) ∙ L.here ne

        room-late : k * 10 + 10 ≤ length l'
        room-late = omega (arith, T.mid.bound, later, within t own, T.mid.same, R.room)

        there : Midrow l s l' (counting s k) t row
        there =
            let gap : T.at + (t - T.at) ≡ t = omega (arith, later) in
            subst (λ n. Midrow l s l' (counting s k) n row) gap
            (mid-zeros l s l' (counting s k) row T.at (t - T.at) T.mid (omega (arith, later, within t own))
            (λ c x y.
            let here : c < t = omega (arith, later) in
            let inside : c < 10 = omega (arith, L.inside) in
            cell c (omega (arith, within t own)) ∙ ap (λ n. 48 + n) (sym (T.high c x inside) ∙ L.below c here)))

        taken-some : (l'' : List ℕ) (k' : ℕ) → l'' ≡ sets l' (k * 10) (fields s.row_index no_tail t 0) → k' ≡ k + number_of_bool b → length l'' ≡ length l' → Taken l s row mask l'' k' r
        taken-some l'' k' el ek es =
            let h : t < length row = within t own in
            let tap : get_or row t 0 ≡ 49 = cell t h ∙ ap (λ n. 48 + n) own in
            let one : b ≡ true = L.tells ∙ rw (ne_eqb m 0 ne) in
            let counted : k' ≡ k + number_of_bool (eqb (get_or row t 0) 49) = ek ∙ ap (λ x. k + number_of_bool x) (one ∙ sym (eq-eqb (get_or row t 0) 49 tap)) in
            record {
              at = t + 1;
              mid = mid_step l s l' (counting s k) t row there l'' (counting s k') (effect_at (get_or row t 0)) refl h es
                  (tap-step l' (counting s k) t (get_or row t 0) (mid-ready l s l' (counting s k) t row there R h) l'' k' el counted heads.busy heads.free (free-byte _ _ _ heads.taps t h));
              small = L.small;
              low = λ c x y. L.low c (omega arith);
              high = λ c x y. L.high c y (omega arith) ∙ T.high c (omega (arith, later)) y;
            }

      taken_none : m ≡ 0 → (l'' : List ℕ) (k' : ℕ) → l'' ≡ sets l' (k * 10) (fields s.row_index no_tail t 0) → k' ≡ k + number_of_bool b → Taken l s row mask l'' k' r
      taken_none z l'' k' el ek =
          let none : b ≡ false = L.tells ∙ rw (eq-eqb m 0 z) in
          let same : k' ≡ k = ek ∙ rw (none, add-zero) in
          let left : r ≡ m = L.none z ∙ sym z in
          rw (same, left, el) (record { at = T.at; mid = mid-past l s l' (counting s k) row T.at (fields s.row_index no_tail t 0) T.mid; small = T.small; low = T.low; high = T.high })

      -- one record more
      taken_next : (l'' : List ℕ) (k' : ℕ) → l'' ≡ sets l' (k * 10) (fields s.row_index no_tail t 0) → k' ≡ k + number_of_bool b → length l'' ≡ length l' → Taken l s row mask l'' k' r
      taken_next l'' k' el ek es =
          elim (ℕ_discrete m 0) [ yes z ↦ taken_none z l'' k' el ek | no ne ↦ taken-some ne l'' k' el ek es ]

    -- no tap is left
    taken-end : m ≡ 0 → Midrow l s l' (counting s k) (length row) row
    taken-end z =
        let gap : T.at + (length row - T.at) ≡ length row = omega (arith, T.mid.inside) in
        subst (λ n. Midrow l s l' (counting s k) n row) gap
        (mid-zeros l s l' (counting s k) row T.at (length row - T.at) T.mid (omega (arith, T.mid.inside))
        (λ c x y.
        let here : c < length row = omega (arith, T.mid.inside) in
        let inside : c < 10 = omega (arith, (line-width row mask e).1) in
        cell c here ∙ ap (λ n. 48 + n) (sym (T.high c x inside) ∙ ap (bit c) z ∙ bit-none c)))

-- the same where the struct's numbers are told apart from it
module _ (i n mask : ℕ) (l : List ℕ) (s : ChartNotesScratch) (row : Row) (F : MaskFits i n mask l s row) where
  pub mask-small : mask < 1024
  mask-small = mask-below (length row) mask (line-width row mask F.mask).1 (line-below row mask F.mask)

  pub mask_start : Taken l s row mask l n mask
  mask_start = subst (λ k. Taken l s row mask l k mask) F.count (taken_start l s row mask F.room F.heads F.mask mask-small)

  module _ (l' : List ℕ) (k m : ℕ) (T : Taken l s row mask l' k m) where
    pub mask-few : k < 4294967295
    mask-few = taken-few l s row mask F.room F.heads F.mask l' k m T

    pub mask-early : k ≤ n + 1 → k * 10 + 10 ≤ length l'
    mask-early h = room-early l s row mask F.room F.heads F.mask l' k m T (omega (arith, F.count))

    pub mask-late : (t : ℕ) (b : Bool) (r : ℕ) → LowOf m t b r → (m ≡ 0 → ⊥) → k * 10 + 10 ≤ length l'
    mask-late t b r L ne = room-late l s row mask F.room F.heads F.mask l' k m T t b r L ne

    pub mask_next : (t : ℕ) (b : Bool) (r : ℕ) → LowOf m t b r → (l'' : List ℕ) (k' : ℕ) → l'' ≡ sets l' (k * 10) (fields i no_tail t 0) → k' ≡ k + number_of_bool b
        → length l'' ≡ length l' → Taken l s row mask l'' k' r
    mask_next t b r L l'' k' el =
        taken_next l s row mask F.room F.heads F.mask l' k m T t b r L l'' k' (el ∙ ap (λ j. sets l' (k * 10) (fields j no_tail t 0)) (sym F.row))

    -- no tap is left
    pub mask_end : m ≡ 0 → (rows : List Row) → Written rows s l → Written (rows ++ (row ∷ [])) (after_taps s k) l'
    mask_end z =
        row_written l s row F.room l' (after_taps s k) _ (length row) (taken-end l s row mask F.room F.heads F.mask l' k m T z) (omega arith) refl refl refl refl
