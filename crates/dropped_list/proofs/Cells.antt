-- A cell's head in front of the list, and the fate of its column.
use mathlib.Core.Path.{◌≡◌, refl, ap, sym, ◌∙◌}
use mathlib.Core.Bool.{true, false}
use mathlib.Core.List.{List, [], ◌++◌, append_assoc}
use Prim.Native.Nat.{ℕ, ◌+◌, ◌*◌, ◌≤◌, ◌<◌}
use native.Mathlib.Omega.{arith}
use lib.ListN.{length, take, drop, set, get_or}
use lib.Seq.{sets, sets-eq, length-sets, drop_at, length-take-le, get_or-set_same, get_or-set_other}
use Rattle.definitions.specs.Records.{fields}
use Rattle.definitions.specs.Cells.{cell_of}
use Rattle.definitions.specs.Notes.{effect_at}
use Rattle.definitions.specs.Damage.{is_head}
use Rattle.definitions.specs.Dropped.{decides, if_dropped, cell_drops, number_of_dropper, number_of_cause, encode_dropped, dropped_records}
use Rattle.definitions.specs.declared.DropCause.{DropCause}
use Rattle.definitions.specs.declared.Fate.{Fate}
use Rattle.definitions.specs.declared.NoteEffect.{NoteEffect}
use Rattle.definitions.specs.declared.NoteEffect.TheVariants.{Nothing, Closes, Single, Head}
use Rattle.definitions.specs.declared.Fate.TheVariants.{ClosedAt, DroppedBy}
use Rattle.definitions.proofs.Damage.Bytes.{heading, head-is}
use Rattle.dropped_list.specs.Listed.{HeadListed, CellListed}
use Rattle.dropped_list.specs.declared.Listing.{Listing}

-- ten bytes stored in front of what follows them
front-stored : (k : ℕ) (list vs : List ℕ) → length vs ≡ 10 → (k + 1) * 10 ≤ length list
    → drop (k * 10) (sets list (k * 10) vs) ≡ vs ++ drop ((k + 1) * 10) list
front-stored k list vs t h =
    let fits : k * 10 + length vs ≤ length list = omega (arith, t, h) in
    let size : length (take (k * 10) list) ≡ k * 10 = length-take-le (k * 10) list (omega (arith, h)) in
    let next : k * 10 + length vs ≡ (k + 1) * 10 = omega (arith, t) in
    ap (drop (k * 10)) (sets-eq vs list (k * 10) fits)
    ∙ ap (drop (k * 10)) (append_assoc (take (k * 10) list) vs (drop (k * 10 + length vs) list))
    ∙ drop_at (take (k * 10) list) (vs ++ drop (k * 10 + length vs) list) (k * 10) size
    ∙ ap (λ n. vs ++ drop n list) next

-- a dropped head's record in front of the list
pub head-front : (s : Listing) (k row column : ℕ) (cause : DropCause) (list list' : List ℕ) → s.first ≡ k + 1 → s.first * 10 ≤ length list
    → list' ≡ sets list (k * 10) (fields row (number_of_dropper cause) column (number_of_cause cause))
    → HeadListed (DroppedBy cause) row column s list (record { fates = s.fates; first = k }) list'
unfolding dropped_records encode_dropped fields
head-front s k row column cause list list' e h same =
    let vs : List ℕ = fields row (number_of_dropper cause) column (number_of_cause cause) in
    record {
      longer = record { fewer = omega (arith, e); one = omega (arith, e); same_length = ap length same ∙ length-sets list (k * 10) vs };
      fates = refl;
      heads = λ ds q. ap (drop (k * 10)) same ∙ front-stored k list vs refl (omega (arith, e, h)) ∙ ap (λ l. vs ++ l) (ap (λ m. drop (m * 10) list) (sym e) ∙ q);
    }

-- only a head makes a cell's part of the list
by-head : (x : NoteEffect) (i c : ℕ) (f : Fate) → heading x ≡ true → cell_drops x i c f ≡ if_dropped i c f
by-head Nothing i c f h = cc
by-head Closes i c f h = cc
by-head (Single k) i c f h = cc
by-head (Head k) i c f h = refl

by-other : (x : NoteEffect) (i c : ℕ) (f : Fate) → heading x ≡ false → cell_drops x i c f ≡ []
by-other Nothing i c f h = refl
by-other Closes i c f h = refl
by-other (Single k) i c f h = refl
by-other (Head k) i c f h = cc

head-drops : (b i c : ℕ) (f : Fate) → is_head b ≡ true → cell_drops (effect_at b) i c f ≡ if_dropped i c f
head-drops b i c f h = by-head (effect_at b) i c f (sym (head-is b) ∙ h)

other-drops : (b i c : ℕ) (f : Fate) → is_head b ≡ false → cell_drops (effect_at b) i c f ≡ []
other-drops b i c f h = by-other (effect_at b) i c f (sym (head-is b) ∙ h)

-- a cell that is a head was put into the list, or was not
module _ (b row column : ℕ) (s : Listing) (list : List ℕ) (size : length s.fates ≡ 10) (inside : column < 10) where
  abbrev later : Fate
  later = get_or s.fates column (ClosedAt 0)

  abbrev told : Listing
  told = record { fates = set s.fates column (decides (effect_at b) row later); first = s.first }

  pub cell-head : (s' : Listing) (list' : List ℕ) → is_head b ≡ true → HeadListed later row column told list s' list' → CellListed b row column s list s' list'
  cell-head s' list' e x =
      record {
        longer = record { fewer = x.longer.fewer; one = x.longer.one; same_length = x.longer.same_length };
        fate = ap (λ l. get_or l column (ClosedAt 0)) x.fates ∙ get_or-set_same s.fates column _ _ (omega (arith, size));
        others = λ c n. ap (λ l. get_or l c (ClosedAt 0)) x.fates ∙ get_or-set_other s.fates column c _ _ n;
        heads = λ ds q. x.heads ds q ∙ ap (λ l. dropped_records (l ++ ds)) (sym (head-drops b row column later e));
      }

  pub cell-other : is_head b ≡ false → CellListed b row column s list told list
  cell-other e =
      record {
        longer = record { fewer = omega arith; one = omega arith; same_length = refl };
        fate = get_or-set_same s.fates column _ _ (omega (arith, size));
        others = λ c n. get_or-set_other s.fates column c _ _ n;
        heads = λ ds q. q ∙ ap (λ l. dropped_records (l ++ ds)) (sym (other-drops b row column later e));
      }

-- a `0` tells nothing
pub cell-zero : (row column : ℕ) (s : Listing) (list : List ℕ) → CellListed 48 row column s list s list
unfolding effect_at cell_of
cell-zero row column s list =
    record {
      longer = record { fewer = omega arith; one = omega arith; same_length = refl };
      fate = refl;
      others = λ c n. refl;
      heads = λ ds q. q;
    }
