-- The claims on how near the beats are, in the words of their statements: of places, then of texts.
use Rattle.std.proofs.Common.{◌≡◌, ℕ, ◌+◌, ◌*◌, ◌^◌, ◌<◌, ◌≤◌, length, sym, refl, ap, ◌∙◌, subst, zero-add, arith}
use lib.Ieee.{nan}
use Rattle.std.specs.Prelude.{Some}
use Rattle.std.proofs.lemmas.Option.{slice_get-get_or}
use Rattle.definitions.specs.Sizes.{most_bytes}
use Rattle.definitions.specs.Lanes.{most_rows_in}
use Rattle.definitions.specs.Lists.{joined}
use Rattle.definitions.specs.Reduction.{minimised}
use Rattle.definitions.specs.Beats.{beat_of_row, beats_from, measure_beats, beats}
use Rattle.definitions.specs.Objects.{place48, last48}
use Rattle.definitions.specs.Damage.{rows_of}
use Rattle.definitions.specs.BeatsNear.{BeatsNear, BeatsToSpare, BeatsNearer, BeatsExact, LastNear, Nearest48, BeatStands, TextBeatsStand, TextLastNear}
use Rattle.beats.proofs.TextPlaces.{measure-fits, rows-fit, as-many, RowAt, row_at, ObjectAt, last-at}
use Rattle.beats.proofs.Near.{beat-near, beat-to-spare, beat-nearer}
use Rattle.beats.proofs.Exact48.{beat-exact}
use Rattle.beats.proofs.Nearest48.{last-nearest}

-- fewer than 2^22 rows
most : (n : ℕ) → n ≤ most_rows_in 4 most_bytes → n < 2 ^ 22
unfolding most_rows_in
most n h = omega arith

pub beats-near : BeatsNear
unfolding BeatsNear
beats-near m r n R N = beat-near m r n R (most n N)

pub beats-to-spare : BeatsToSpare
unfolding BeatsToSpare
beats-to-spare m r n R N = beat-to-spare m r n R (most n N)

pub beats-nearer : BeatsNearer
unfolding BeatsNearer
beats-nearer m r n R N j = beat-nearer m r n j R (most n N)

pub beats-exact : BeatsExact
unfolding BeatsExact
beats-exact = beat-exact

pub last-near : LastNear
unfolding LastNear
last-near = last-nearest

pub text-beats-stand : TextBeatsStand
unfolding TextBeatsStand beats measure_beats
text-beats-stand L text w few = (as-many 0 (minimised L text), stands)
  where
    stands : (i : ℕ) → i < length (beats L text) → BeatStands L text i
    stands i h =
        let x : RowAt 0 (minimised L text) i = row_at 0 (minimised L text) i h in
        let n : ℕ = length (rows_of L x.m text) in
        let fits : 5 * n + 2 * x.m ≤ most_bytes + 1 = measure-fits L text x.m w few x.measure in
        let few-rows : n < 2 ^ 22 = most n (rows-fit x.m n fits) in
        record {
          m = x.m;
          r = x.r;
          n = n;
          rows = refl;
          row = x.row;
          place = x.place;
          measure = omega (arith, fits, x.row);
          beat =
              slice_get-get_or (joined (beats_from 0 (minimised L text))) i nan h
              ∙ ap Some (x.beat ∙ ap (λ k. beat_of_row k x.r n) (zero-add x.m));
          near = beat-near x.m x.r n x.row few-rows;
          to_spare = beat-to-spare x.m x.r n x.row few-rows;
          nearer = λ j. beat-nearer x.m x.r n j x.row few-rows;
          exact = beat-exact x.m x.r n x.row;
        }

pub text-last-near : TextLastNear
unfolding TextLastNear last48
text-last-near L text w few p e =
    let x : ObjectAt 0 (minimised L text) p = last-at L text p e in
    let measure : x.j ≡ p.m = sym (x.number ∙ zero-add x.j) in
    let rows : p.n ≡ length (rows_of L p.m text) = x.rows ∙ ap (λ m. length (rows_of L m text)) measure in
    let fits : 5 * length (rows_of L x.j text) + 2 * x.j ≤ most_bytes + 1 = measure-fits L text x.j w few x.measure in
    record {
      rows = rows;
      row = x.row;
      near =
          subst (λ k. Nearest48 k p.m p.r p.n) (ap place48 (sym e))
          (last-nearest p.m p.r p.n x.row (omega (arith, fits, measure, x.rows)));
    }
