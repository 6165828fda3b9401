-- One row more of taps alone in columns without an open head: no head is in it and no tail, so that the pairs stay.
use mathlib.Core.Path.{◌≡◌, refl, ap}
use mathlib.Core.Bool.{Bool, false, true≢false, ◌||◌}
use mathlib.Core.List.{List, []}
use Prim.Native.Nat.{ℕ, ◌<◌}
use lib.ListN.{length, set}
use Rattle.std.proofs.lemmas.List.{get_or-set_same, get_or-set_other}
use Rattle.definitions.specs.Lines.{Row}
use Rattle.definitions.specs.Cells.{byte_at}
use Rattle.definitions.specs.Tracker.{paired, hold_at, pairs}
use Rattle.definitions.specs.Correction.{is_opening, is_closing}
use Rattle.definitions.specs.declared.DepthEffect.{DepthEffect}
use Rattle.definitions.specs.declared.DepthEffect.TheVariants.{Nothing, Blocks, Opens, Closes}
use Rattle.taps.specs.Taps.{FreeTaps}
use Rattle.holds.specs.Tracks.{stack_after}
use Rattle.holds.proofs.Passed.{free-leaves, free-keeps}
use Rattle.row_tally.proofs.Kept.{keep-whole}
use Rattle.paired_tally.specs.Entry.{entry_of}
use Rattle.paired_tally.specs.Free.{FreeCounted}
use Rattle.paired_tally.specs.Paired.{kind_sum, head_number, RowCounted}
use Rattle.paired_tally.specs.declared.PairedTally.{PairedTally}
use Rattle.paired_tally.proofs.Rows.{row-more}

keeps-pairs : (e : DepthEffect) → (is_opening e || is_closing e) ≡ false → (i : ℕ) (st : List ℕ) → paired e i st ≡ []
keeps-pairs Nothing h i st = refl
keeps-pairs Blocks h i st = refl
keeps-pairs Opens h i st = refl
keeps-pairs Closes h i st = absurd (true≢false h)

pub free-counted : {plain judged : Bool} {row : ℕ} {cells : Row} {t t' : PairedTally} {work work' : List ℕ} {m : ℕ} → FreeTaps t.tracker.busy m cells
    → FreeCounted plain judged row cells t work t' work' → row < length work → RowCounted plain judged row cells t work t' work'
free-counted {plain} {judged} {row} {cells} {t} {t'} {work} {work'} {m} f q room J rows e j s =
    let n = length rows in
    let none = free-keeps t.tracker.busy m cells f in
    let sum = kind_sum plain (J n) cells in
    let here = entry_of plain (J n) sum 0 in
    let set-here : work' ≡ set work n here = rw (e, j) q.entry in
    row-more plain J (length cells) rows cells t t' work work' s refl
    (λ c. keeps-pairs (hold_at (byte_at c cells)) (none c) n (stack_after rows c))
    (λ c h. rw (s.stacks c h) at ((free-leaves m t.tracker cells f s.busy).stack c (head_number n (byte_at c cells)) h))
    sum
    (ap (kind_sum plain (J n)) (keep-whole (pairs rows) n 0 cells (λ k l o. absurd (true≢false (rw o at (none k))))))
    q.tracker
    (rw (e, j) q.stats)
    (rw set-here (get_or-set_same work n here 0 (rw e room)))
    (λ i ne. rw set-here (get_or-set_other work n i here 0 ne))
