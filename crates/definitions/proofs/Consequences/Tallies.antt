-- What is read back, and the tallies by their places.
use mathlib.Core.Path.{ap}
use mathlib.Core.Bool.{true}
use mathlib.Core.List.{List, ◌++◌}
use Prim.Native.Nat.{ℕ}
use native.Mathlib.Omega.{arith}
use lib.ListN.{replicate}
use Rattle.definitions.specs.Tally.{tally_figures}
use Rattle.definitions.specs.ReadBack.{OwnRows, MainKeptAgree}
use Rattle.definitions.specs.Judged.{judged_at, judged_rows, judged_tally, flagged_tally}
use Rattle.definitions.specs.Entries.{figures_of_chart, figures_of_kept}
use Rattle.definitions.specs.Directions.{DirectionsSum}
use Rattle.definitions.specs.Consequences.{JudgedAgain, SameTallies, ArrowsAdd}

pub judged-again : OwnRows → JudgedAgain
unfolding OwnRows JudgedAgain judged_tally flagged_tally
judged-again own L text flags some = (ap (judged_rows L (λ i. true)) (own L text (omega (arith, some))), ap (judged_rows L (judged_at flags)) (own L text (omega (arith, some))))

pub same-tallies : MainKeptAgree → SameTallies
unfolding MainKeptAgree SameTallies figures_of_chart figures_of_kept
same-tallies agree L text = ap (λ t. tally_figures t ++ replicate 7 0) (agree L text)

pub arrows-add : {L : ℕ} {text flags : List ℕ} → DirectionsSum L text flags → ArrowsAdd L text flags
unfolding figures_of_chart figures_of_kept
arrows-add x = (x.main, x.kept, x.judged, x.flagged)
