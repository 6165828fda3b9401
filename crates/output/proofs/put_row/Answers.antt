-- `output::put_row` meets its contract: the last four bytes follow on those before them or overlap them.
use mathlib.Core.Path.{sym, ap, ◌∙◌}
use mathlib.Core.List.{List}
use Prim.Native.Nat.{ℕ, ◌+◌, ◌-◌, ◌≤◌}
use native.Mathlib.Omega.{arith}
use lib.ListN.{length, drop}
use lib.Seq.{paste}
use Rattle.reduction.proofs.Moves.{Front, front_of, front-four, front-eight, front-last}
use Rattle.cells.proofs.Ends.{between}
use Rattle.output.proofs.Writing.{paste-spliced, paste-placed}
use Rattle.output.proofs.put_row.Goals as goal
use Rattle.output.proofs.put_row.Goals.{then-n-gt8, else-n-gt8}

pub returns : goal.returns
returns c =
    let text : List ℕ = c.args.text.now in
    let at : ℕ = c.args.at in
    let row : List ℕ = c.args.row.now in
    let range : (4 ≤ length row) × (length row ≤ 12) = between (length row) c.if-n.false in
    let whole : length row ≤ length row = omega arith in
    let room : at + length row ≤ length text = c.requires in
    let first = c.put_four.ensures ∙ sym (paste-spliced text at (drop 0 row) 4) in
    let before_last : Front text at row (length row) c.if-n-gt8.text =
    elim c.if-n-gt8.branch [
      | then-n-gt8 w ↦
          front_of text at row (length row) whole room
          (w.text-is ∙ w.put_four-then-n-gt8.ensures ∙ sym (paste-spliced _ (at + 4) (drop 4 row) 4) ∙ ap (λ (t : List ℕ). paste t (at + 4) (drop 4 row) 4) first)
          (front-eight text at row (length row) whole room w.if-n-gt8.true range.1)
      | else-n-gt8 w ↦
          front_of text at row (length row) whole room (w.text-is ∙ first) (front-four text at row (length row) whole room range.0 w.if-n-gt8.false)
    ] in
    c.put_four-2.ensures
    ∙ sym (paste-spliced _ (at + (length row - 4)) (drop (length row - 4) row) 4)
    ∙ front-last text at row (length row) whole room before_last range.0 ∙ paste-placed text at row
