-- `row_walk::walk_cells` meets its contract: all cells are walked, and the row ends.
use lib.ListN.{length}
use Rattle.row_walk.specs.Rows.{CellsWalked, none}
use Rattle.row_walk.proofs.Rows.{ends-few, arrows-few, heads-few, tails-few, rows-few, cells-end}
use Rattle.row_walk.proofs.walk_cells.Goals.{After-walk_rest}
use Rattle.row_walk.proofs.walk_cells.Goals as goal

pub walk_four-requires-clause-reached : goal.walk_four-requires-clause-reached
walk_four-requires-clause-reached c = record { start = c.args.run.now; slots = c.args.slots.now; ready = c.requires.ready; walked = none }

pub walk_rest-requires-clause-reached : goal.walk_rest-requires-clause-reached
walk_rest-requires-clause-reached c = record { start = c.args.run.now; slots = c.args.slots.now; ready = c.requires.ready; walked = c.walk_four.ensures _ _ none }

all : (c : After-walk_rest) → CellsWalked c.args.row.now c.args.run.now c.args.slots.now (length c.args.row.now) c.walk_rest.new.run c.walk_rest.new.slots
all c = c.walk_rest.ensures _ _ (c.walk_four.ensures _ _ none)

pub end_row-requires-clause-few : goal.end_row-requires-clause-few
end_row-requires-clause-few c = ends-few _ _ _ _ _ c.requires.ready (all (goal.at.end_row-requires-clause-few c).After-walk_rest)

pub end_row-requires-clause-arrows_few : goal.end_row-requires-clause-arrows_few
end_row-requires-clause-arrows_few c = arrows-few _ _ _ _ _ c.requires.ready (all (goal.at.end_row-requires-clause-arrows_few c).After-walk_rest)

pub end_row-requires-clause-heads_few : goal.end_row-requires-clause-heads_few
end_row-requires-clause-heads_few c = heads-few _ _ _ _ _ c.requires.ready (all (goal.at.end_row-requires-clause-heads_few c).After-walk_rest)

pub end_row-requires-clause-tails_few : goal.end_row-requires-clause-tails_few
end_row-requires-clause-tails_few c = tails-few _ _ _ _ _ c.requires.ready (all (goal.at.end_row-requires-clause-tails_few c).After-walk_rest)

pub end_row-requires-clause-rows_few : goal.end_row-requires-clause-rows_few
end_row-requires-clause-rows_few c = rows-few _ _ _ _ _ c.requires.ready (all (goal.at.end_row-requires-clause-rows_few c).After-walk_rest)

pub returns : goal.returns
returns c =
    let e = c.end_row.ensures in
    cells-end _ _ _ _ _ c.requires.ready (all (goal.at.returns c).After-walk_rest) _ e.counted e.row e.columns_stay e.invalid_stays e.count_stays e.last_stays
