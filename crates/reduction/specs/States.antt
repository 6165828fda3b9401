-- A state that a pass holds, which stands for the measures that have ended, `done`, and for the rows of the open one, `cur`.
use Rattle.std.specs.Prelude.{List, [], ◌∷◌, ◌++◌}
use Rattle.definitions.specs.Lines.{Row}

abbrev pub State : Type 1
State = List (List Row) → List Row → Type 0

-- it holds of some measures that have ended, and of these rows of the open one
pub record HoldingOpen (state : State) (cur : List Row) : Type 0 where
  pub done : List (List Row)
  pub held : state done cur

-- one row more of the open measure
abbrev pub AddsRow : Row → State → State → Type 0
AddsRow row before after = (done : List (List Row)) (cur : List Row) → before done cur → after done (cur ++ (row ∷ []))

-- the open measure ends
abbrev pub EndsMeasure : State → State → Type 0
EndsMeasure before after = (done : List (List Row)) (cur : List Row) → before done cur → after (done ++ (cur ∷ [])) []
