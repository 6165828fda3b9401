-- `measure_walk::Walk::end_rows` meets its contract.
use Rattle.measure_walk.specs.Views.{rest}
use Rattle.measure_walk.proofs.Starts.{ended-none, ended-some}
use Rattle.measure_walk.proofs.Walk.end_rows.Goals as goal
use Rattle.measure_walk.proofs.Walk.end_rows.Goals.{then-first-self, else-first-self}

pub returns-clause-noted : goal.returns-clause-noted
returns-clause-noted c = λ L l done cur x. elim c.if-first-self.branch [
  | then-first-self w ↦
      rw w.self-is
      (ended-some L c.args.first (rest c.args.self.now) c.args.self.now.run c.requires.first_row c.requires.rows_few c.requires.measures_few l done cur x w.if-first-self.true)
  | else-first-self w ↦
      rw w.self-is
      (ended-none L c.args.first (rest c.args.self.now) c.args.self.now.run c.requires.first_row c.requires.rows_few c.requires.measures_few l done cur x w.if-first-self.false)
]
