-- The heads that are still open are dropped, the records that are left are moved to the front, and they are those of the rows' notes.
-- No step makes more records or another length, so the end of the records lies in the slice.
use Rattle.std.proofs.Common.{arith}
use Rattle.row_notes.proofs.Ending.{rows-length, finished}
use Rattle.row_notes.proofs.finish.Goals as goal

pub retain-count-requires : goal.retain-count-requires
retain-count-requires c = omega (arith, rows-length _ _ c.requires)

pub zero_past-requires-clause-in_bounds : goal.zero_past-requires-clause-in_bounds
zero_past-requires-clause-in_bounds c = omega (arith, rows-length _ _ c.requires)

pub returns : goal.returns
returns c =
    finished _ _ _ _ _ _ _ c.close_heads-out.auto.notes c.retain-count.auto.notes c.close_heads-out.ensures c.retain-count.ensures c.zero_past.ensures
