-- `sheet_above::leaders` meets its contract. Invariant: what the table says of a bus, joined with what the records that are left say, is
-- what all say. Assumes nothing.
use Rattle.sheet_above.specs.TableLaws.{LeadsFrom}
use Rattle.sheet_above.proofs.leaders.Given as goal

abbrev pub invariant-loop-k : goal.invariant-loop-k
invariant-loop-k l = LeadsFrom l.sheet l.k l.table
