-- `plan_tables::put` meets its contract: one store for each field. Assumes nothing.
use mathlib.Core.Path.{ap}
use lib.ListN.{set}
use Rattle.plan_tables.proofs.put.Goals as goal

pub returns : goal.returns
returns c = record {
  parents = ap (set c.args.parents.now c.args.i) c.parent_of.ensures;
  heads = ap (set c.args.heads.now c.args.i) c.head_of.ensures;
  readbacks = c.put_set.ensures;
}
