-- `bar::is_bar_value`: the mask of a power of two takes the remainder. Assumes nothing.
use mathlib.Core.Path.{◌≡◌}
use mathlib.Core.Bool.{not}
use Rattle.std.proofs.lemmas.Grind.{common_steps}
use Rattle.pools.specs.Pools.{is_io}
use native.Mathlib.Omega.{arith}
use Rattle.bar.specs.ValuesLaws.{is_bar_value_memory}
use Rattle.bar.proofs.is_bar_value.Goals as goal

-- the derived test of two pools, in the words of the law
memory : (c : goal.After-ne) → c.ne.result ≡ not (is_io c.args.pool)
memory c = grind (arith, common_steps)

pub returns : goal.returns
returns c = is_bar_value_memory c.args.pool c.args.size c.args.r c.args.v _ _ _ _ c.requires c.type_of.ensures
    c.type_of-2.ensures c.without_type.ensures (memory c)
