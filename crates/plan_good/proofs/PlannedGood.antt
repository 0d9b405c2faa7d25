-- Every planned board is good, in both spaces: what its registers say is nested and disjoint, told by bus numbers and register values
-- alone. Assumes nothing.
use Rattle.std.specs.Prelude.{◌≡◌, List, ℕ}
use Rattle.pools.specs.declared.Space.{Space}
use Rattle.plan_rule.specs.Records.{Host, Function}
use Rattle.plan_rule.specs.Refusals.{refusal_of}
use Rattle.walk.specs.Good.{Good}
use Rattle.plan_good.specs.Boards.{Board}
use Rattle.plan_good.specs.Registers.{plan_registers, plan_host}
use Rattle.plan_good.proofs.Tree.{bridges_rise, planned_tree}
use Rattle.plan_good.proofs.Items.{nodes_plan}
use Rattle.plan_good.proofs.Kept.{kept_of_planned}
use Rattle.plan_good.proofs.Nested.{planned_nested}
use Rattle.plan_good.proofs.Disjoint.{planned_disjoint}

pub planned_good : {h : Host} {fs : List Function} → Board h fs → refusal_of h fs ≡ 0 → (sp : Space) (devfn : ℕ → ℕ)
    → Good (plan_host sp h) (plan_registers sp h fs devfn)
planned_good {h} {fs} board planned sp devfn =
    let kept = kept_of_planned h fs planned in
    record {
      bridges_rise = rw nodes_plan (bridges_rise h fs board.lawful devfn board.edges kept.buses);
      tree = rw nodes_plan (planned_tree h fs board.lawful devfn board.edges kept.buses sp);
      nested = planned_nested sp h fs board.lawful devfn kept;
      disjoint = planned_disjoint sp h fs board kept devfn;
    }
