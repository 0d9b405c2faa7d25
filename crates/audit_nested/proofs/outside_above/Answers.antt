-- `audit_nested::outside_above`: its ranges, and those above. Assumes nothing.
use Rattle.audit_nested.specs.NestedLaws.{outside_above_part}
use Rattle.audit_nested.proofs.outside_above.Goals as goal

pub returns : goal.returns
returns c = outside_above_part c.args.nesting c.args.host _ _ _ _ _ _ c.bus_of.ensures c.ranges_of-n.ensures.0
    c.ranges_above-m.ensures.0
    c.any_outside.ensures
