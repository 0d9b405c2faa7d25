-- `audit_nested::is_inside`: by last addresses. Assumes nothing.
use Rattle.audit_nested.specs.NestedLaws.{inside_items}
use Rattle.audit_nested.proofs.is_inside.Goals as goal

pub returns : goal.returns
returns c = inside_items c.args.nesting c.args.a c.args.outer _ _ c.group.ensures
    c.group-2.ensures
