-- `audit_tree::parent_wrong` meets its contract: by who stands above. Assumes nothing.
use mathlib.Core.Path.{sym, ap, ◌∙◌}
use Prim.Native.Nat.{◌+◌, ◌≤◌}
use lib.ListN.{length}
use Rattle.sheet.specs.Sheet.{sheet_length}
use Rattle.sheet.proofs.IndexLaws.{record_fits, length_part}
use Rattle.sheet_above.specs.Table.{IsParent}
use Rattle.audit_tree.specs.TreeLaws.{parent_host, parent_bridge, parent_none, parent_several}
use Rattle.audit_tree.proofs.parent_wrong.Goals as goal
use Rattle.audit_tree.proofs.parent_wrong.Goals.{After-parent_in, In-Bridge}

-- who stands above
parent : (c : After-parent_in)
    → IsParent c.args.sheet.now c.args.root
    c.bus_of.result c.parent_in.result
parent c = c.parent_in.ensures _ c.requires.0 c.requires.1

-- a bridge that does has its record in the sheet
fits : (c : In-Bridge)
    → sheet_length (c.in-Bridge.k + 1)
    ≤ length c.args.sheet.now
fits c =
    record_fits _ c.requires.0.framed _ ((c.parent_in.ensures _ c.requires.0 c.requires.1).whole _ c.in-Bridge.is).inside

pub part-above-requires : goal.part-above-requires
part-above-requires c = fits (goal.at.part-above-requires c).In-Bridge

pub secondary_of-requires : goal.secondary_of-requires
secondary_of-requires c = ap length c.part-above.ensures ∙ length_part _ _ (fits (goal.at.secondary_of-requires c).In-Bridge)

pub subordinate_of-requires : goal.subordinate_of-requires
subordinate_of-requires c = ap length c.part-above.ensures ∙ length_part _ _ (fits (goal.at.subordinate_of-requires c).In-Bridge)

pub returns-in-Host : goal.returns-in-Host
returns-in-Host c = sym (parent_host _ _ _ _ c.bus_of.ensures _ (parent (goal.at.returns-in-Host c).After-parent_in) c.in-Host.is)

pub returns-in-Bridge : goal.returns-in-Bridge
returns-in-Bridge c = c.buses_outside.ensures
    ∙ sym (parent_bridge _ _ _ _ c.bus_of.ensures _ (parent (goal.at.returns-in-Bridge c).After-parent_in) _ c.in-Bridge.is _ c.part-above.ensures _ _
    c.secondary_of.ensures c.subordinate_of.ensures)

pub returns-in-Nothing : goal.returns-in-Nothing
returns-in-Nothing c = sym (parent_none _ _ _ _ c.bus_of.ensures _ (parent (goal.at.returns-in-Nothing c).After-parent_in) c.in-Nothing.is)

pub returns-in-Several : goal.returns-in-Several
returns-in-Several c = sym (parent_several _ _ _ _ c.bus_of.ensures _ (parent (goal.at.returns-in-Several c).After-parent_in) c.in-Several.is)
