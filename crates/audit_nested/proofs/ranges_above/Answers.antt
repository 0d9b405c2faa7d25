-- `audit_nested::ranges_above`: by who stands above. Assumes nothing.
use Prim.Native.Nat.{◌<◌}
use native.Mathlib.Omega.{arith}
use lib.ListN.{length}
use Rattle.sheet.specs.Sheet.{entries_of}
use Rattle.sheet_above.specs.Table.{IsParent}
use Rattle.sheet_ranges.specs.SearchLaws.{part_fits, part_sized}
use Rattle.audit_nested.specs.NestedLaws.{above_host, above_bridge, above_none, above_several}
use Rattle.audit_nested.proofs.ranges_above.Goals as goal
use Rattle.audit_nested.proofs.ranges_above.Goals.{After-parent_in, In-Bridge}

parent : (c : After-parent_in)
    → IsParent c.args.sheet.now c.args.host.first_bus
    c.args.bus c.parent_in.result
parent c = c.parent_in.ensures _ c.requires.0 c.requires.1

-- a bridge that does has its record in the sheet
inside : (c : In-Bridge)
    → c.in-Bridge.k < length (entries_of c.args.sheet.now)
inside c = ((c.parent_in.ensures _ c.requires.0 c.requires.1).whole _ c.in-Bridge.is).inside

pub part-requires : goal.part-requires
part-requires c = part_fits _ c.requires.0 _ (inside (goal.at.part-requires c).In-Bridge)

pub windows_of-requires : goal.windows_of-requires
windows_of-requires c = (part_sized _ c.requires.0 _ (inside (goal.at.windows_of-requires c).In-Bridge) _ c.part.ensures, omega (arith, c.requires.2))

pub returns-in-Host : goal.returns-in-Host
returns-in-Host c = (
  above_host _ _ _ _ _ (parent (goal.at.returns-in-Host c).After-parent_in) c.in-Host.is _ c.pools_of.ensures.0,
  c.pools_of.ensures.1,
)

pub returns-in-Bridge : goal.returns-in-Bridge
returns-in-Bridge c = (
  above_bridge c.args.host _ _ _ _ (parent (goal.at.returns-in-Bridge c).After-parent_in) _ c.in-Bridge.is _ c.part.ensures _ c.windows_of.ensures.0,
  c.windows_of.ensures.1,
)

pub returns-in-Nothing : goal.returns-in-Nothing
returns-in-Nothing c = (above_none c.args.host _ _ _ _ (parent (goal.at.returns-in-Nothing c).After-parent_in) c.in-Nothing.is _, omega arith)

pub returns-in-Several : goal.returns-in-Several
returns-in-Several c = (above_several c.args.host _ _ _ _ (parent (goal.at.returns-in-Several c).After-parent_in) c.in-Several.is _, omega arith)
