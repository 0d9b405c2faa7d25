-- `audit_tree::first_elsewhere` meets its contract. Assumes nothing.
use mathlib.Core.Path.{sym, ap, ◌∙◌}
use native.Mathlib.Omega.{arith}
use lib.ListN.{length}
use Prim.Native.Nat.{◌≤◌}
use Rattle.sheet.specs.Sheet.{sheet_length}
use Rattle.sheet.proofs.IndexLaws.{record_fits, length_part}
use Rattle.audit_tree.specs.TreeLaws.{first_none, first_here}
use Rattle.audit_tree.proofs.first_elsewhere.Goals as goal
use Rattle.audit_tree.proofs.first_elsewhere.Goals.{Then-count-ne0}

-- there is a first record
fits : (c : Then-count-ne0) → sheet_length 1 ≤ length c.args.sheet.now
fits c = record_fits _ c.requires 0 (omega (arith, c.count.ensures, c.if-count-ne0.true))

pub returns-else-count-ne0 : goal.returns-else-count-ne0
returns-else-count-ne0 c = rw c.if-count-ne0.false (sym (first_none _ c.requires _ _ c.count.ensures c.if-count-ne0.false))

pub part-requires : goal.part-requires
part-requires c = fits (goal.at.part-requires c).Then-count-ne0

pub bus_of-requires : goal.bus_of-requires
bus_of-requires c = ap length c.part.ensures ∙ length_part c.args.sheet.now 0 (fits (goal.at.bus_of-requires c).Then-count-ne0)

pub returns-then-count-ne0 : goal.returns-then-count-ne0
returns-then-count-ne0 c = sym (first_here _ c.requires _ _ c.count.ensures c.if-count-ne0.true _ c.part.ensures _
    c.bus_of.ensures)
