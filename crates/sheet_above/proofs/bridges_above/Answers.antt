-- `sheet_above::bridges_above` meets its contract. Invariant: the bridges met so far and those above the bus reached are all. Measure: the
-- bus. Assumes nothing.
use Prim.Native.Nat.{◌<◌}
use native.Mathlib.Omega.{arith}
use lib.ListN.{length}
use Rattle.sheet.specs.Sheet.{entries_of}
use Rattle.sheet.proofs.IndexLaws.{record_fits}
use Rattle.sheet_above.specs.Table.{IsParent}
use Rattle.sheet_above.specs.BridgesLaws.{part_sized, up_start, up_end, bridge_inside, up_few}
use Rattle.sheet_above.specs.BridgesLaws.{up_less, up_bridge}
use Rattle.sheet_above.proofs.bridges_above.Goals as goal
use Rattle.sheet_above.proofs.bridges_above.Goals.{After-parent_in, In-Bridge}

-- who stands above the bus reached
told : (c : After-parent_in)
    → IsParent c.args.sheet.now c.args.root c.loop-k.at
    c.parent_in.result
told c = c.parent_in.ensures _ c.requires.0.checked c.requires.0.leads

-- a bridge has its record in the sheet
inside : (c : In-Bridge)
    → c.in-Bridge.k < length (entries_of c.args.sheet.now)
inside c =
    bridge_inside _ _ _ c.requires.0 _ _ _ _ _ c.loop-k.invariant _ (c.parent_in.ensures _ c.requires.0.checked c.requires.0.leads) _
    c.in-Bridge.is

pub loop-k-init : goal.loop-k-init
loop-k-init c = up_start _ _ _ c.requires.0 _ c.requires.1

pub parent_in-requires : goal.parent_in-requires
parent_in-requires c = c.requires.0.leads.size

pub part-part-requires : goal.part-part-requires
part-part-requires c = record_fits _ c.requires.0.checked.framed _ (inside (goal.at.part-part-requires c).In-Bridge)

pub overflow_add-count : goal.overflow_add-count
overflow_add-count c = let few =
    up_few _ _ _ c.requires.0 _ _ _ _ _ c.loop-k.invariant _ (told (goal.at.overflow_add-count c).After-parent_in) _
    c.in-Bridge.is in
    omega (arith, few)

pub is_enabled-memory-requires : goal.is_enabled-memory-requires
is_enabled-memory-requires c = part_sized _ c.requires.0.checked.framed _ (inside (goal.at.is_enabled-memory-requires c).In-Bridge) _ c.part-part.ensures

pub is_enabled-io-requires : goal.is_enabled-io-requires
is_enabled-io-requires c = part_sized _ c.requires.0.checked.framed _ (inside (goal.at.is_enabled-io-requires c).In-Bridge) _
    c.part-part.ensures

pub bus_of-at-requires : goal.bus_of-at-requires
bus_of-at-requires c = part_sized _ c.requires.0.checked.framed _ (inside (goal.at.bus_of-at-requires c).In-Bridge) _
    c.part-part.ensures

pub loop-k-smaller : goal.loop-k-smaller
loop-k-smaller c = up_less _ _ _ c.requires.0 _ _ _ _ _ c.loop-k.invariant _ (told (goal.at.loop-k-smaller c).After-parent_in) _
    c.in-Bridge.is _ c.part-part.ensures _ c.bus_of-at.ensures

pub loop-k-preserved : goal.loop-k-preserved
loop-k-preserved c = up_bridge _ _ _ c.requires.0 _ _ _ _ _ c.loop-k.invariant _ (told (goal.at.loop-k-preserved c).After-parent_in) _
    c.in-Bridge.is _ c.part-part.ensures _ c.bus_of-at.ensures _ _ c.is_enabled-memory.ensures
    c.is_enabled-io.ensures

pub returns : goal.returns
returns c = up_end _ _ _ c.requires.0 _ _ _ _ _ c.loop-k.invariant _ (told (goal.at.returns c).After-parent_in) c.in_default.not-Bridge
