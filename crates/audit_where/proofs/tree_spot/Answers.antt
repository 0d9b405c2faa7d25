-- `audit_where::tree_spot` meets its contract: sentence by sentence. Assumes nothing.
use mathlib.Core.Path.{refl, sym}
use native.Mathlib.Omega.{arith}
use Rattle.sheet_ranges.specs.SearchLaws.{part_fits, part_sized}
use Rattle.audit_where.specs.UnderLaws.{tree_off, tree_nowhere, tree_up, tree_right, tree_shared}
use Rattle.audit_where.proofs.tree_spot.Goals as goal

pub part-part-requires : goal.part-part-requires
part-part-requires c = part_fits _ c.requires.0 _ c.requires.2

pub bus_of-bus-requires : goal.bus_of-bus-requires
bus_of-bus-requires c = part_sized _ c.requires.0 _ c.requires.2 _ c.part-part.ensures

pub returns-then-k-bus : goal.returns-then-k-bus
returns-then-k-bus c = rw c.at.ensures (
    tree_off c.args.host c.args.sheet.now c.args.k _ c.part-part.ensures _ c.bus_of-bus.ensures _ refl c.if-k-bus.true)

pub returns-then-not-has_parent : goal.returns-then-not-has_parent
returns-then-not-has_parent c = tree_nowhere c.args.host c.args.sheet.now c.args.k _ c.part-part.ensures _ c.bus_of-bus.ensures _ refl c.if-k-bus.false _
    (c.has_parent.ensures _ c.requires.0 c.requires.1) (c.if-not-has_parent.true) _
    refl _ (c.bridge.ensures _ c.first_met.ensures)

pub way_up_wrong-requires : goal.way_up_wrong-requires
way_up_wrong-requires c = (c.requires.0, c.requires.1, part_sized _ c.requires.0 _ c.requires.2 _ c.part-part.ensures)

pub returns-then-way_up_wrong : goal.returns-then-way_up_wrong
returns-then-way_up_wrong c = rw c.at-then-way_up_wrong.ensures (
    tree_up c.args.host c.args.sheet.now c.args.k _ c.part-part.ensures _ c.bus_of-bus.ensures _ refl c.if-k-bus.false _
    (c.has_parent.ensures _ c.requires.0 c.requires.1) (c.if-not-has_parent.false) _
    c.way_up_wrong.ensures c.if-way_up_wrong.true)

pub returns-in_err-number : goal.returns-in_err-number
returns-in_err-number c = rw c.from_residual.ensures (tree_right c.args.host c.args.sheet.now c.args.k _ c.part-part.ensures
    _ c.bus_of-bus.ensures _ refl c.if-k-bus.false _
    (c.has_parent.ensures _ c.requires.0 c.requires.1) (c.if-not-has_parent.false) _
    c.way_up_wrong.ensures c.if-way_up_wrong.false _ (sym c.in_err-number.ensures) refl)

pub returns : goal.returns
returns c = tree_shared c.args.host c.args.sheet.now c.args.k _ c.part-part.ensures _ c.bus_of-bus.ensures _ refl c.if-k-bus.false _
    (c.has_parent.ensures _ c.requires.0 c.requires.1) (c.if-not-has_parent.false) _
    c.way_up_wrong.ensures c.if-way_up_wrong.false _ c.in_ok-number.ensures.0 (λ z. omega (arith, c.in_ok-number.ensures.1))
