-- `route_cards::above::through`: the bridge's windows, then its bus master. Assumes nothing.
use mathlib.Core.Path.{◌≡◌, ap, ◌∙◌}
use mathlib.Core.List.{List}
use Prim.Native.Nat.{ℕ}
use lib.ListN.{length}
use native.Mathlib.Omega.{arith}
use Rattle.sheet_record.specs.Places.{record_size}
use Rattle.sheet_record.specs.Entry.{header_of, is_bridge}
use Rattle.route_cards.specs.RecordLaws.{part_fits, sized}
use Rattle.route_cards.specs.AboveLaws.{through_held, through_unmastered, through_master}
use Rattle.route_cards.proofs.above.through.Goals as goal
use Rattle.route_cards.proofs.above.through.Goals.{After-part-part}

-- its part is whole
whole : (c : After-part-part) → length c.part-part.result.now ≡ record_size
whole c = sized _ c.requires.0 _ c.requires.1.is_record _ c.part-part.ensures

pub overflow_sub-number : goal.overflow_sub-number
overflow_sub-number c = omega (arith, c.requires.1.is_record.from_1)

pub part-part-requires : goal.part-part-requires
part-part-requires c = part_fits _ c.requires.0 _ c.requires.1.is_record

pub windows_hold-requires : goal.windows_hold-requires
windows_hold-requires c = (whole (goal.at.windows_hold-requires c).After-part-part, ap (λ (p : List ℕ). is_bridge (header_of p)) c.part-part.ensures ∙ c.requires.1.is_bridge_lem)

pub returns-then-windows_hold : goal.returns-then-windows_hold
returns-then-windows_hold c = through_held _ c.requires.0 _ c.requires.1 c.args.space c.args.address _ c.part-part.ensures _
    c.windows_hold.ensures c.if-windows_hold.true

pub is_master-requires : goal.is_master-requires
is_master-requires c = whole (goal.at.is_master-requires c).After-part-part

pub returns-then-not-is_master : goal.returns-then-not-is_master
returns-then-not-is_master c = through_unmastered _ c.requires.0 _ c.requires.1 c.args.space c.args.address _ c.part-part.ensures _
    c.windows_hold.ensures
    c.if-windows_hold.false _ c.is_master.ensures (c.if-not-is_master.true)

pub bus_of-requires : goal.bus_of-requires
bus_of-requires c = whole (goal.at.bus_of-requires c).After-part-part

pub returns : goal.returns
returns c = through_master _ c.requires.0 _ c.requires.1 c.args.space c.args.address _ c.part-part.ensures _
    c.windows_hold.ensures
    c.if-windows_hold.false _ c.is_master.ensures (c.if-not-is_master.false) _ c.bus_of.ensures
