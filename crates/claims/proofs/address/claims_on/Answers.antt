-- `claims::address::claims_on`: two loops left by one label. Invariant of both: the tally joined with what is left is the answer; what is
-- left are the slots from i on, then the windows, then the records after this one. Measures: records left, slots left. Assumes nothing.
use mathlib.Core.Path.{◌≡◌, refl, sym, ap, ◌∙◌}
use mathlib.Core.Bool.{true}
use Prim.Native.Nat.{◌+◌, ◌≤◌, ◌<◌}
use native.Mathlib.Omega.{arith}
use lib.ListN.{take, length}
use Rattle.records.specs.Limits.{most_functions}
use Rattle.walk.specs.Tally.{none, join}
use Rattle.claims.specs.Claims.{tally_of}
use Rattle.claims.specs.Search.{is_live}
use Rattle.sheet_record.specs.Places.{record_size}
use Rattle.claims.specs.HitsLaws.{lawful_next, bar_hit, bar_miss, windows_turn, several_end}
use Rattle.claims.specs.TurnLaws.{slots_le, slots_inside, slots_past, claims_start, claims_end}
use Rattle.claims.specs.TurnLaws.{part_fits, number_le, sized, lawful_here, claims_here}
use Rattle.claims.proofs.address.claims_on.Goals as goal
use Rattle.claims.proofs.address.claims_on.Goals.{After-part-part, After-slot_count-slots, In-loop-i}

-- the record of this turn: its part is whole, its number fits
whole : (c : After-part-part) → length c.part-part.result.now ≡ record_size
whole c =
    sized _ c.requires _ _ c.count-records.ensures c.records-test.true _ c.part-part.ensures

numbered : (c : After-part-part) → c.records.k + 1 ≤ most_functions
numbered c =
    number_le _ c.requires _ _ c.count-records.ensures c.records-test.true

-- its slots are six at most, and the slot of a turn is one of them
few : (c : After-slot_count-slots) → c.slot_count-slots.result ≤ 6
few c = slots_le _ _ c.slot_count-slots.result 0 c.readbacks_of-set.ensures c.slot_count-slots.ensures

inside : (c : In-loop-i)
    → c.loop-i.i < length (take c.slot_count-slots.result c.readbacks_of-set.result)
inside c =
    slots_inside _ _ c.slot_count-slots.result c.loop-i.i c.readbacks_of-set.ensures c.slot_count-slots.ensures
    c.loop-i-test.true

pub count-records-requires : goal.count-records-requires
count-records-requires c = c.requires.framed

pub next_live-k-requires : goal.next_live-k-requires
next_live-k-requires c = (c.requires, omega arith)

pub records-init : goal.records-init
records-init c = (
  ap (join none) (c.next_live-k.ensures.same c.args.address) ∙ claims_start c.args.space _ c.args.address c.args.bus,
  omega (arith, c.next_live-k.ensures.within, c.count-records.ensures),
  λ h. c.next_live-k.ensures.live (omega (arith, h, c.count-records.ensures)),
)

pub part-part-requires : goal.part-part-requires
part-part-requires c = part_fits _ c.requires _ _ c.count-records.ensures c.records-test.true

pub overflow_add-k : goal.overflow_add-k
overflow_add-k c = omega (arith, numbered (goal.at.overflow_add-k c).After-part-part)

pub overflow_cast-number : goal.overflow_cast-number
overflow_cast-number c = omega (arith, numbered (goal.at.overflow_cast-number c).After-part-part)

pub readbacks_of-set-requires : goal.readbacks_of-set-requires
readbacks_of-set-requires c = whole (goal.at.readbacks_of-set-requires c).After-part-part

pub values_of-values-requires : goal.values_of-values-requires
values_of-values-requires c = whole (goal.at.values_of-values-requires c).After-part-part

pub slot_count-slots-requires : goal.slot_count-slots-requires
slot_count-slots-requires c = whole (goal.at.slot_count-slots-requires c).After-part-part

pub loop-i-init : goal.loop-i-init
loop-i-init c = let live = c.records.invariant.2 c.records-test.true ∙ ap (is_live c.args.space c.args.bus) (sym c.part-part.ensures) in (
  lawful_here _ c.requires _ _ c.count-records.ensures c.records-test.true _ c.part-part.ensures _ _
      c.readbacks_of-set.ensures c.slot_count-slots.ensures,
  claims_here _ c.requires _ _ c.count-records.ensures c.records-test.true _ c.part-part.ensures c.args.space c.args.bus
      true live c.args.address _ _ _ _ c.readbacks_of-set.ensures c.values_of-values.ensures c.slot_count-slots.ensures refl
      ∙ c.records.invariant.0,
)

pub slot_from-slot-requires : goal.slot_from-slot-requires
slot_from-slot-requires c = (omega (arith, c.loop-i-test.true), few (goal.at.slot_from-slot-requires c).After-slot_count-slots)

pub value_here-value-requires : goal.value_here-value-requires
value_here-value-requires c = omega (arith, few (goal.at.value_here-value-requires c).After-slot_count-slots)

pub overflow_add-i : goal.overflow_add-i
overflow_add-i c = omega (arith, few (goal.at.overflow_add-i c).After-slot_count-slots)

pub loop-i-smaller-else-is_several : goal.loop-i-smaller-else-is_several
loop-i-smaller-else-is_several c = omega (arith, c.span-i.ensures.1)

pub loop-i-preserved-else-is_several : goal.loop-i-preserved-else-is_several
loop-i-preserved-else-is_several c = (
  lawful_next _ _ _ _ (inside (goal.at.loop-i-preserved-else-is_several c).In-loop-i) c.slot_from-slot.ensures c.span-i.ensures.0 c.loop-i.invariant.0,
  bar_hit _ _ _ _ (inside (goal.at.loop-i-preserved-else-is_several c).In-loop-i) c.slot_from-slot.ensures c.span-i.ensures.0 c.loop-i.invariant.0 _ _ _ _ _
      c.value_here-value.ensures c.bar_holds.ensures _ _ _ _ c.with_claim-tally.ensures c.if-bar_holds.true
      ∙ c.loop-i.invariant.1,
)

pub loop-i-smaller : goal.loop-i-smaller
loop-i-smaller c = omega (arith, c.span-i.ensures.1)

pub loop-i-preserved : goal.loop-i-preserved
loop-i-preserved c = (
  lawful_next _ _ _ _ (inside (goal.at.loop-i-preserved c).In-loop-i) c.slot_from-slot.ensures c.span-i.ensures.0 c.loop-i.invariant.0,
  bar_miss _ _ _ _ (inside (goal.at.loop-i-preserved c).In-loop-i) c.slot_from-slot.ensures c.span-i.ensures.0 c.loop-i.invariant.0 _ _ _ _ _
      c.value_here-value.ensures c.bar_holds.ensures _ _ _ c.if-bar_holds.false
      ∙ c.loop-i.invariant.1,
)

pub with_windows-tally-requires : goal.with_windows-tally-requires
with_windows-tally-requires c = whole (goal.at.with_windows-tally-requires c).After-part-part

pub next_live-k-requires-in-records : goal.next_live-k-requires-in-records
next_live-k-requires-in-records c = (c.requires, omega (arith, c.records-test.true, c.count-records.ensures))

pub records-smaller : goal.records-smaller
records-smaller c = omega (arith, c.next_live-k-in-records.ensures.later, c.records-test.true)

pub records-preserved : goal.records-preserved
records-preserved c = let last =
    slots_past _ _ c.slot_count-slots.result c.loop-i.i c.readbacks_of-set.ensures c.slot_count-slots.ensures
    c.loop-i-test.false in (
      ap (join (tally_of c.with_windows-tally.result)) (c.next_live-k-in-records.ensures.same c.args.address)
          ∙ windows_turn _ _ _ _ _ _ _ _ _ _ last c.with_windows-tally.ensures ∙ c.loop-i.invariant.1,
      omega (arith, c.next_live-k-in-records.ensures.within, c.count-records.ensures),
      λ h. c.next_live-k-in-records.ensures.live (omega (arith, h, c.count-records.ensures)),
    )

pub returns-after-records : goal.returns-after-records
returns-after-records c = claims_end _ c.requires _ _ c.count-records.ensures c.args.space c.args.address c.args.bus _ c.records-test.false
    ∙ c.records.invariant.0

pub returns-then-is_several : goal.returns-then-is_several
returns-then-is_several c = several_end c.with_claim-tally.result _ _ _ c.is_several.ensures c.if-is_several.true
    (bar_hit _ _ _ _ (inside (goal.at.returns-then-is_several c).In-loop-i) c.slot_from-slot.ensures c.span-i.ensures.0 c.loop-i.invariant.0 _ _ _ _ _
    c.value_here-value.ensures c.bar_holds.ensures _ _ _ _ c.with_claim-tally.ensures c.if-bar_holds.true
    ∙ c.loop-i.invariant.1)

pub returns-then-is_several-2 : goal.returns-then-is_several-2
returns-then-is_several-2 c = let last =
    slots_past _ _ c.slot_count-slots.result c.loop-i.i c.readbacks_of-set.ensures c.slot_count-slots.ensures
    c.loop-i-test.false in
    several_end c.with_windows-tally.result _ _ _ c.is_several-in-records.ensures c.if-is_several-2.true
    (windows_turn _ _ _ _ _ _ _ _ _ _ last c.with_windows-tally.ensures ∙ c.loop-i.invariant.1)
