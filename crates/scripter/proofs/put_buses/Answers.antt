-- `scripter::put_buses` meets its contract. Assumes nothing.
use mathlib.Core.Path.{◌≡◌, refl, sym, ◌∙◌}
use mathlib.Core.Bool.{true}
use Prim.Native.Nat.{◌+◌, ◌*◌, ◌%◌, ◌<◌}
use native.Mathlib.Omega.{arith}
use native.Mathlib.Numerals.{add-one}
use Rattle.board_record.specs.Function.{is_bridge, function_of_part}
use Rattle.script_writes.proofs.Wrote.{wrote_if_not, wrote_if, room_if}
use Rattle.scripter.proofs.put_buses.Goals as goal
use Rattle.scripter.proofs.put_buses.Goals.{Else-not-is_bridge}

-- it is a bridge
bridge : (c : Else-not-is_bridge) → is_bridge (function_of_part c.args.part.now) ≡ true
bridge c = sym c.is_bridge.ensures ∙ c.if-not-is_bridge.false

pub returns-then-not-is_bridge : goal.returns-then-not-is_bridge
returns-then-not-is_bridge c = λ k. wrote_if_not _ _ (sym c.is_bridge.ensures ∙ c.if-not-is_bridge.true)

pub number_at-primary-requires : goal.number_at-primary-requires
number_at-primary-requires c = rw c.parent_of-parent.ensures c.requires.part_value.1.own

pub last_below-last-requires : goal.last_below-last-requires
last_below-last-requires c = c.requires.part_value.1.stored (bridge (goal.at.last_below-last-requires c).Else-not-is_bridge)

pub overflow_add-i : goal.overflow_add-i
overflow_add-i c = omega (arith, c.requires.part_value.1.stored (bridge (goal.at.overflow_add-i c).Else-not-is_bridge))

pub overflow_add-i-2 : goal.overflow_add-i-2
overflow_add-i-2 c = omega (arith, c.requires.part_value.1.stored (bridge (goal.at.overflow_add-i-2 c).Else-not-is_bridge))

pub number_at-requires : goal.number_at-requires
number_at-requires c = rw (add-one c.args.i) (c.requires.part_value.1.below (bridge (goal.at.number_at-requires c).Else-not-is_bridge))

pub number_at-requires-2 : goal.number_at-requires-2
number_at-requires-2 c = rw (c.last_below-last.ensures, c.parent_of-parent.ensures)
    (c.requires.part_value.1.last (bridge (goal.at.number_at-requires-2 c).Else-not-is_bridge))

pub put_known-requires : goal.put_known-requires
put_known-requires c = let h = room_if _ _ _ 1 _ (bridge (goal.at.put_known-requires c).Else-not-is_bridge) refl c.requires.part_in_bounds in
    (record { inside = omega arith; aligned = refl }, omega (arith, h))

pub returns : goal.returns
returns c = let small : c.id_of-id.result < 65536 = omega arith in
    let same : c.id_of-id.result ≡ (c.number_at-primary.result * 256 + c.devfn_of.result) % 65536 =
    omega (arith, c.id_of-id.ensures, small) in
    λ k.
    wrote_if _ _ (bridge (goal.at.returns c).Else-not-is_bridge)
    (rw (
      same,
      c.number_at-primary.ensures.0,
      c.number_at.ensures.0,
      c.number_at-2.ensures.0,
      c.last_below-last.ensures,
      c.devfn_of.ensures,
      c.parent_of-parent.ensures,
      add-one c.args.i,
    ) at (c.put_known.ensures k))
