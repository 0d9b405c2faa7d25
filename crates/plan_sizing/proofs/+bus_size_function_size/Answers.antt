-- `plan_sizing::bus_size` and `plan_sizing::function_size` meet their contracts. The measure is the depth that remains and the records
-- left, and one more for a bus: from a bus to its function neither rises, from a bridge to its bus both fall. The invariant of the loop
-- over a bus is `OnBus`: what is still to come, from what was laid out, comes to what the bus comes to; its measure is the records left.
-- Assumes nothing.
use mathlib.Core.Path.{sym, ap, ◌∙◌}
use Prim.Native.Nat.{◌*◌}
use native.Mathlib.Omega.{arith}
use lib.Seq.{sets}
use Rattle.plan_sizing.specs.declared.Laid.{Laid}
use Rattle.plan_sizing.specs.Memo.{numbers_of}
use Rattle.plan_sizing.specs.BusLaws.{on_bus_start, on_bus_length, on_bus_end, child_within, lt_next_of_turn}
use Rattle.plan_sizing.specs.BusLaws.{on_bus_turn}
use Rattle.plan_sizing.specs.BridgeLaws.{depth_left, inside_standing, inner_align_power, leaf_walked}
use Rattle.plan_sizing.specs.BridgeLaws.{bridge_walked}
use Rattle.bar.specs.Header.{is_bridge}
use Rattle.plan_sizing.proofs.+bus_size_function_size.Goals as goal

pub bus_size-loop-memo-init : goal.bus_size-loop-memo-init
bus_size-loop-memo-init t c = on_bus_start c.requires

pub bus_size-loop-memo-smaller : goal.bus_size-loop-memo-smaller
bus_size-loop-memo-smaller t c = let child = sym c.is_child.ensures ∙ c.loop-memo-test.true in
    omega (arith, child_within c.loop-memo.invariant child, lt_next_of_turn c.loop-memo.invariant child c.function_size-l.ensures)

pub bus_size-loop-memo-preserved : goal.bus_size-loop-memo-preserved
bus_size-loop-memo-preserved t c = on_bus_turn c.loop-memo.invariant (sym c.is_child.ensures ∙ c.loop-memo-test.true) c.function_size-l.ensures

pub bus_size-shape_of-memo : goal.bus_size-shape_of-memo
bus_size-shape_of-memo t c = on_bus_length c.loop-memo.invariant

pub bus_size-returns : goal.bus_size-returns
bus_size-returns t c = on_bus_end c.loop-memo.invariant (sym c.is_child.ensures ∙ c.loop-memo-test.false)

pub function_size-overflow_add-i : goal.function_size-overflow_add-i
function_size-overflow_add-i t c = omega (arith, c.requires.1)

pub function_size-overflow_add-i-then-is_bridge : goal.function_size-overflow_add-i-then-is_bridge
function_size-overflow_add-i-then-is_bridge t c = omega (arith, c.requires.1)

pub function_size-overflow_sub-depth : goal.function_size-overflow_sub-depth
function_size-overflow_sub-depth t c = depth_left c.requires.0 c.requires.1

pub function_size-bus_size-bus-requires : goal.function_size-bus_size-bus-requires
function_size-bus_size-bus-requires t c = let left = depth_left c.requires.0 c.requires.1 in
    (omega (arith, c.requires.1, left, ap (λ (x : Laid). x.next) c.laid_from-inside.ensures), inside_standing c.requires.0 c.requires.1 c.laid_from-inside.ensures)

pub function_size-with_windows-requires : goal.function_size-with_windows-requires
function_size-with_windows-requires t c = inner_align_power c.requires.0 c.requires.1 c.laid_from-inside.ensures c.bus_size-bus.ensures c.spare_at.ensures.0
    c.with_spare-inner.ensures

pub function_size-returns-then-is_bridge : goal.function_size-returns-then-is_bridge
function_size-returns-then-is_bridge t c = bridge_walked c.requires.0 c.requires.1 c.laid_from-inside.ensures c.bus_size-bus.ensures c.spare_at.ensures.0
    c.with_spare-inner.ensures
    (ap is_bridge (sym c.header_at.ensures) ∙ sym c.is_bridge.ensures ∙ c.if-is_bridge.true) c.own_bars-own.ensures
    c.store.ensures c.with_windows.ensures

pub function_size-returns : goal.function_size-returns
function_size-returns t c = let none = ap (λ (x : Laid). sets c.args.memo.now (7 * c.args.l.next) (numbers_of x))
    c.laid_from.ensures in
    leaf_walked c.requires.0 c.requires.1
    (ap is_bridge (sym c.header_at.ensures) ∙ sym c.is_bridge.ensures ∙ c.if-is_bridge.false) c.own_bars-own.ensures
    (c.store-2.ensures ∙ none)
