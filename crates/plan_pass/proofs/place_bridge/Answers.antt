-- `plan_pass::place_bridge` meets its contract. Assumes nothing.
use native.Mathlib.Numerals.{add-one}
use native.Mathlib.Omega.{arith}
use Rattle.plan_pass.specs.CallLaws.{bridge_registers_join, bridge_next_join}
use Rattle.plan_pass.proofs.place_bridge.Goals as goal

pub bridge_registers-r-requires : goal.bridge_registers-r-requires
bridge_registers-r-requires c = (
  c.requires.0.numbered,
  c.requires.1.numbered,
  rw c.last_below.ensures c.requires.1.last_numbered,
)

pub store_cursors-requires : goal.store_cursors-requires
store_cursors-requires c = c.requires.0.room

pub store_cursors-requires-2 : goal.store_cursors-requires-2
store_cursors-requires-2 c = omega (arith, c.requires.1.room, c.store_cursors.auto.cursors)

pub returns : goal.returns
returns c = (
  bridge_registers_join _ _ _ _ c.requires.2 c.own_windows-w.ensures _ _ c.last_below.ensures c.bridge_registers-r.ensures,
  bridge_next_join
      _ _ _ _ c.requires.2 c.own_windows-w.ensures (add-one c.args.i) c.store_cursors.ensures c.store_cursors-2.ensures,
)
