-- `script_writes::put_registers` meets its contract. Assumes nothing.
use mathlib.Core.List.{[]}
use mathlib.Core.Bool.{true, cond}
use mathlib.Core.Path.{◌≡◌, refl, sym, ◌∙◌}
use native.Mathlib.Omega.{arith}
use lib.ListN.{length-append}
use Rattle.script_writes.proofs.Wrote.{wrote_append, wrote_if, wrote_if_not, wrote_length, room_left_if}
use Rattle.script_writes.specs.Writes.{bar_writes, window_writes}
use Rattle.sheet_record.specs.Entry.{header_of, is_bridge, slot_count}
use Rattle.script_writes.proofs.put_registers.Goals as goal

pub put_bars-next-requires : goal.put_bars-next-requires
put_bars-next-requires c = (
  c.requires.0,
  omega (
    arith,
    length-append (bar_writes 0 c.args.part.now (slot_count (header_of c.args.part.now)) 0) (cond (is_bridge
        (header_of c.args.part.now)) (window_writes 0 c.args.part.now) []),
    c.requires.1,
  ),
)

pub shape_of-room-then-not-is_bridge : goal.shape_of-room-then-not-is_bridge
shape_of-room-then-not-is_bridge c = wrote_length (c.put_bars-next.ensures 0)

pub returns-then-not-is_bridge : goal.returns-then-not-is_bridge
returns-then-not-is_bridge c = λ k.
    wrote_append _ _ (c.put_bars-next.ensures k) (wrote_if_not _ _ (sym c.is_bridge.ensures ∙ c.if-not-is_bridge.true))

pub put_windows-requires : goal.put_windows-requires
put_windows-requires c = let t : is_bridge (header_of c.args.part.now) ≡ true = sym c.is_bridge.ensures ∙ c.if-not-is_bridge.false in (
  c.requires.0,
  room_left_if (bar_writes 0 c.args.part.now (slot_count (header_of c.args.part.now)) 0) (is_bridge (header_of c.args.part.now)) (window_writes 0 c.args.part.now) 5 t refl (c.put_bars-next.ensures 0) c.requires.1,
)

pub shape_of-room : goal.shape_of-room
shape_of-room c = omega (arith, wrote_length (c.put_bars-next.ensures 0), wrote_length (c.put_windows.ensures 0))

pub returns : goal.returns
returns c = λ k.
    wrote_append _ _ (c.put_bars-next.ensures k) (wrote_if _ _ (sym c.is_bridge.ensures ∙ c.if-not-is_bridge.false)
    (c.put_windows.ensures k))
