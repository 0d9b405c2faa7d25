-- `script_writes::put_windows` meets its contract. Assumes nothing.
use mathlib.Core.Path.{refl}
use Prim.Native.Nat.{◌+◌, ◌*◌, ◌≤◌}
use native.Mathlib.Omega.{arith}
use lib.ListN.{length}
use Rattle.script_writes.specs.Script.{write_stride}
use Rattle.script_writes.proofs.Wrote.{wrote_append, wrote_length, room_left_lem}
use Rattle.script_writes.proofs.put_windows.Goals as goal

pub put_write-low-requires : goal.put_write-low-requires
put_write-low-requires c = let h0 : c.args.from.at + write_stride * 5 ≤ length c.args.room.now = c.requires.1 in
    let h1 = room_left_lem 4 1 (c.put_write-io.ensures 0) refl h0 in
    (c.requires.0, record { inside = omega arith; aligned = refl }, omega (arith, h1))

pub put_write-high-requires : goal.put_write-high-requires
put_write-high-requires c = let h0 : c.args.from.at + write_stride * 5 ≤ length c.args.room.now = c.requires.1 in
    let h1 = room_left_lem 4 1 (c.put_write-io.ensures 0) refl h0 in
    let h2 = room_left_lem 3 1 (c.put_write-low.ensures 0) refl h1 in
    (c.requires.0, record { inside = omega arith; aligned = refl }, omega (arith, h2))

pub put_write-base-requires : goal.put_write-base-requires
put_write-base-requires c = let h0 : c.args.from.at + write_stride * 5 ≤ length c.args.room.now = c.requires.1 in
    let h1 = room_left_lem 4 1 (c.put_write-io.ensures 0) refl h0 in
    let h2 = room_left_lem 3 1 (c.put_write-low.ensures 0) refl h1 in
    let h3 = room_left_lem 2 1 (c.put_write-high.ensures 0) refl h2 in
    (c.requires.0, record { inside = omega arith; aligned = refl }, omega (arith, h3))

pub put_write-requires : goal.put_write-requires
put_write-requires c = let h0 : c.args.from.at + write_stride * 5 ≤ length c.args.room.now = c.requires.1 in
    let h1 = room_left_lem 4 1 (c.put_write-io.ensures 0) refl h0 in
    let h2 = room_left_lem 3 1 (c.put_write-low.ensures 0) refl h1 in
    let h3 = room_left_lem 2 1 (c.put_write-high.ensures 0) refl h2 in
    let h4 = room_left_lem 1 1 (c.put_write-base.ensures 0) refl h3 in
    (c.requires.0, record { inside = omega arith; aligned = refl }, omega (arith, h4))

pub shape_of-room : goal.shape_of-room
shape_of-room c = omega (
  arith,
  wrote_length (c.put_write-io.ensures 0),
  wrote_length (c.put_write-low.ensures 0),
  wrote_length (c.put_write-high.ensures 0),
  wrote_length (c.put_write-base.ensures 0),
  wrote_length (c.put_write.ensures 0),
)

pub returns : goal.returns
returns c = λ k.
    let w1 = c.put_write-io.ensures k in
    let w2 = c.put_write-low.ensures k in
    let w3 = c.put_write-high.ensures k in
    let w4 = c.put_write-base.ensures k in
    let w5 = c.put_write.ensures k in
    wrote_append _ _ w1 (wrote_append _ _ w2 (wrote_append _ _ w3 (wrote_append _ _ w4 w5)))
