-- `script_writes::put_bars` meets its contract. Assumes nothing.
use mathlib.Core.Path.{◌≡◌, sym}
use native.Mathlib.Omega.{arith}
use Rattle.script_writes.proofs.Wrote.{wrote_nothing, wrote_append, wrote_length, bars_room}
use Rattle.script_writes.proofs.WritesLaws.{bars_snoc, slot_count_le}
use Rattle.script_writes.specs.Writes.{bar_writes}
use Rattle.sheet_record.specs.Entry.{header_of}
use Rattle.script_writes.proofs.put_bars.Goals as goal

pub slot_count-n-requires : goal.slot_count-n-requires
slot_count-n-requires c = c.requires.0

pub loop-j-init : goal.loop-j-init
unfolding bar_writes
loop-j-init c = λ k. wrote_nothing _

pub put_slot-next-requires : goal.put_slot-next-requires
put_slot-next-requires c = (
  c.requires.0,
  omega (arith, c.slot_count-n.ensures, slot_count_le (header_of c.args.part.now)),
  bars_room c.args.part.now c.slot_count-n.result c.loop-j.j (c.loop-j.invariant 0) (omega arith) (rw (sym c.slot_count-n.ensures) at c.requires.1),
)

pub loop-j-preserved : goal.loop-j-preserved
loop-j-preserved c = λ k. rw (bars_snoc k c.args.part.now c.loop-j.j) (wrote_append _ _ (c.loop-j.invariant k) (c.put_slot-next.ensures k))

pub shape_of-room : goal.shape_of-room
shape_of-room c = wrote_length (c.loop-j.invariant 0)

pub returns : goal.returns
returns c = λ k.
    let n : c.loop-j.j ≡ c.slot_count-n.result = omega arith in
    rw (n, c.slot_count-n.ensures) at (c.loop-j.invariant k)
