-- `tlp_layout::put` meets its contract: the front, then the body. Assumes nothing.
use mathlib.Core.Path.{◌≡◌}
use native.Mathlib.Omega.{arith}
use Rattle.endian.specs.SetsLaws.{sets_append}
use Rattle.packet.specs.declared.Head.{Head}
use Rattle.packet.specs.Fields.{head_of}
use Rattle.packet.proofs.VerdictLaws.{head_of_lawful}
use Rattle.tlp_layout.specs.Layout.{front_bytes, body_bytes}
use Rattle.tlp_layout.specs.LayoutLaws.{length_front, size_of_lawful, layout_carried}
use Rattle.tlp_layout.proofs.put.Goals as goal

pub put_front-requires : goal.put_front-requires
put_front-requires c = let long = size_of_lawful c.args.row c.args.p c.requires.0 in
    (omega (arith, long, c.requires.1), rw c.head_of.ensures (head_of_lawful c.args.row c.args.p c.requires.0))

pub put_body-requires : goal.put_body-requires
put_body-requires c = let long = size_of_lawful c.args.row c.args.p c.requires.0 in
    (c.requires.0, omega (arith, long, c.put_front.auto.room, c.requires.1), omega (arith, c.put_front.auto.room, c.requires.1))

pub returns : goal.returns
returns c = let h = head_of c.args.p in
    let head : ◌≡◌ {A = Head} c.head_of.result h = c.head_of.ensures in
    let four = rw head at c.put_front.ensures in
    rw (layout_carried c.args.row c.args.p c.requires.0)
    (sets_append c.args.room.now 0 4 (front_bytes c.args.row h) (body_bytes c.args.p) (length_front c.args.row h) four c.put_body.ensures)
