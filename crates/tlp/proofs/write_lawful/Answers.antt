-- `tlp::write_lawful` meets its contract: room enough, then the layout. Assumes nothing.
use mathlib.Core.Path.{◌≡◌, ap, ◌∙◌}
use native.Mathlib.Omega.{arith}
use Rattle.packet.specs.declared.Head.{Head}
use Rattle.packet.specs.Fields.{head_of}
use Rattle.tlp.specs.WritingLaws.{outcome_short, outcome_written}
use Rattle.tlp.proofs.write_lawful.Goals as goal

pub returns-then-room-n : goal.returns-then-room-n
returns-then-room-n c = outcome_short _ _ _ c.requires (rw (← c.head_of-h.ensures, ← c.size_of-n.ensures) c.if-room-n.true)

pub put-requires : goal.put-requires
put-requires c = let form = ap (λ (h : Head). h.form) c.head_of-h.ensures in
    (c.requires, omega (arith, form, c.size_of-n.ensures, c.if-room-n.false))

pub returns : goal.returns
returns c = let head : ◌≡◌ {A = Head} c.head_of-h.result (head_of c.args.p) = c.head_of-h.ensures in
    let form = ap (λ (h : Head). h.form) head in
    let w = outcome_written c.args.row c.args.p c.args.room.now c.requires (omega (arith, form, c.size_of-n.ensures, c.if-room-n.false)) in
    (rw (c.size_of-n.ensures, head) w.0, c.put.ensures ∙ w.1)
