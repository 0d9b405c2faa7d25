-- `sheet::is_framed` meets its contract: one turn is one law of the frame. Assumes nothing.
use Rattle.std.proofs.Common.{◌≡◌, ◌+◌, ◌-◌, ◌*◌, ◌/◌, length, sym, ap, ◌∙◌, arith}
use Rattle.endian.specs.Endian.{be}
use Rattle.sheet.specs.Sheet.{record_at}
use Rattle.sheet_record.specs.Places.{stride}
use Rattle.sheet.proofs.FrameLaws.{framed_right, framed_wrong, framed_whole}
use Rattle.sheet.proofs.is_framed.Goals as goal

pub returns-then-read_be16 : goal.returns-then-read_be16
returns-then-read_be16 c =
    let n : 92 * c.loop-k.k + 1 ≡ record_at c.loop-k.k = omega arith in
    let e = c.read_be16.ensures.0 ∙ ap (be 2 c.args.sheet.now) n in
    sym (framed_wrong _ (record_at c.loop-k.k) (omega (arith, c.loop-k-test.true)) (λ k. c.if-read_be16.true (e ∙ k))) ∙ c.loop-k.invariant

pub loop-k-preserved : goal.loop-k-preserved
loop-k-preserved c =
    let n : 92 * c.loop-k.k + 1 ≡ record_at c.loop-k.k = omega arith in
    let e = c.read_be16.ensures.0 ∙ ap (be 2 c.args.sheet.now) n in
    let m : record_at (c.loop-k.k + 1) ≡ record_at c.loop-k.k + stride = omega arith in
    rw m (sym (framed_right _ (record_at c.loop-k.k) (omega (arith, c.loop-k-test.true)) (sym e ∙ c.if-read_be16.false)) ∙ c.loop-k.invariant)

pub returns : goal.returns
returns c =
    let n : c.loop-k.k ≡ (length c.args.sheet.now - 1) / stride = omega (arith, c.loop-k-test.false) in
    framed_whole _ c.requires (rw n at c.loop-k.invariant)
