-- `plan_pass::write_placed` meets its contract. Assumes nothing.
use mathlib.Core.Path.{ap, ◌∙◌}
use lib.Seq.{sets}
use Rattle.sheet_bytes.specs.declared.Registers.{Registers}
use Rattle.sheet_bytes.specs.Layout.{planned_of, record_bytes}
use Rattle.plan_pass.specs.LoopLaws.{io_bytes}
use Rattle.plan_pass.proofs.write_placed.Goals as goal

-- src/lib.rt:397:5
pub write_record-requires : goal.write_record-requires
write_record-requires c = let io = io_bytes c.args.first c.args.counts.now c.args.memo.now c.args.cursors.now c.args.i c.args.f _
    c.place_record-r.ensures.0 in
    (c.requires.stride_in_bounds, io.0, io.1)

-- src/lib.rt:376:1
pub returns : goal.returns
returns c = record {
  cursors = c.place_record-r.ensures.1;
  out = c.write_record.ensures
      ∙ ap (λ (r : Registers). sets c.args.out.now c.args.to (record_bytes (planned_of r))) c.place_record-r.ensures.0;
}
