-- `plan_pass::place_at` meets its contract: what is placed is the function at the place. Assumes nothing.
use mathlib.Core.Path.{◌≡◌, sym, ap, subst, ◌∙◌}
use mathlib.Core.Bool.{true}
use lib.Seq.{sets}
use Rattle.board_record.specs.declared.Function.{Function}
use Rattle.board_record.specs.Function.{is_bridge}
use Rattle.plan_pass.specs.Step.{record_of, cursors_next, Placeable, Bridged}
use Rattle.plan_pass.proofs.place_at.Goals as goal

-- src/lib.rt:345:5
pub write_placed-requires : goal.write_placed-requires
write_placed-requires c = let read = sym c.function_at-f.ensures in record {
  placeable = (
    subst (λ (f : Function). Placeable c.args.first c.args.counts.now c.args.cursors.now f) read c.requires.placeable.0,
    subst
        (λ (f : Function). is_bridge f ≡ true
        → Bridged c.args.first c.args.counts.now c.args.memo.now c.args.cursors.now c.args.i f.parent)
        read c.requires.placeable.1,
  );
  stride_in_bounds = c.requires.placeable.2;
}

-- src/lib.rt:318:1
pub returns : goal.returns
returns c = record {
  cursors = c.write_placed.ensures.cursors ∙ ap (λ (f : Function). cursors_next c.args.memo.now c.args.cursors.now c.args.i f) c.function_at-f.ensures;
  out = c.write_placed.ensures.out ∙ ap
      (λ (f : Function). sets c.args.out.now c.args.to (record_of c.args.first c.args.counts.now c.args.memo.now c.args.cursors.now c.args.i f)) c.function_at-f.ensures;
}
