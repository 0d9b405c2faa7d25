-- `scripter::put_placed` meets its contract. Assumes nothing.
use mathlib.Core.Path.{ap, ◌∙◌}
use lib.ListN.{length}
use Rattle.scripter.specs.PassLaws.{laid_out}
use Rattle.script_writes.proofs.Wrote.{wrote_length}
use Rattle.sheet_bytes.proofs.LayoutLaws.{length_part_bytes}
use Rattle.scripter.proofs.put_placed.Goals as goal

pub put_registers-requires : goal.put_registers-requires
put_registers-requires c = let part-is = laid_out _ _ c.place_at.ensures.out in
    (ap length part-is ∙ length_part_bytes _, rw part-is c.requires.n_in_bounds)

pub shape_of-room : goal.shape_of-room
shape_of-room c = wrote_length (c.put_registers.ensures 0)

pub returns : goal.returns
returns c = let part-is = laid_out _ _ c.place_at.ensures.out in
    record { cursors = c.place_at.ensures.cursors; room = (λ k. rw part-is at (c.put_registers.ensures k)) }
