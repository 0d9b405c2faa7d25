-- `scripter::write_front` meets its contract. Assumes nothing.
use native.Mathlib.Omega.{arith}
use Rattle.scripter.specs.CallLaws.{fits_buses, fits_registers, front_written}
use Rattle.script_writes.proofs.Wrote.{wrote_length}
use Rattle.scripter.proofs.write_front.Goals as goal

pub write_pass-next-requires : goal.write_pass-next-requires
write_pass-next-requires c = record { placing = c.requires.placing; cursors_len = (c.requires.cursors_len.0, fits_buses c.args.board.now c.args.room.now c.args.from c.requires.cursors_len.1) }

pub write_pass-requires : goal.write_pass-requires
write_pass-requires c = record {
  placing = c.requires.placing;
  cursors_len = (
    omega (arith, c.write_pass-next.auto.cursors, c.requires.cursors_len.0),
    fits_registers c.args.board.now c.args.room.now c.args.from c.requires.cursors_len.1 c.write_pass-next.ensures,
  );
}

pub shape_of-cursors : goal.shape_of-cursors
shape_of-cursors c = omega (arith, c.write_pass-next.auto.cursors, c.write_pass.auto.cursors)

pub shape_of-room : goal.shape_of-room
shape_of-room c = omega (arith, wrote_length c.write_pass-next.ensures, wrote_length c.write_pass.ensures)

pub returns : goal.returns
returns c = front_written c.args.board.now c.write_pass-next.ensures c.write_pass.ensures
