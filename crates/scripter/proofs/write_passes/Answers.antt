-- `scripter::write_passes` meets its contract. Assumes nothing.
use mathlib.Core.Path.{refl}
use native.Mathlib.Omega.{arith}
use Rattle.scripter.specs.CallLaws.{fits_front, fits_commands, all_written, boot_is}
use Rattle.script_writes.proofs.Wrote.{wrote_length}
use Rattle.scripter.proofs.write_passes.Goals as goal

pub write_front-next-requires : goal.write_front-next-requires
write_front-next-requires c = record { placing = (c.requires.0, refl); cursors_len = (refl, fits_front c.args.board.now c.args.room.now c.requires.1) }

pub write_pass-requires : goal.write_pass-requires
write_pass-requires c = record {
  placing = (c.requires.0, refl);
  cursors_len = (
    omega (arith, c.write_front-next.auto.cursors),
    fits_commands c.args.board.now c.requires.1 c.write_front-next.ensures,
  );
}

pub shape_of-room : goal.shape_of-room
shape_of-room c = omega (arith, wrote_length c.write_front-next.ensures, wrote_length c.write_pass.ensures)

pub returns : goal.returns
returns c = all_written c.args.board.now c.requires.1 c.write_front-next.ensures c.args.requester (boot_is c.args.board.now c.args.host c.args.requester c.requires.0.host_read) c.write_pass.ensures
