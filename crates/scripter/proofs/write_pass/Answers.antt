-- `scripter::write_pass` meets its contract. Assumes nothing.
use native.Mathlib.Omega.{arith}
use Rattle.scripter.specs.PassLaws.{passing_of}
use Rattle.script_writes.proofs.Wrote.{wrote_length}
use Rattle.scripter.proofs.write_pass.Goals as goal

pub fill_cursors-requires : goal.fill_cursors-requires
fill_cursors-requires c = omega (arith, c.requires.cursors_len.0)

pub pass_records-requires : goal.pass_records-requires
pass_records-requires c = passing_of _ _ _ _ _ _ _ c.requires.placing.0 c.requires.placing.1 c.bases_of.ensures c.fill_cursors.ensures (omega (
  arith,
  c.fill_cursors.auto.cursors,
  c.requires.cursors_len.0,
)) c.requires.cursors_len.1

pub shape_of-cursors : goal.shape_of-cursors
shape_of-cursors c = omega (arith, c.fill_cursors.auto.cursors, c.pass_records.auto.cursors)

pub shape_of-room : goal.shape_of-room
shape_of-room c = wrote_length c.pass_records.ensures

pub returns : goal.returns
returns c = c.pass_records.ensures
