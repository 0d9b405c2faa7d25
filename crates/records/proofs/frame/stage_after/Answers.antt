-- `records::frame::stage_after` meets its contract: one equation for each event. Assumes nothing.
use Rattle.records.proofs.frame.stage_after.Goals as goal

pub returns-in-Half : goal.returns-in-Half
returns-in-Half c = rw c.in-Half.is

pub returns-in-Begins : goal.returns-in-Begins
returns-in-Begins c = rw c.in-Begins.is c.inside.ensures

pub returns-in-Byte : goal.returns-in-Byte
returns-in-Byte c = rw c.in-Byte.is c.inside-in-Byte.ensures
