-- `records::frame::event_of` meets its contract: one equation for each stage. Assumes nothing.
use Rattle.records.proofs.frame.event_of.Goals as goal

pub returns-in-Start : goal.returns-in-Start
returns-in-Start c = rw c.in-Start.is c.version.ensures

pub returns-in-Between : goal.returns-in-Between
returns-in-Between c = rw c.in-Between.is

pub returns-in-Length : goal.returns-in-Length
returns-in-Length c = rw (c.in-Length.is, c.joined.ensures)

pub returns-in-Inside : goal.returns-in-Inside
returns-in-Inside c = rw (c.in-Inside.is, c.one_less.ensures)
