-- `trace_line::way_of` meets its contract, for each routing. Assumes nothing.
use mathlib.Core.Path.{refl}
use Rattle.trace_label.specs.Word.{way_text}
use Rattle.trace_line.proofs.way_of.Goals as goal

pub returns-in-Delivered : goal.returns-in-Delivered
unfolding way_text
returns-in-Delivered c = rw c.in-Delivered.is (refl, refl)

pub returns-in-Broadcast : goal.returns-in-Broadcast
unfolding way_text
returns-in-Broadcast c = rw c.in-Broadcast.is (refl, refl)

pub returns-in-Port : goal.returns-in-Port
unfolding way_text
returns-in-Port c = rw c.in-Port.is (refl, refl)

pub returns-in-Refused : goal.returns-in-Refused
unfolding way_text
returns-in-Refused c = rw c.in-Refused.is (refl, refl)
