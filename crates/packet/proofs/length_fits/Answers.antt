-- `packet::length_fits` meets its contract. Assumes nothing.
use Rattle.packet.specs.Widths.{length_fits}
use Rattle.packet.proofs.length_fits.Goals as goal

pub returns-in-Memory : goal.returns-in-Memory
unfolding length_fits
returns-in-Memory c = rw c.in-Memory.is c.length_in.ensures

pub returns-in-Io : goal.returns-in-Io
unfolding length_fits
returns-in-Io c = rw c.in-Io.is c.length_in-in-Io.ensures

pub returns-in-Config : goal.returns-in-Config
unfolding length_fits
returns-in-Config c = rw c.in-Config.is c.length_in-in-Config.ensures

pub returns-in-Cpl : goal.returns-in-Cpl
unfolding length_fits
returns-in-Cpl c = rw (c.in-Completion.is, c.in-Cpl.is)

pub returns-in-CplD : goal.returns-in-CplD
unfolding length_fits
returns-in-CplD c = rw (c.in-Completion.is, c.in-CplD.is) c.length_in-in-CplD.ensures

pub returns-in-CplLk : goal.returns-in-CplLk
unfolding length_fits
returns-in-CplLk c = rw (c.in-Completion.is, c.in-CplLk.is)

pub returns-in-CplDLk : goal.returns-in-CplDLk
unfolding length_fits
returns-in-CplDLk c = rw (c.in-Completion.is, c.in-CplDLk.is) c.length_in-in-CplDLk.ensures

pub returns-in-Msg : goal.returns-in-Msg
unfolding length_fits
returns-in-Msg c = rw (c.in-Message.is, c.in-Msg.is)

pub returns-in-MsgD : goal.returns-in-MsgD
unfolding length_fits
returns-in-MsgD c = rw (c.in-Message.is, c.in-MsgD.is) c.length_in-in-MsgD.ensures
