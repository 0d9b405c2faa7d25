-- `tlp_fields::message_length` meets its contract. Assumes nothing.
use Rattle.tlp_fields.proofs.message_length.Goals as goal

pub returns-in-MsgD : goal.returns-in-MsgD
returns-in-MsgD c = rw c.in-MsgD.is c.length_of.ensures
