-- `route_sent::fate_of`: one case each. Assumes nothing.
use Rattle.route_sent.proofs.fate_of.Goals as goal

pub returns-in-Delivered : goal.returns-in-Delivered
returns-in-Delivered c = rw c.in-Delivered.is

pub returns-in-Host : goal.returns-in-Host
returns-in-Host c = rw c.in-Host.is

pub returns-in-Refused : goal.returns-in-Refused
returns-in-Refused c = rw c.in-Refused.is
