-- `packet::enables_lawful` meets its contract. Assumes nothing.
use Rattle.packet.proofs.enables_lawful.Goals as goal

pub returns : goal.returns
returns c = rw (c.pick.ensures, c.pick-two.ensures, c.is_first.ensures, c.is_last.ensures)
