-- `packet::tag_fits` meets its contract. Assumes nothing.
use Rattle.packet.proofs.tag_fits.Goals as goal

pub returns : goal.returns
returns c = rw (c.is_posted.ensures, c.kind_of.ensures, c.head_of-h.ensures)
