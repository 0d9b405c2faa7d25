-- `pairs::is_key` meets its contract: two calls, and one comparison. Assumes nothing.
use Rattle.pairs.proofs.is_key.Goals as goal

pub returns : goal.returns
returns c = rw (c.key.ensures, c.name_number.ensures)
