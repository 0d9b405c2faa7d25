-- `sheet_above::leads_to`: both tests of the record. Assumes nothing.
use Rattle.sheet_above.specs.SearchLaws.{leads_part}
use Rattle.sheet_above.proofs.leads_to.Goals as goal

pub returns : goal.returns
returns c = rw (c.is_bridge.ensures, c.secondary_of.ensures) (leads_part _ _)
