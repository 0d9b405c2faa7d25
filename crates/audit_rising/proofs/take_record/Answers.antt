-- `audit_rising::take_record`: its ranges, decoded, are taken under its bus. Assumes nothing.
use Rattle.audit_rising.specs.Rising.{Rising}
use Rattle.audit_rising.specs.PassLaws.{takes_own}
use Rattle.audit_rising.proofs.take_record.Goals as goal

pub returns : goal.returns
returns c = λ e. takes_own Rising _ _ _ c.bus_of.ensures c.ranges_of-n.ensures.0 _ _ (c.take_ranges.ensures e)
