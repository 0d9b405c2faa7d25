-- `audit_met::leads_to` meets its contract: only a bridge leads to a bus. Assumes nothing.
use Rattle.audit_met.specs.MetLaws.{leads_part}
use Rattle.audit_met.proofs.leads_to.Goals as goal

pub returns : goal.returns
returns c = leads_part _ _ _ _ c.is_bridge.ensures c.secondary_of.ensures
