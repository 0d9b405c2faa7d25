-- `audit_met::is_related` meets its contract: by the relation. Assumes nothing.
use Rattle.audit_met.specs.MetLaws.{same_id, leads_related}
use Rattle.audit_met.proofs.is_related.Goals as goal

pub returns-in-SameId : goal.returns-in-SameId
returns-in-SameId c = rw c.in-SameId.is (same_id _ _ _ _ c.id_of.ensures c.id_of-in-SameId.ensures)

pub returns-in-SharedBuses : goal.returns-in-SharedBuses
returns-in-SharedBuses c = rw c.in-SharedBuses.is c.buses_shared.ensures

pub returns-in-Leads : goal.returns-in-Leads
returns-in-Leads c = rw c.in-Leads.is (leads_related _ _ _ _ c.bus_of.ensures c.leads_to.ensures)
