-- `audit_where::audit_where` meets its contract: the audit's number, and whom it is about. Assumes nothing.
use Rattle.audit_where.specs.WhereLaws.{finding_is}
use Rattle.audit_where.proofs.audit_where.Goals as goal

pub returns : goal.returns
returns c = finding_is c.args.host.now c.args.sheet.now _ c.audit-number.ensures _ c.parties.ensures
