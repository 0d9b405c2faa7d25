-- `audit_where::parties` meets its contract: by what the number says of the host record and the sheet. Assumes nothing.
use mathlib.Core.Path.{ap, ◌∙◌}
use Rattle.board_record.specs.declared.Host.{Host}
use Rattle.board_record.specs.Host.{host_of_part}
use Rattle.sheet.specs.Sheet.{entries_of}
use Rattle.audit_finding.specs.Finding.{check_of, first_failing}
use Rattle.audit_where.specs.WhereLaws.{framed_of_named, checked_of_large}
use Rattle.audit_where.proofs.parties.Goals as goal

pub own_parties-requires : goal.own_parties-requires
own_parties-requires c = (c.if-number-lt50.true, framed_of_named c.args.host.now c.args.sheet.now _ c.requires)

pub returns-then-number-lt50 : goal.returns-then-number-lt50
returns-then-number-lt50 c = c.own_parties.ensures (host_of_part c.args.host.now)

pub host_of-requires : goal.host_of-requires
host_of-requires c = (checked_of_large c.args.host.now c.args.sheet.now _ c.requires c.if-number-lt50.false).0

pub under_parties-requires : goal.under_parties-requires
under_parties-requires c = (c.if-number-lt50.false, (checked_of_large c.args.host.now c.args.sheet.now _ c.requires c.if-number-lt50.false).1)

pub returns : goal.returns
returns c = c.under_parties.ensures
    ∙ ap (λ (h : Host). first_failing (check_of c.args.number) h (entries_of c.args.sheet.now)) c.host_of.ensures
