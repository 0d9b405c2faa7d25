-- `records::Records::broke_off` meets its contract: where no part is left stands the end, or bytes that break off. Assumes nothing.
use Rattle.std.proofs.Common.{ap, sym, ◌∙◌, not}
use Rattle.records.specs.Records.{Parts}
use Rattle.records.specs.RecordsLaws.{parts_broken, whole_left}
use Rattle.records.proofs.Records.broke_off.Goals as goal

pub returns-in-Broken : goal.returns-in-Broken
returns-in-Broken c h = sym (ap (λ (r : Parts). not r.whole) (parts_broken c.args.self.now.bytes.now c.args.self.now.at (sym c.next_at.ensures ∙ c.in-Broken.is)))

pub returns-in_default : goal.returns-in_default
returns-in_default c h = sym (ap not (whole_left c.args.self.now.bytes.now c.args.self.now.at (λ e. c.in_default.not-Broken (c.next_at.ensures ∙ e)) h))
