-- `audit_spans::hold_record`: its ranges, decoded, are held under its bus. Assumes nothing.
use Rattle.std.proofs.lemmas.Option.{IfSome_then}
use Rattle.audit_rising.specs.PassLaws.{takes_own}
use Rattle.audit_spans.specs.Spans.{Spread}
use Rattle.audit_spans.proofs.hold_record.Goals as goal

pub returns : goal.returns
returns c = IfSome_then c.hold_ranges.result c.hold_ranges.ensures (λ m h.
    (h.0, takes_own Spread _ _ _ c.bus_of.ensures c.ranges_of-count.ensures.0 _ _ h.1))
