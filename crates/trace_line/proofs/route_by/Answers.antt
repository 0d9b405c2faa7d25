-- `trace_line::route_by` meets its contract: each finder by its own search. Assumes nothing.
use mathlib.Core.Path.{subst}
use Rattle.trace_line.specs.declared.Finder.{Finder}
use Rattle.trace_line.specs.Finder.{Knows, packet_by}
use Rattle.trace_line.proofs.route_by.Goals as goal

pub route_over-requires : goal.route_over-requires
route_over-requires c = subst (λ (e : Finder). Knows e c.args.bytes.now) c.in-Sheet.is c.requires

pub returns-in-Sheet : goal.returns-in-Sheet
unfolding packet_by
returns-in-Sheet c = rw c.in-Sheet.is c.route_over.ensures

pub returns-in-Index : goal.returns-in-Index
unfolding packet_by
returns-in-Index c = rw c.in-Index.is c.search_packet.ensures
