-- `index_search::search`: a header that was not accepted gives its number; what is left is the packet's own call. Assumes nothing.
use Rattle.index_search.specs.AnswerLaws.{header_refused, packet_searched}
use Rattle.index_search.proofs.search.Goals as goal

pub returns-in_default : goal.returns-in_default
returns-in_default c = header_refused _ _ _ c.read-reading.ensures _ _ c.in_default.is c.number.ensures

pub returns : goal.returns
returns c = packet_searched _ _ _ c.read-reading.ensures _ _ c.in-Accepted.is c.search_packet.ensures
