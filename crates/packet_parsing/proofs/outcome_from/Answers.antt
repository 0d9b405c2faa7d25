-- `packet_parsing::outcome_from` meets its contract: the fields stand at their places, and what was tested to fit is cast whole. Assumes
-- nothing.
use borrow.Author.Rules.{rules}
use Rattle.packet_parsing.specs.Parsing.{outcome_from}
use Rattle.packet_parsing.proofs.outcome_from.Goals as goal

pub returns : goal.returns
unfolding outcome_from
returns c = search rules
