-- `packet_parsing::above_messaging` meets its contract: the three parts of the test together. Assumes nothing.
use mathlib.Core.Path.{refl}
use native.Mathlib.Omega.{arith}
use Rattle.packet_numbers.specs.Numbers.{absent}
use Rattle.packet_parsing.specs.ParsingLaws.{above_parts}
use Rattle.packet_parsing.specs.Parsing.{message_most}
use Rattle.packet_parsing.proofs.above_messaging.Goals as goal

pub returns : goal.returns
returns c = rw (c.head_above.ensures, c.message_above.ensures, c.outcome_given.ensures)
    (above_parts c.args.numbers.now (omega arith) message_most absent refl refl)
