-- `packet_parsing::above_completing` meets its contract: the three parts of the test together. Assumes nothing.
use mathlib.Core.Path.{refl}
use native.Mathlib.Omega.{arith}
use Rattle.packet_numbers.specs.Numbers.{absent}
use Rattle.packet_parsing.specs.ParsingLaws.{above_parts}
use Rattle.packet_parsing.specs.Parsing.{outcome_most}
use Rattle.packet_parsing.proofs.above_completing.Goals as goal

pub returns : goal.returns
returns c = rw (c.head_above.ensures, c.request_given.ensures, c.outcome_above.ensures)
    (above_parts c.args.numbers.now (omega arith) absent outcome_most refl refl)
