-- `packet_parsing::above_by_address` meets its contract: the three parts of the test together. Assumes nothing.
use mathlib.Core.Path.{refl}
use native.Mathlib.Omega.{arith}
use Rattle.packet_numbers.specs.Numbers.{absent}
use Rattle.packet_parsing.specs.ParsingLaws.{above_parts}
use Rattle.packet_parsing.specs.Parsing.{qword, request_most}
use Rattle.packet_parsing.proofs.above_by_address.Goals as goal

pub returns : goal.returns
returns c = rw (c.head_above.ensures, c.request_above.ensures, c.outcome_given.ensures)
    (above_parts c.args.numbers.now (omega arith) (request_most qword 0 0) absent refl refl)
