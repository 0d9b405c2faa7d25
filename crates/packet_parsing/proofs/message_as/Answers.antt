-- `packet_parsing::message_as` meets its contract: a routing that is reserved, then a number too large; where none is, each part is within
-- its bounds. Assumes nothing.
use mathlib.Core.Path.{sym, ◌∙◌}
use native.Mathlib.Omega.{arith}
use Rattle.packet_parsing.specs.ParsingLaws.{within_of_none}
use Rattle.packet_parsing.specs.Parsing.{messaging}
use Rattle.packet_parsing.proofs.message_as.Goals as goal

pub returns-then-is_reserved : goal.returns-then-is_reserved
returns-then-is_reserved c = rw (sym c.is_reserved.ensures ∙ c.if-is_reserved.true)

pub returns-then-above_messaging : goal.returns-then-above_messaging
returns-then-above_messaging c = let listed = sym c.is_reserved.ensures ∙ c.if-is_reserved.false in
    let above = sym c.above_messaging.ensures ∙ c.if-above_messaging.true in
    rw (c.too_large.ensures, listed, above)

pub head_from-requires : goal.head_from-requires
head_from-requires c = let none = sym c.above_messaging.ensures ∙ c.if-above_messaging.false in
    let w = within_of_none messaging c.args.numbers.now none (omega arith) in
    omega arith

pub overflow_cast-result : goal.overflow_cast-result
overflow_cast-result c = let none = sym c.above_messaging.ensures ∙ c.if-above_messaging.false in
    let w = within_of_none messaging c.args.numbers.now none (omega arith) in
    omega arith

pub returns : goal.returns
returns c = let listed = sym c.is_reserved.ensures ∙ c.if-is_reserved.false in
    let none = sym c.above_messaging.ensures ∙ c.if-above_messaging.false in
    rw (listed, none, c.head_from.ensures)
