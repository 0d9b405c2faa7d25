-- `packet_parsing::fields_as` meets its contract: by the kind; where no number is greater than its field's greatest, each part is within
-- its bounds. Assumes nothing.
use mathlib.Core.Path.{sym, ◌∙◌}
use native.Mathlib.Omega.{arith}
use Rattle.packet_parsing.specs.ParsingLaws.{within_of_none}
use Rattle.packet_parsing.specs.Parsing.{by_address, by_target, completing}
use Rattle.packet_parsing.proofs.fields_as.Goals as goal

pub returns-then-above_by_address : goal.returns-then-above_by_address
returns-then-above_by_address c = rw (c.too_large.ensures, c.in-Memory.is, sym c.above_by_address.ensures ∙ c.if-above_by_address.true)

pub head_from-requires : goal.head_from-requires
head_from-requires c = let none = sym c.above_by_address.ensures ∙ c.if-above_by_address.false in
    let w = within_of_none by_address c.args.numbers.now none (omega arith) in
    omega arith

pub enables_from-requires : goal.enables_from-requires
enables_from-requires c = let none = sym c.above_by_address.ensures ∙ c.if-above_by_address.false in
    let w = within_of_none by_address c.args.numbers.now none (omega arith) in
    omega arith

pub returns-then-above_by_address-2 : goal.returns-then-above_by_address-2
returns-then-above_by_address-2 c = rw (c.too_large-then-above_by_address-2.ensures, c.in-Io.is, sym c.above_by_address-in-Io.ensures ∙ c.if-above_by_address-2.true)

pub head_from-requires-in-Io : goal.head_from-requires-in-Io
head_from-requires-in-Io c = let none = sym c.above_by_address-in-Io.ensures ∙ c.if-above_by_address-2.false in
    let w = within_of_none by_address c.args.numbers.now none (omega arith) in
    omega arith

pub enables_from-requires-in-Io : goal.enables_from-requires-in-Io
enables_from-requires-in-Io c = let none = sym c.above_by_address-in-Io.ensures ∙ c.if-above_by_address-2.false in
    let w = within_of_none by_address c.args.numbers.now none (omega arith) in
    omega arith

pub returns-then-above_by_target : goal.returns-then-above_by_target
returns-then-above_by_target c = rw (c.too_large-then-above_by_target.ensures, c.in-Config.is, sym c.above_by_target.ensures ∙ c.if-above_by_target.true)

pub head_from-requires-in-Config : goal.head_from-requires-in-Config
head_from-requires-in-Config c = let none = sym c.above_by_target.ensures ∙ c.if-above_by_target.false in
    let w = within_of_none by_target c.args.numbers.now none (omega arith) in
    omega arith

pub enables_from-requires-in-Config : goal.enables_from-requires-in-Config
enables_from-requires-in-Config c = let none = sym c.above_by_target.ensures ∙ c.if-above_by_target.false in
    let w = within_of_none by_target c.args.numbers.now none (omega arith) in
    omega arith

pub target_from-requires : goal.target_from-requires
target_from-requires c = let none = sym c.above_by_target.ensures ∙ c.if-above_by_target.false in
    let w = within_of_none by_target c.args.numbers.now none (omega arith) in
    omega arith

pub returns-then-above_completing : goal.returns-then-above_completing
returns-then-above_completing c = rw (c.too_large-then-above_completing.ensures, c.in-Completion.is, sym c.above_completing.ensures ∙ c.if-above_completing.true)

pub head_from-requires-in-Completion : goal.head_from-requires-in-Completion
head_from-requires-in-Completion c = let none = sym c.above_completing.ensures ∙ c.if-above_completing.false in
    let w = within_of_none completing c.args.numbers.now none (omega arith) in
    omega arith

pub outcome_from-requires : goal.outcome_from-requires
outcome_from-requires c = let none = sym c.above_completing.ensures ∙ c.if-above_completing.false in
    let w = within_of_none completing c.args.numbers.now none (omega arith) in
    omega arith

pub returns-else-above_by_address : goal.returns-else-above_by_address
returns-else-above_by_address c = let none = sym c.above_by_address.ensures ∙ c.if-above_by_address.false in
    rw (c.in-Memory.is, none, c.head_from.ensures, c.enables_from.ensures)

pub returns-else-above_by_address-2 : goal.returns-else-above_by_address-2
returns-else-above_by_address-2 c = let none = sym c.above_by_address-in-Io.ensures ∙ c.if-above_by_address-2.false in
    rw (c.in-Io.is, none, c.head_from-in-Io.ensures, c.enables_from-in-Io.ensures)

pub returns-else-above_by_target : goal.returns-else-above_by_target
returns-else-above_by_target c = let none = sym c.above_by_target.ensures ∙ c.if-above_by_target.false in
    rw (c.in-Config.is, none, c.head_from-in-Config.ensures, c.enables_from-in-Config.ensures, c.target_from.ensures)

pub returns-else-above_completing : goal.returns-else-above_completing
returns-else-above_completing c = let none = sym c.above_completing.ensures ∙ c.if-above_completing.false in
    rw (c.in-Completion.is, none, c.head_from-in-Completion.ensures, c.outcome_from.ensures)

pub returns-in-Message : goal.returns-in-Message
returns-in-Message c = rw c.in-Message.is c.message_as.ensures

pub returns-in-FetchAdd : goal.returns-in-FetchAdd
returns-in-FetchAdd c = rw c.in-FetchAdd.is

pub returns-in-Swap : goal.returns-in-Swap
returns-in-Swap c = rw c.in-Swap.is

pub returns-in-Cas : goal.returns-in-Cas
returns-in-Cas c = rw c.in-Cas.is
