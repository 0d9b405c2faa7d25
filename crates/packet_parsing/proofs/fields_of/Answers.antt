-- `packet_parsing::fields_of` meets its contract: the checks in order: fewer than twenty, a kind or form outside the list, then by the
-- kind. Assumes nothing.
use borrow.Author.Tests.{ltb-false}
use lib.Dec.{ltb}
use lib.ListN.{get_or}
use mathlib.Core.Path.{◌∙◌}
use native.Mathlib.Omega.{arith}
use Rattle.arith.specs.BoolLaws.{false_of_or}
use Rattle.packet_parsing.specs.ParsingLaws.{too_few, outside_list, inside_list}
use Rattle.packet_parsing.specs.Parsing.{last_kind}
use Rattle.packet_parsing.proofs.fields_of.Goals as goal

pub returns-then-numbers-lt-SIZE : goal.returns-then-numbers-lt-SIZE
returns-then-numbers-lt-SIZE c = too_few c.args.numbers.now c.if-numbers-lt-SIZE.true

pub returns-then-numbers : goal.returns-then-numbers
returns-then-numbers c = outside_list c.args.numbers.now c.if-numbers-lt-SIZE.false c.if-numbers.true

pub kind_at-requires : goal.kind_at-requires
kind_at-requires c = ltb-false _ _ (false_of_or _ _ c.if-numbers.false).0

pub fields_as-requires : goal.fields_as-requires
fields_as-requires c = let inside = false_of_or (ltb last_kind (get_or c.args.numbers.now 0 0)) (ltb 4 (get_or c.args.numbers.now 1 0)) c.if-numbers.false in
    (omega arith, ltb-false 4 (get_or c.args.numbers.now 1 0) inside.1)

pub returns : goal.returns
returns c = c.fields_as.ensures
    ∙ inside_list c.args.numbers.now c.if-numbers-lt-SIZE.false c.if-numbers.false c.kind_at.result c.kind_at.ensures
