-- `board_where::failing` meets its contract: by the board's number, which says that the checks before its own are passed. Assumes nothing.
use Rattle.std.proofs.Common.{ℕ, ap, ◌∙◌}
use Rattle.board_where.specs.Where.{party_of}
use Rattle.finding.specs.Places.{function_id}
use Rattle.records.specs.Records.{parts_from}
use Rattle.board_record.specs.Host.{functions_at}
use Rattle.board.proofs.PassLaws.{any_never}
use Rattle.board_where.specs.NumberLaws.{some_bytes, right_of_23, right_of_25, named_24, named_misplaced, named_25, nobody_named}
use Rattle.board_where.proofs.failing.Goals as goal

pub bounds-board-0 : goal.bounds-board-0
bounds-board-0 c = some_bytes _ _ c.requires c.if-number-eq24.true

pub first_breaking-requires : goal.first_breaking-requires
first_breaking-requires c = any_never (parts_from c.args.board.now functions_at)

pub returns-then-number-eq24 : goal.returns-then-number-eq24
returns-then-number-eq24 c = named_24 _ _ c.requires c.if-number-eq24.true _ c.first_breaking.ensures

pub first_misplaced-requires : goal.first_misplaced-requires
first_misplaced-requires c = right_of_23 _ _ c.requires c.if-number-eq23.true

pub returns-then-number-eq23 : goal.returns-then-number-eq23
returns-then-number-eq23 c = ap (λ (k : ℕ). party_of k function_id) c.unwrap_or.ensures ∙ named_misplaced _ _ c.requires c.if-number-eq23.true c.first_misplaced.result c.first_misplaced.ensures

pub first_breaking-requires-then-number-eq25 : goal.first_breaking-requires-then-number-eq25
first_breaking-requires-then-number-eq25 c = right_of_25 _ _ c.requires c.if-number-eq25.true

pub returns-then-number-eq25 : goal.returns-then-number-eq25
returns-then-number-eq25 c = named_25 _ _ c.requires c.if-number-eq25.true _ c.first_breaking-then-number-eq25.ensures

pub returns : goal.returns
returns c = nobody_named _ _ c.requires c.if-number-eq24.false c.if-number-eq23.false c.if-number-eq25.false
