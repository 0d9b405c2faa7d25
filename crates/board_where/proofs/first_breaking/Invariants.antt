-- `board_where::first_breaking`: the loop over the functions. Invariant: no function left is asked too early, and the first of those left,
-- with so many passed, is the first of all. Assumes nothing.
use Rattle.std.proofs.Common.{◌≡◌, false}
use Rattle.std.specs.Iterator.Adapters.{enumerate_source, enumerate_count}
use Rattle.records.specs.Records.{parts_from, any_part}
use Rattle.records.specs.Iterating.{parts_left}
use Rattle.board_record.specs.Host.{functions_at}
use Rattle.board_record.specs.Rules.{too_early}
use Rattle.board_where.specs.Where.{first_breaking}
use Rattle.board_where.specs.PassLaws.{breaking_after}
use Rattle.board_where.proofs.first_breaking.Given as goal

abbrev pub invariant-loop-before : goal.invariant-loop-before
invariant-loop-before l =
    (any_part (too_early l.rule) (parts_left (enumerate_source l.before-iterator)) ≡ false)
    × (breaking_after l.rule (enumerate_count l.before-iterator) (parts_left (enumerate_source l.before-iterator))
    ≡ first_breaking l.rule (parts_from l.board functions_at))
