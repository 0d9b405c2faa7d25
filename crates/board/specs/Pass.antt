-- One pass over a board's functions, with a rule that it asks of each. Assumes nothing.
use Rattle.std.specs.Prelude.{Bool, not, ◌||◌}
use Rattle.records.specs.Records.{Parts, any_part}
use Rattle.board_record.specs.declared.Rule.{Rule}
use Rattle.board_record.specs.Rules.{breaks}

-- the bytes break off, or a record breaks the rule
abbrev pub any_breaks : Rule → Parts → Bool
any_breaks rule r = not r.whole || any_part (breaks rule) r.parts
