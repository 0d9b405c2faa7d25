-- The writer's verdict on a packet, whatever the room: a kind and form not carried (2), then a value too wide (10), then rules 4 to 9.
-- Assumes nothing.
use Rattle.std.specs.Prelude.{ℕ, cond, eqb}
use Rattle.pairs.specs.declared.Row.{Row}
use Rattle.pairs.specs.declared.Pair.{Pair}
use Rattle.pairs.specs.declared.Pair.TheVariants.{Carried, NotCarried, Unknown}
use Rattle.pairs.specs.Pairs.{row_of}
use Rattle.packet.specs.declared.Packet.{Packet}
use Rattle.packet.specs.declared.Verdict.{Verdict}
use Rattle.packet.specs.declared.Verdict.TheVariants.{Lawful, Refused}
use Rattle.packet.specs.Fields.{kind_of, head_of}
use Rattle.packet.specs.Widths.{fields_fit}
use Rattle.packet.specs.Rules.{rule_number}

-- document 01's number of a verdict
abbrev pub number_of : Verdict → ℕ
number_of (Lawful row) = 0
number_of (Refused n) = n

unfoldable pub on_rules : Row → ℕ → Verdict
on_rules row n = cond (eqb n 0) (Lawful row) (Refused n)

unfoldable pub on_fields : Row → Packet → Verdict
on_fields row p = cond (fields_fit p) (on_rules row (rule_number p)) (Refused 10)

abbrev pub on_pair : Pair → Packet → Verdict
on_pair (Carried row) p = on_fields row p
on_pair NotCarried p = Refused 2
on_pair Unknown p = Refused 2

unfoldable pub verdict_of : Packet → Verdict
verdict_of p = on_pair (row_of (kind_of p) (head_of p).form) p
