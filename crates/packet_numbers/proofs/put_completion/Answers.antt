-- `packet_numbers::put_completion` meets its contract: two runs of ten that meet are one. Assumes nothing.
use mathlib.Core.Path.{refl}
use mathlib.Core.List.{◌++◌}
use Rattle.endian.specs.SetsLaws.{sets_append}
use Rattle.packet_numbers.specs.Numbers.{head_numbers, outcome_numbers, absent}
use Rattle.packet_numbers.proofs.put_completion.Goals as goal

pub returns : goal.returns
returns c = sets_append c.args.out.now c.args.at 10 (head_numbers c.args.kind c.args.h) (absent ++ outcome_numbers c.args.o) refl c.put_head.ensures
    c.put_outcome.ensures
