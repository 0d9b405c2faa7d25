-- `packet_numbers::put_request` meets its contract: two runs of ten that meet are one. Assumes nothing.
use mathlib.Core.Path.{refl}
use mathlib.Core.List.{◌++◌}
use Rattle.endian.specs.SetsLaws.{sets_append}
use Rattle.packet_numbers.specs.Numbers.{head_numbers, request_numbers, absent}
use Rattle.packet_numbers.proofs.put_request.Goals as goal

pub returns : goal.returns
returns c = let request = request_numbers c.args.e c.args.address c.args.target c.args.register in
    sets_append c.args.out.now c.args.at 10 (head_numbers c.args.kind c.args.h) (request ++ absent) refl
    c.put_head.ensures c.put_target.ensures
