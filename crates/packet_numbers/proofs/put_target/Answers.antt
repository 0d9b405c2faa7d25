-- `packet_numbers::put_target` meets its contract: two runs of five that meet are one. Assumes nothing.
use mathlib.Core.Path.{refl}
use Rattle.endian.specs.SetsLaws.{sets_append}
use Rattle.packet_numbers.specs.Numbers.{absent, request_numbers}
use Rattle.packet_numbers.proofs.put_target.Goals as goal

pub returns : goal.returns
returns c = sets_append c.args.out.now c.args.at 5 (request_numbers c.args.e c.args.address c.args.target c.args.register) absent refl c.put_five.ensures
    c.put_five-2.ensures
