-- `packet_numbers::put_message` meets its contract: three runs that meet are one. Assumes nothing.
use mathlib.Core.List.{[], ◌∷◌, ◌++◌}
use mathlib.Core.Path.{refl}
use Rattle.endian.specs.SetsLaws.{sets_append}
use Rattle.packet_numbers.specs.Numbers.{head_numbers, absent}
use Rattle.packet_numbers.proofs.put_message.Goals as goal

pub returns : goal.returns
returns c = let head = head_numbers c.args.kind c.args.h in
    let content = c.routing_number-rrr.result ∷ c.args.code ∷ c.args.tail ∷ 0 ∷ 0 ∷ [] in
    let both = sets_append c.args.out.now c.args.at 10 head content refl c.put_head.ensures c.put_five.ensures in
    rw (← c.routing_number-rrr.ensures.0) (sets_append c.args.out.now c.args.at 15 (head ++ content) absent refl both c.put_five-2.ensures)
