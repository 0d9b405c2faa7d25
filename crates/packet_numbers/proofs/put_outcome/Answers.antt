-- `packet_numbers::put_outcome` meets its contract: two runs of five that meet are one. Assumes nothing.
use mathlib.Core.List.{[], ◌∷◌}
use mathlib.Core.Path.{refl, ◌∙◌}
use Rattle.endian.specs.SetsLaws.{sets_append}
use Rattle.packet_numbers.specs.Numbers.{flag_bit, absent}
use Rattle.packet_numbers.proofs.put_outcome.Goals as goal

pub returns : goal.returns
returns c = let bcm = c.from-bcm.ensures ∙ flag_bit c.args.o.bcm in
    rw (← bcm)
    (sets_append c.args.out.now c.args.at 5 absent (c.args.o.completer ∷ c.args.o.status ∷ c.from-bcm.result ∷ c.args.o.count ∷ c.args.o.lower ∷ []) refl
    c.put_five.ensures c.put_five-2.ensures)
