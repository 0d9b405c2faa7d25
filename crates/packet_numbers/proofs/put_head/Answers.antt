-- `packet_numbers::put_head` meets its contract: two runs of five that meet are one. Assumes nothing.
use mathlib.Core.List.{[], ◌∷◌}
use mathlib.Core.Path.{refl, ◌∙◌}
use native.Mathlib.Omega.{arith}
use Rattle.endian.specs.SetsLaws.{sets_append}
use Rattle.packet_numbers.specs.Numbers.{flag_bit}
use Rattle.packet_numbers.proofs.put_head.Goals as goal

pub put_five-requires-2 : goal.put_five-requires-2
put_five-requires-2 c = omega (arith, c.put_five.auto.out, c.requires)

pub returns : goal.returns
returns c = let td = c.from-td.ensures ∙ flag_bit c.args.h.td in
    let ep = c.from-ep.ensures ∙ flag_bit c.args.h.ep in
    rw (← td, ← ep)
    (sets_append c.args.out.now c.args.at 5 (c.args.kind ∷ c.args.h.form ∷ c.args.h.tc ∷ c.args.h.attr ∷ c.from-td.result ∷ [])
    (c.from-ep.result ∷ c.args.h.at ∷ c.args.h.length ∷ c.args.h.requester ∷ c.args.h.tag ∷ []) refl c.put_five.ensures c.put_five-2.ensures)
