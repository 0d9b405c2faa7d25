-- `capi_cards::send` meets its contract: a number above FFFFh is past every sheet's records. Assumes nothing.
use Prim.Native.Nat.{◌<◌}
use native.Mathlib.Omega.{arith}
use mathlib.Core.Path.{◌∙◌}
use Rattle.records.specs.Limits.{most_functions}
use Rattle.capi_cards.specs.Wide.{past_records}
use Rattle.capi_cards.proofs.send.Goals as goal

pub returns-then-number-gt-WORD : goal.returns-then-number-gt-WORD
returns-then-number-gt-WORD c = let past : most_functions < c.args.number = omega (arith, c.if-number-gt-WORD.true) in
    c.route_from.ensures ∙ past_records _ _ _ past
