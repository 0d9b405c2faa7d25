-- `claims::address::next_live`: the loop. Invariant: the claims left are those from the first record on. Measure: records left. Assumes
-- nothing.
use mathlib.Core.Path.{refl, ◌∙◌}
use native.Mathlib.Omega.{arith}
use Rattle.claims.specs.TurnLaws.{part_fits, sized, claims_other, live_found, live_none}
use Rattle.claims.proofs.address.next_live.Goals as goal

pub count-records-requires : goal.count-records-requires
count-records-requires c = c.requires.0.framed

pub loop-k-init : goal.loop-k-init
loop-k-init c = λ address. refl

pub part-requires : goal.part-requires
part-requires c = part_fits _ c.requires.0 _ _ c.count-records.ensures c.loop-k-test.true

pub is_live-requires : goal.is_live-requires
is_live-requires c = sized _ c.requires.0 _ _ c.count-records.ensures c.loop-k-test.true _ c.part.ensures

pub returns-then-is_live : goal.returns-then-is_live
returns-then-is_live c = live_found _ c.requires.0 _ _ c.count-records.ensures c.loop-k-test.true _ c.part.ensures _ _ _
    c.is_live.ensures _ c.if-is_live.true (omega arith) c.loop-k.invariant

pub loop-k-preserved : goal.loop-k-preserved
loop-k-preserved c =
    λ address.
    claims_other _ c.requires.0 _ _ c.count-records.ensures c.loop-k-test.true _ c.part.ensures _ _ _ c.is_live.ensures c.if-is_live.false
    address
    ∙ c.loop-k.invariant address

pub returns : goal.returns
returns c = live_none _ c.requires.0 _ _ c.count-records.ensures _ _ _ c.loop-k-test.false (omega arith) (omega arith) c.loop-k.invariant
