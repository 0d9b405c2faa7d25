-- `claims::ids::bridges_toward`: the loop. Invariant: the tally joined with the bridges that are left is the answer. Measure: records left.
-- Assumes nothing.
use mathlib.Core.Path.{◌≡◌, ◌∙◌}
use lib.ListN.{length}
use Rattle.sheet_record.specs.Places.{record_size}
use Rattle.claims.specs.HitsLaws.{several_end}
use Rattle.claims.specs.TurnLaws.{part_fits, sized}
use Rattle.claims.specs.IdsLaws.{toward_start, toward_end, toward_hit, toward_miss}
use Rattle.claims.proofs.ids.bridges_toward.Goals as goal
use Rattle.claims.proofs.ids.bridges_toward.Goals.{After-part-part, then-leads_toward+else-is_several, else-leads_toward}

-- the record of this turn: its part is whole, its number fits
whole : (c : After-part-part) → length c.part-part.result.now ≡ record_size
whole c =
    sized _ c.requires _ _ c.count-k-end.ensures c.loop-k-test.true _ c.part-part.ensures

pub count-k-end-requires : goal.count-k-end-requires
count-k-end-requires c = c.requires.framed

pub loop-k-init : goal.loop-k-init
loop-k-init c = toward_start c.args.target c.args.bus _

pub part-part-requires : goal.part-part-requires
part-part-requires c = part_fits _ c.requires _ _ c.count-k-end.ensures c.loop-k-test.true

pub leads_toward-requires : goal.leads_toward-requires
leads_toward-requires c = whole (goal.at.leads_toward-requires c).After-part-part

pub secondary_of-requires : goal.secondary_of-requires
secondary_of-requires c = whole (goal.at.secondary_of-requires c).After-part-part

pub loop-k-preserved : goal.loop-k-preserved
loop-k-preserved c =
    elim c.if-leads_toward.branch [
      | then-leads_toward+else-is_several w ↦
          rw w.tally-is (toward_hit _ c.requires _ _ c.count-k-end.ensures c.loop-k-test.true _ c.part-part.ensures c.args.target
          c.args.bus _ c.leads_toward.ensures _ _ _ w.with_claim-tally.ensures w.secondary_of.ensures w.if-leads_toward.true
          ∙ c.loop-k.invariant)
      | else-leads_toward w ↦
          rw w.tally-is (toward_miss _ c.requires _ _ c.count-k-end.ensures c.loop-k-test.true _ c.part-part.ensures c.args.target
          c.args.bus _ c.leads_toward.ensures _ w.if-leads_toward.false
          ∙ c.loop-k.invariant)
    ]

pub returns-after-loop-k : goal.returns-after-loop-k
returns-after-loop-k c = toward_end _ c.requires _ _ c.count-k-end.ensures c.loop-k-test.false c.args.target c.args.bus _
    ∙ c.loop-k.invariant

pub returns-then-is_several : goal.returns-then-is_several
returns-then-is_several c = several_end c.with_claim-tally.result _ _ _ c.is_several.ensures c.if-is_several.true
    (toward_hit _ c.requires _ _ c.count-k-end.ensures c.loop-k-test.true _ c.part-part.ensures c.args.target
    c.args.bus _ c.leads_toward.ensures _ _ _ c.with_claim-tally.ensures c.secondary_of.ensures
    c.if-leads_toward.true
    ∙ c.loop-k.invariant)
