-- `claims::ids::owner_of`: the loop. Invariant: the first of the records that are left is the first of all. Measure: records left.
-- Assumes nothing.
use mathlib.Core.Path.{◌≡◌, sym, ◌∙◌}
use lib.ListN.{length}
use Rattle.sheet_record.specs.Places.{record_size}
use Rattle.claims.specs.TurnLaws.{part_fits, sized}
use Rattle.claims.specs.IdsLaws.{owner_start, owner_end, owner_hit, owner_miss}
use Rattle.claims.proofs.ids.owner_of.Goals as goal
use Rattle.claims.proofs.ids.owner_of.Goals.{After-part}

-- the record of this turn: its part is whole, its number fits
whole : (c : After-part) → length c.part.result.now ≡ record_size
whole c =
    sized _ c.requires _ _ c.count-k-end.ensures c.loop-k-test.true _ c.part.ensures

pub count-k-end-requires : goal.count-k-end-requires
count-k-end-requires c = c.requires.framed

pub loop-k-init : goal.loop-k-init
loop-k-init c = owner_start _ _

pub part-requires : goal.part-requires
part-requires c = part_fits _ c.requires _ _ c.count-k-end.ensures c.loop-k-test.true

pub id_of-requires : goal.id_of-requires
id_of-requires c = whole (goal.at.id_of-requires c).After-part

pub returns-then-id_of-id : goal.returns-then-id_of-id
returns-then-id_of-id c = owner_hit _ c.requires _ _ c.count-k-end.ensures c.loop-k-test.true _ c.part.ensures _
    (sym c.id_of.ensures ∙ c.if-id_of-id.true)
    ∙ c.loop-k.invariant

pub loop-k-preserved : goal.loop-k-preserved
loop-k-preserved c = owner_miss _ c.requires _ _ c.count-k-end.ensures c.loop-k-test.true _ c.part.ensures _
    (λ e. c.if-id_of-id.false (c.id_of.ensures ∙ e))
    ∙ c.loop-k.invariant

pub returns : goal.returns
returns c = owner_end _ c.requires _ _ c.count-k-end.ensures c.loop-k-test.false _ ∙ c.loop-k.invariant
