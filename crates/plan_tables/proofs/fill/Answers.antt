-- `plan_tables::fill` meets its contract. Assumes nothing.
use Rattle.std.proofs.Common.{◌≡◌, ◌∷◌, ap, sym, ◌∙◌, subst, List, ℕ, arith}
use Rattle.records.specs.Records.{Parts}
use Rattle.records.specs.Iterating.{left_of, parts_left}
use Rattle.plan_tables.specs.Tables.{FillingParts}
use Rattle.plan_tables.specs.TablesLaws.{filling_parts_start, filled_parts_end, filling_parts_lawful, filling_parts_lt, filling_parts_room, filling_parts_record}
use Rattle.plan_tables.proofs.fill.Goals as goal
use Rattle.plan_tables.proofs.fill.Goals.{In-Some}

-- the part, and those after it
turn : (c : In-Some) → parts_left c.loop-part.part-iterator ≡ c.in-Some.part.now ∷ parts_left c.next.new.self
turn c = ap (λ (r : Parts). r.parts) c.in-Some.ensures.steps

pub loop-part-init : goal.loop-part-init
loop-part-init c =
    let start = ap left_of c.into_iter-part-iterator.ensures.into_iter_gives ∙ c.parts_from-part-items.ensures in
    let filling : List (List ℕ) → Type 0 = λ ps.
    FillingParts c.args.board.now c.args.parents.now c.args.heads.now c.args.readbacks.now ps 0 c.args.parents.now c.args.heads.now c.args.readbacks.now in
    subst filling (sym (ap (λ (r : Parts). r.parts) start))
    (filling_parts_start c.args.board.now c.args.parents.now c.args.heads.now c.args.readbacks.now c.requires.0 c.requires.1)

pub put-requires : goal.put-requires
put-requires c =
    let here = turn (goal.at.put-requires c).In-Some in
    ((filling_parts_lawful c.loop-part.invariant _ _ here).0, filling_parts_room c.loop-part.invariant _ _ here)

pub overflow_add-count : goal.overflow_add-count
overflow_add-count c = omega (arith, filling_parts_lt c.loop-part.invariant _ _ (turn (goal.at.overflow_add-count c).In-Some))

pub loop-part-preserved : goal.loop-part-preserved
loop-part-preserved c = filling_parts_record c.loop-part.invariant _ _ (turn (goal.at.loop-part-preserved c).In-Some) c.put.ensures

pub returns : goal.returns
returns c = filled_parts_end c.loop-part.invariant c.in-None.ensures.steps.0
