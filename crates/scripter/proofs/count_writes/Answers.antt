-- `scripter::count_writes` meets its contract. Assumes nothing.
use Rattle.std.proofs.Common.{◌≡◌, ◌∷◌, ap, sym, ◌∙◌, subst, List, ℕ, arith}
use Rattle.records.specs.Records.{Parts}
use Rattle.records.specs.Iterating.{left_of, parts_left}
use Rattle.scripter.specs.CountingLaws.{CountedParts, counted_parts_start, counted_parts_end, counted_parts_header, counted_parts_fits, counted_parts_turn}
use Rattle.scripter.proofs.count_writes.Goals as goal
use Rattle.scripter.proofs.count_writes.Goals.{In-Some}

-- the part, and those after it
turn : (c : In-Some) → parts_left c.loop-part.part-iterator ≡ c.in-Some.part.now ∷ parts_left c.next.new.self
turn c = ap (λ (r : Parts). r.parts) c.in-Some.ensures.steps

pub loop-part-init : goal.loop-part-init
loop-part-init c =
    let start = ap left_of c.into_iter-part-iterator.ensures.into_iter_gives ∙ c.parts_from-part-items.ensures in
    let counted : List (List ℕ) → Type 0 = λ ps. CountedParts c.args.board.now ps 0 in
    subst counted (sym (ap (λ (r : Parts). r.parts) start)) (counted_parts_start c.args.board.now c.requires)

pub function_of-requires : goal.function_of-requires
function_of-requires c = counted_parts_header c.requires c.loop-part.invariant _ _ (turn (goal.at.function_of-requires c).In-Some)

pub overflow_add-count : goal.overflow_add-count
overflow_add-count c = omega (
  arith,
  counted_parts_fits c.requires c.loop-part.invariant _ _ (turn (goal.at.overflow_add-count c).In-Some) c.function_of.ensures c.count_of-count.ensures.0,
)

pub loop-part-preserved : goal.loop-part-preserved
loop-part-preserved c =
    counted_parts_turn c.requires c.loop-part.invariant _ _ (turn (goal.at.loop-part-preserved c).In-Some) c.function_of.ensures c.count_of-count.ensures.0

pub returns : goal.returns
returns c = counted_parts_end c.requires c.loop-part.invariant c.in-None.ensures.steps.0
