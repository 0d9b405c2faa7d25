-- `board_where::first_breaking` meets its contract. Assumes nothing.
use Rattle.std.proofs.Common.{◌≡◌, ℕ, ◌+◌, false, List, ◌∷◌, length, drop, inl, sym, ap, ◌∙◌, arith}
use Rattle.std.specs.Iterator.Adapters.{enumerate_source, enumerate_count}
use Rattle.records.specs.Records.{Parts, parts_of, parts_from, any_part}
use Rattle.records.specs.RecordsLaws.{none_first, few_parts}
use Rattle.records.specs.Iterating.{left_of, parts_left}
use Rattle.board_record.specs.Host.{functions_at}
use Rattle.board_record.specs.Rules.{too_early}
use Rattle.board_where.specs.Where.{first_from, first_breaking}
use Rattle.board_where.specs.PassLaws.{breaking_after, breaking_first, breaking_past_first}
use Rattle.board_where.proofs.first_breaking.Goals as goal
use Rattle.board_where.proofs.first_breaking.Goals.{After-into_iter-before-iterator, In-Some}

-- the iteration begins at the first function
module _ (c : After-into_iter-before-iterator) where
  start : left_of (enumerate_source c.into_iter-before-iterator.result) ≡ parts_of (drop functions_at c.args.board.now)
  start =
      ap (λ i. left_of (enumerate_source i)) c.into_iter-before-iterator.ensures.into_iter_gives
      ∙ ap left_of c.enumerate-before-items.ensures.source ∙ c.parts_from.ensures

  none_before : enumerate_count c.into_iter-before-iterator.result ≡ 0
  none_before = ap enumerate_count c.into_iter-before-iterator.ensures.into_iter_gives ∙ c.enumerate-before-items.ensures.count

-- the rule may be asked of this part and of those after it
in_time : (c : In-Some) → (too_early c.args.rule c.in-Some.part.now ≡ false)
    × (any_part (too_early c.args.rule) (parts_left (enumerate_source c.next.new.self)) ≡ false)
in_time c =
    none_first (too_early c.args.rule) c.in-Some.part.now (parts_left (enumerate_source c.next.new.self))
    (sym (ap (λ (r : Parts). any_part (too_early c.args.rule) r.parts) c.in-Some.ensures.steps.0) ∙ c.loop-before.invariant.0)

turn : (c : In-Some) → breaking_after c.args.rule c.in-Some.before (c.in-Some.part.now ∷ parts_left (enumerate_source c.next.new.self))
    ≡ first_breaking c.args.rule (parts_from c.args.board.now functions_at)
turn c =
    ap (λ (k : ℕ). breaking_after c.args.rule k (c.in-Some.part.now ∷ parts_left (enumerate_source c.next.new.self))) c.in-Some.ensures.steps.1
    ∙ sym (ap (λ (r : Parts). breaking_after c.args.rule (enumerate_count c.loop-before.before-iterator) r.parts) c.in-Some.ensures.steps.0)
    ∙ c.loop-before.invariant.1

pub loop-before-init-derived : goal.loop-before-init-derived
loop-before-init-derived c =
    let here = (goal.at.loop-before-init-derived c).After-into_iter-before-iterator in
    let few = ap (λ (r : Parts). length r.parts) (start here) in
    ((tt, tt, inl (omega (arith, few, few_parts c.args.board.now functions_at, none_before here))), tt)

pub loop-before-init : goal.loop-before-init
loop-before-init c =
    let here = (goal.at.loop-before-init c).After-into_iter-before-iterator in
    let left : ℕ → Parts → _ = λ k r. breaking_after c.args.rule k r.parts in (
      ap (λ (r : Parts). any_part (too_early c.args.rule) r.parts) (start here) ∙ c.requires,
      ap (λ (k : ℕ). left k (left_of (enumerate_source c.into_iter-before-iterator.result))) (none_before here) ∙ ap (left 0) (start here),
    )

pub breaks-requires : goal.breaks-requires
breaks-requires c = (in_time (goal.at.breaks-requires c).In-Some).0

pub place_in-requires : goal.place_in-requires
place_in-requires c = (in_time (goal.at.place_in-requires c).In-Some).0

pub returns-then-breaks : goal.returns-then-breaks
returns-then-breaks c =
    sym (breaking_first c.args.rule c.in-Some.before c.in-Some.part.now (parts_left (enumerate_source c.next.new.self))
    (sym c.breaks.ensures ∙ c.if-breaks.true) _ c.place_in.ensures) ∙ turn (goal.at.returns-then-breaks c).In-Some

pub loop-before-preserved : goal.loop-before-preserved
loop-before-preserved c =
    let next : enumerate_count c.next.new.self ≡ c.in-Some.before + 1 = c.in-Some.ensures.steps.2 ∙ ap (λ (k : ℕ). k + 1) (sym c.in-Some.ensures.steps.1) in (
      (in_time (goal.at.loop-before-preserved c).In-Some).1,
      ap (λ (k : ℕ). breaking_after c.args.rule k (parts_left (enumerate_source c.next.new.self))) next
          ∙ breaking_past_first c.args.rule c.in-Some.before c.in-Some.part.now (parts_left (enumerate_source c.next.new.self))
          (sym c.breaks.ensures ∙ c.if-breaks.false) ∙ turn (goal.at.loop-before-preserved c).In-Some,
    )

pub returns : goal.returns
unfolding first_from
returns c =
    let left : List (List ℕ) → _ = λ ps. breaking_after c.args.rule (enumerate_count c.loop-before.before-iterator) ps in
    sym (ap left c.in-None.ensures.steps.0.0) ∙ c.loop-before.invariant.1
