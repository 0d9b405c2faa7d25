-- `board_order::first_misplaced` meets its contract. Assumes nothing.
use Rattle.std.proofs.Common.{◌≡◌, ℕ, suc, ◌+◌, ◌<◌, ◌≤◌, false, List, [], ◌∷◌, map, Some, inl, length, get_or, drop, set, refl, sym, ap, ◌∙◌, add-one, arith, length-set}
use Rattle.std.specs.Iterator.Adapters.{enumerate_source, enumerate_count}
use Rattle.records.specs.Limits.{most_above}
use Rattle.records.specs.Records.{Parts, parts_of, parts_from, any_part}
use Rattle.records.specs.RecordsLaws.{none_first, few_parts}
use Rattle.records.specs.Iterating.{parts_left, left_of}
use Rattle.board_record.specs.declared.Function.{Function}
use Rattle.board_record.specs.Function.{function_of_part, header_wrong}
use Rattle.board_record.specs.Host.{functions_at}
use Rattle.board_order.specs.Order.{some_number, first_misplaced}
use Rattle.board_order.specs.Stack.{Level, fresh, unplaced_at, enter, first_unplaced}
use Rattle.board_order.specs.StackLaws.{first_unplaced_host}
use Rattle.board_order.specs.Levels.{deepest, found_in}
use Rattle.board_order.specs.LevelsLaws.{lt_of_found, shallow_of_placed, order_nowhere, order_hit, order_miss}
use Rattle.board_order.specs.LevelsLaws.{deepest_enter, open_after_le}
use Rattle.board_order.proofs.first_misplaced.Goals as goal
use Rattle.board_order.proofs.first_misplaced.Goals.{After-into_iter-before-iterator, Else-unplaced, In-Some-level_of, In-Some}

-- the function, which passed check 24, and those after it
abbrev function : In-Some → Function
function c = function_of_part c.in-Some.part.now

abbrev rest : In-Some → List Function
rest c = map function_of_part (parts_left (enumerate_source c.next.new.self))

abbrev levels : In-Some → List Level
levels c = deepest c.loop-before.buses c.loop-before.nexts c.loop-before.shared c.loop-before.levels

lawful : (c : In-Some) → (header_wrong c.in-Some.part.now ≡ false) × (any_part header_wrong (parts_left (enumerate_source c.next.new.self)) ≡ false)
lawful c =
    none_first header_wrong c.in-Some.part.now (parts_left (enumerate_source c.next.new.self))
    (sym (ap (λ (r : Parts). any_part header_wrong r.parts) c.in-Some.ensures.steps.0) ∙ c.loop-before.invariant.4)

-- the first that is misplaced is the first of this one and those after it
turn : (c : In-Some) → first_unplaced c.in-Some.before (levels c) (function c ∷ rest c)
    ≡ first_misplaced 0 [] (map function_of_part (parts_from c.args.board.now functions_at))
turn c =
    ap (λ (n : ℕ). first_unplaced n (levels c) (function c ∷ rest c)) c.in-Some.ensures.steps.1
    ∙ sym (ap (λ (r : Parts). first_unplaced (enumerate_count c.loop-before.before-iterator) (levels c) (map function_of_part r.parts)) c.in-Some.ensures.steps.0)
    ∙ c.loop-before.invariant.5

-- the level of its parent, which is among those that are open
level : (c : In-Some-level_of) → found_in (function_of_part c.in-Some.part.now).parent c.loop-before.buses c.loop-before.levels ≡ Some c.in-Some-level_of.i
level c =
    ap (λ (p : ℕ). found_in p c.loop-before.buses c.loop-before.levels) (sym c.parent_of.ensures) ∙ sym c.level_of.ensures
    ∙ c.in-Some-level_of.is

room : (c : In-Some-level_of) → c.in-Some-level_of.i < most_above + 2
room c = omega (
  arith,
  lt_of_found (function_of_part c.in-Some.part.now).parent c.loop-before.buses c.loop-before.levels c.in-Some-level_of.i (level c),
  c.loop-before.invariant.0,
)

-- a function that is in its place, and so has a level after its own
placed : (c : Else-unplaced)
    → unplaced_at (get_or c.loop-before.nexts c.in-Some-level_of.i 0) (get_or c.loop-before.shared c.in-Some-level_of.i 0) c.in-Some-level_of.i
    (function_of_part c.in-Some.part.now)
    ≡ false
placed c = sym c.unplaced.ensures ∙ c.if-unplaced.false

shallow : (c : Else-unplaced) → c.in-Some-level_of.i ≤ most_above
shallow c = shallow_of_placed _ _ _ (function_of_part c.in-Some.part.now) (placed c)

named : (n k : ℕ) → suc n ≡ k → Some (n + 1) ≡ some_number k
named n k e = ap Some (add-one n) ∙ ap some_number e

-- the iteration begins at the first function
module _ (c : After-into_iter-before-iterator) where
  start : left_of (enumerate_source c.into_iter-before-iterator.result) ≡ parts_of (drop functions_at c.args.board.now)
  start =
      ap (λ i. left_of (enumerate_source i)) c.into_iter-before-iterator.ensures.into_iter_gives
      ∙ ap left_of c.enumerate-before-items.ensures.source ∙ c.parts_from.ensures

  none_before : enumerate_count c.into_iter-before-iterator.result ≡ 0
  none_before = ap enumerate_count c.into_iter-before-iterator.ensures.into_iter_gives ∙ c.enumerate-before-items.ensures.count

pub loop-before-init-derived : goal.loop-before-init-derived
loop-before-init-derived c =
    let here = (goal.at.loop-before-init-derived c).After-into_iter-before-iterator in
    let few = ap (λ (r : Parts). length r.parts) (start here) in
    ((tt, tt, inl (omega (arith, few, few_parts c.args.board.now functions_at, none_before here))), tt)

pub loop-before-init : goal.loop-before-init
unfolding deepest
loop-before-init c =
    let here = (goal.at.loop-before-init c).After-into_iter-before-iterator in
    let left : ℕ → Parts → ℕ = λ n r. first_unplaced n (fresh 0 ∷ []) (map function_of_part r.parts) in (
      omega arith,
      refl,
      refl,
      refl,
      ap (λ (r : Parts). any_part header_wrong r.parts) (start here) ∙ c.requires,
      ap (λ (n : ℕ). left n (left_of (enumerate_source c.into_iter-before-iterator.result))) (none_before here) ∙ ap (left 0) (start here)
          ∙ first_unplaced_host (map function_of_part (parts_from c.args.board.now functions_at)),
    )

pub parent_of-requires : goal.parent_of-requires
parent_of-requires c = (lawful (goal.at.parent_of-requires c).In-Some).0

pub returns-in_default : goal.returns-in_default
returns-in_default c =
    let found = ap (λ (p : ℕ). found_in p c.loop-before.buses c.loop-before.levels) (sym c.parent_of.ensures) ∙ sym c.level_of.ensures ∙ c.in_default.is in
    let here = (goal.at.returns-in_default c).In-Some in
    named c.in-Some.before _
    (sym (order_nowhere c.loop-before.buses c.loop-before.nexts c.loop-before.shared c.loop-before.levels c.in-Some.before (function here) (rest here) found)
    ∙ turn here)

pub offset_bounds-nexts-i : goal.offset_bounds-nexts-i
offset_bounds-nexts-i c = omega (arith, lt_of_found c.parent_of.result c.loop-before.buses c.loop-before.levels c.in-Some-level_of.i (sym c.level_of.ensures ∙ c.in-Some-level_of.is), c.loop-before.invariant.0)

pub bounds-nexts-i : goal.bounds-nexts-i
bounds-nexts-i c = omega (arith, lt_of_found c.parent_of.result c.loop-before.buses c.loop-before.levels c.in-Some-level_of.i (sym c.level_of.ensures ∙ c.in-Some-level_of.is), c.loop-before.invariant.0)

pub offset_bounds-shared-i : goal.offset_bounds-shared-i
offset_bounds-shared-i c = omega (arith, lt_of_found c.parent_of.result c.loop-before.buses c.loop-before.levels c.in-Some-level_of.i (sym c.level_of.ensures ∙ c.in-Some-level_of.is), c.loop-before.invariant.0)

pub bounds-shared-i : goal.bounds-shared-i
bounds-shared-i c = omega (arith, lt_of_found c.parent_of.result c.loop-before.buses c.loop-before.levels c.in-Some-level_of.i (sym c.level_of.ensures ∙ c.in-Some-level_of.is), c.loop-before.invariant.0)

pub unplaced-requires : goal.unplaced-requires
unplaced-requires c = (lawful (goal.at.unplaced-requires c).In-Some).0

pub returns-then-unplaced : goal.returns-then-unplaced
returns-then-unplaced c =
    let here = (goal.at.returns-then-unplaced c).In-Some in
    named c.in-Some.before _
    (sym (order_hit c.loop-before.buses c.loop-before.nexts c.loop-before.shared c.loop-before.levels c.in-Some.before (function here) (rest here)
    c.in-Some-level_of.i (level (goal.at.returns-then-unplaced c).In-Some-level_of) (sym c.unplaced.ensures ∙ c.if-unplaced.true))
    ∙ turn here)

pub devfn_of-requires : goal.devfn_of-requires
devfn_of-requires c = (lawful (goal.at.devfn_of-requires c).In-Some).0

pub shared_after-requires : goal.shared_after-requires
shared_after-requires c = (lawful (goal.at.shared_after-requires c).In-Some).0

pub open_after-levels-requires : goal.open_after-levels-requires
open_after-levels-requires c = (shallow (goal.at.open_after-levels-requires c).Else-unplaced, (lawful (goal.at.open_after-levels-requires c).In-Some).0)

pub loop-before-preserved : goal.loop-before-preserved
loop-before-preserved c =
    let here = (goal.at.loop-before-preserved c).In-Some in
    let f = function here in
    let low = shallow (goal.at.loop-before-preserved c).Else-unplaced in
    let in_b : c.in-Some-level_of.i + 1 < length c.loop-before.buses = omega (arith, c.loop-before.invariant.1) in
    let in-n : c.in-Some-level_of.i + 1 < length c.loop-before.nexts = omega (arith, c.loop-before.invariant.2) in
    let in-h : c.in-Some-level_of.i + 1 < length c.loop-before.shared = omega (arith, c.loop-before.invariant.3) in
    let x = c.devfn_of.result + 1 in
    let entered = deepest_enter c.loop-before.buses c.loop-before.nexts c.loop-before.shared c.in-Some-level_of.i (c.in-Some.before + 1) x c.shared_after.result f in_b in-n in-h c.open_after-levels.result
    (ap (λ (k : ℕ). k + 1) c.devfn_of.ensures ∙ add-one f.devfn) c.shared_after.ensures c.open_after-levels.ensures in
    let next : enumerate_count c.next.new.self ≡ c.in-Some.before + 1 = c.in-Some.ensures.steps.2 ∙ ap (λ (k : ℕ). k + 1) (sym c.in-Some.ensures.steps.1) in (
      omega (arith, c.open_after-levels.ensures, open_after_le c.in-Some-level_of.i f),
      length-set c.loop-before.buses (c.in-Some-level_of.i + 1) (c.in-Some.before + 1) ∙ c.loop-before.invariant.1,
      length-set (set c.loop-before.nexts c.in-Some-level_of.i x) (c.in-Some-level_of.i + 1) 0
          ∙ length-set c.loop-before.nexts c.in-Some-level_of.i x ∙ c.loop-before.invariant.2,
      length-set (set c.loop-before.shared c.in-Some-level_of.i c.shared_after.result) (c.in-Some-level_of.i + 1) 0
          ∙ length-set c.loop-before.shared c.in-Some-level_of.i c.shared_after.result ∙ c.loop-before.invariant.3,
      (lawful here).1,
      ap (λ (ls : List Level). first_unplaced (enumerate_count c.next.new.self) ls (rest here)) entered
          ∙ ap (λ (k : ℕ). first_unplaced k (enter (c.in-Some.before + 1) f (deepest c.loop-before.buses c.loop-before.nexts c.loop-before.shared (suc c.in-Some-level_of.i))) (rest here)) next
          ∙ ap (λ (k : ℕ). first_unplaced k (enter k f (deepest c.loop-before.buses c.loop-before.nexts c.loop-before.shared (suc c.in-Some-level_of.i))) (rest here)) (add-one c.in-Some.before)
          ∙ sym (order_miss c.loop-before.buses c.loop-before.nexts c.loop-before.shared c.loop-before.levels c.in-Some.before f (rest here) c.in-Some-level_of.i (level (goal.at.loop-before-preserved c).In-Some-level_of) (placed (goal.at.loop-before-preserved c).Else-unplaced))
          ∙ turn here,
    )

pub returns : goal.returns
unfolding first_unplaced
returns c =
    let ls = deepest c.loop-before.buses c.loop-before.nexts c.loop-before.shared c.loop-before.levels in
    let left : List (List ℕ) → ℕ = λ ps. first_unplaced (enumerate_count c.loop-before.before-iterator) ls (map function_of_part ps) in
    ap some_number (sym (ap left c.in-None.ensures.steps.0.0) ∙ c.loop-before.invariant.5)
