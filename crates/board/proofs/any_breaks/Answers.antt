-- `board::any_breaks` meets its contract. Assumes nothing.
use Rattle.std.proofs.Common.{◌≡◌, false, ap, sym, ◌∙◌}
use Rattle.records.specs.Records.{Parts, any_part}
use Rattle.records.specs.RecordsLaws.{none_first}
use Rattle.records.specs.Iterating.{left_of, parts_left}
use Rattle.board_record.specs.Rules.{too_early}
use Rattle.board.specs.Pass.{any_breaks}
use Rattle.board.proofs.PassLaws.{breaks_none, breaks_hit, breaks_miss}
use Rattle.board.proofs.any_breaks.Goals as goal
use Rattle.board.proofs.any_breaks.Goals.{In-Some}

early : (c : In-Some) → (too_early c.args.rule c.in-Some.part.now ≡ false) × (any_part (too_early c.args.rule) (parts_left c.next.new.self) ≡ false)
early c =
    none_first (too_early c.args.rule) c.in-Some.part.now (parts_left c.next.new.self)
    (sym (ap (λ (r : Parts). any_part (too_early c.args.rule) r.parts) c.in-Some.ensures.steps) ∙ c.loop-part.invariant.0)

pub breaks-requires : goal.breaks-requires
breaks-requires c = (early (goal.at.breaks-requires c).In-Some).0

pub returns-then-breaks : goal.returns-then-breaks
returns-then-breaks c =
    sym (breaks_hit c.args.rule c.in-Some.part.now (left_of c.next.new.self) (sym c.breaks.ensures ∙ c.if-breaks.true))
    ∙ sym (ap (any_breaks c.args.rule) c.in-Some.ensures.steps) ∙ c.loop-part.invariant.1

pub loop-part-preserved : goal.loop-part-preserved
loop-part-preserved c = (
  (early (goal.at.loop-part-preserved c).In-Some).1,
  sym (breaks_miss c.args.rule c.in-Some.part.now (left_of c.next.new.self) (sym c.breaks.ensures ∙ c.if-breaks.false))
      ∙ sym (ap (any_breaks c.args.rule) c.in-Some.ensures.steps) ∙ c.loop-part.invariant.1,
)

pub returns : goal.returns
returns c =
    let e = c.in_default.ensures.steps.1 in
    let none = ap (λ (r : Parts). r.parts) e ∙ c.in_default.ensures.steps.0 in
    c.broke_off.ensures none ∙ sym (breaks_none c.args.rule (left_of c.next.new.self) none) ∙ ap (any_breaks c.args.rule) e
    ∙ c.loop-part.invariant.1
