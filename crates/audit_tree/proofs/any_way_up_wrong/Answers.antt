-- `audit_tree::any_way_up_wrong` meets its contract. Invariant: whether a record that is left has no way up is whether one of all has.
-- Assumes nothing.
use mathlib.Core.Path.{sym, ap, ◌∙◌}
use Prim.Native.Nat.{◌<◌}
use native.Mathlib.Omega.{arith}
use lib.ListN.{length}
use Rattle.sheet.specs.Sheet.{entries_of}
use Rattle.sheet.proofs.IndexLaws.{record_fits, length_part}
use Rattle.audit_rule.proofs.PassLaws.{any_past, any_hit, any_miss}
use Rattle.audit_tree.proofs.any_way_up_wrong.Goals as goal
use Rattle.audit_tree.proofs.any_way_up_wrong.Goals.{In-loop-k}

-- the record of this turn
here : (c : In-loop-k)
    → c.loop-k.k < length (entries_of c.args.sheet.now)
here c = omega (arith, c.loop-k-test.true, c.count-k-end.ensures)

pub part-requires : goal.part-requires
part-requires c = record_fits _ c.requires.0.framed _ (here (goal.at.part-requires c).In-loop-k)

pub way_up_wrong-requires : goal.way_up_wrong-requires
way_up_wrong-requires c = let fits = record_fits _ c.requires.0.framed _ (here (goal.at.way_up_wrong-requires c).In-loop-k) in
    (c.requires.0, c.requires.1, ap length c.part.ensures ∙ length_part _ _ fits)

pub returns-then-way_up_wrong : goal.returns-then-way_up_wrong
returns-then-way_up_wrong c = sym (any_hit _ c.requires.0.framed _ _ c.count-k-end.ensures c.loop-k-test.true _ _ c.part.ensures
    (sym c.way_up_wrong.ensures ∙ c.if-way_up_wrong.true))
    ∙ c.loop-k.invariant

pub loop-k-preserved : goal.loop-k-preserved
loop-k-preserved c = sym (any_miss _ c.requires.0.framed _ _ c.count-k-end.ensures c.loop-k-test.true _ _ c.part.ensures
    (sym c.way_up_wrong.ensures ∙ c.if-way_up_wrong.false))
    ∙ c.loop-k.invariant

pub returns : goal.returns
returns c = sym (any_past _ c.requires.0.framed _ _ c.count-k-end.ensures c.loop-k-test.false _) ∙ c.loop-k.invariant
