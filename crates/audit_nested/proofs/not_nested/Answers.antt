-- `audit_nested::not_nested`: the loop over the records. Invariant: one from record k on has a range outside just where one of all has.
-- Assumes nothing.
use mathlib.Core.Path.{refl, sym, ◌∙◌}
use Prim.Native.Nat.{◌<◌}
use native.Mathlib.Omega.{arith}
use lib.ListN.{length}
use Rattle.sheet.specs.Sheet.{entries_of}
use Rattle.sheet_ranges.specs.SearchLaws.{part_fits, part_sized, part_lawful}
use Rattle.audit_rule.specs.Audit.{outside_above, not_nested}
use Rattle.audit_rule.proofs.PassLaws.{any_past, any_hit, any_miss}
use Rattle.audit_nested.proofs.not_nested.Goals as goal
use Rattle.audit_nested.proofs.not_nested.Goals.{In-loop-k}

-- the record of a turn is one of the sheet's
inside : (c : In-loop-k)
    → c.loop-k.k < length (entries_of c.args.sheet.now)
inside c = omega (arith, c.count-k-end.ensures, c.loop-k-test.true)

pub loop-k-init : goal.loop-k-init
loop-k-init c = (refl, refl, refl)

pub part-requires : goal.part-requires
part-requires c = part_fits _ c.requires.0 _ (inside (goal.at.part-requires c).In-loop-k)

pub outside_above-requires : goal.outside_above-requires
outside_above-requires c = (
  c.requires.0,
  c.requires.1,
  part_sized _ c.requires.0 _ (inside (goal.at.outside_above-requires c).In-loop-k) _ c.part.ensures,
  part_lawful _ c.requires.0 _ (inside (goal.at.outside_above-requires c).In-loop-k) _ c.part.ensures,
  omega (arith, c.loop-k.invariant.0),
  omega (arith, c.loop-k.invariant.1),
)

pub returns-then-outside_above : goal.returns-then-outside_above
unfolding not_nested
returns-then-outside_above c = sym (any_hit _ c.requires.0.framed _ _ c.count-k-end.ensures c.loop-k-test.true
    (outside_above c.args.nesting c.args.host (entries_of c.args.sheet.now)) _ c.part.ensures
    (sym c.outside_above.ensures ∙ c.if-outside_above.true))
    ∙ c.loop-k.invariant.2

pub loop-k-preserved : goal.loop-k-preserved
loop-k-preserved c = (
  omega arith,
  omega arith,
  sym (any_miss _ c.requires.0.framed _ _ c.count-k-end.ensures c.loop-k-test.true
      (outside_above c.args.nesting c.args.host (entries_of c.args.sheet.now)) _ c.part.ensures
      (sym c.outside_above.ensures ∙ c.if-outside_above.false))
      ∙ c.loop-k.invariant.2,
)

pub returns : goal.returns
unfolding not_nested
returns c = sym (any_past _ c.requires.0.framed _ _ c.count-k-end.ensures c.loop-k-test.false
    (outside_above c.args.nesting c.args.host (entries_of c.args.sheet.now)))
    ∙ c.loop-k.invariant.2
