-- `audit_disjoint::meets_later`: the loop over the later records. Invariant: one from j on is met just where one of all is. Assumes
-- nothing.
use mathlib.Core.Path.{refl, sym, ◌∙◌}
use Prim.Native.Nat.{◌<◌}
use native.Mathlib.Omega.{arith}
use lib.ListN.{length}
use Rattle.sheet.specs.Sheet.{entries_of}
use Rattle.sheet_ranges.specs.Items.{ranges_in}
use Rattle.sheet_ranges.specs.SearchLaws.{part_fits, part_sized, part_lawful}
use Rattle.audit_rule.proofs.PassLaws.{any_past, any_hit, any_miss}
use Rattle.audit_disjoint.specs.Disjoint.{overlaps_on}
use Rattle.audit_disjoint.proofs.meets_later.Goals as goal
use Rattle.audit_disjoint.proofs.meets_later.Goals.{In-loop-j}

-- the record of a turn is one of the sheet's
inside : (c : In-loop-j)
    → c.loop-j.j < length (entries_of c.args.sheet.now)
inside c = omega (arith, c.count-j-end.ensures, c.loop-j-test.true)

pub loop-j-init : goal.loop-j-init
loop-j-init c = (refl, refl)

pub part-requires : goal.part-requires
part-requires c = part_fits _ c.requires.0 _ (inside (goal.at.part-requires c).In-loop-j)

pub meets-requires : goal.meets-requires
meets-requires c = (
  part_sized _ c.requires.0 _ (inside (goal.at.meets-requires c).In-loop-j) _ c.part.ensures,
  part_lawful _ c.requires.0 _ (inside (goal.at.meets-requires c).In-loop-j) _ c.part.ensures,
  c.requires.1,
  omega (arith, c.loop-j.invariant.0),
)

pub returns-then-meets : goal.returns-then-meets
returns-then-meets c = sym (any_hit _ c.requires.0.framed _ _ c.count-j-end.ensures c.loop-j-test.true
    (overlaps_on c.args.bus (ranges_in c.args.n c.args.own.now)) _ c.part.ensures (sym c.meets.ensures ∙ c.if-meets.true))
    ∙ c.loop-j.invariant.1

pub loop-j-preserved : goal.loop-j-preserved
loop-j-preserved c = (
  omega arith,
  sym (any_miss _ c.requires.0.framed _ _ c.count-j-end.ensures c.loop-j-test.true
      (overlaps_on c.args.bus (ranges_in c.args.n c.args.own.now)) _ c.part.ensures (sym c.meets.ensures ∙ c.if-meets.false))
      ∙ c.loop-j.invariant.1,
)

pub returns : goal.returns
returns c = sym (any_past _ c.requires.0.framed _ _ c.count-j-end.ensures c.loop-j-test.false
    (overlaps_on c.args.bus (ranges_in c.args.n c.args.own.now)))
    ∙ c.loop-j.invariant.1
