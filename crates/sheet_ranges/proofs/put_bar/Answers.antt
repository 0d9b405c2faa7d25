-- `sheet_ranges::put_bar`: a BAR by its first and its last address. Assumes nothing.
use mathlib.Core.Logic.{inl, inr}
use native.Mathlib.Omega.{arith}
use Rattle.sheet_ranges.specs.BarsLaws.{bar_put, bar_none}
use Rattle.sheet_ranges.proofs.put_bar.Goals as goal

pub returns-in-Unused : goal.returns-in-Unused
returns-in-Unused c = (bar_none c.args.x c.args.value _ _ (elim c.in-Unused.is [ inl e ↦ rw e | inr k ↦ elim k [ inl e ↦ rw e | inr e ↦ rw e ] ]), omega arith)

pub returns-in-Bar : goal.returns-in-Bar
returns-in-Bar c = (
  bar_put _ c.in-Bar.q c.in-Bar.field-1 _ _ _ c.in-Bar.is c.base_of-first.ensures
      c.requires.1 _ _ _ _ c.number_of.ensures c.put.ensures.0,
  omega (arith, c.put.ensures.1),
)
