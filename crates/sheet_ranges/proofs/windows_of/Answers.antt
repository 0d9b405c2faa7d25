-- `sheet_ranges::windows_of`: those of a bridge. Assumes nothing.
use mathlib.Core.Path.{ap, sym, ◌∙◌}
use mathlib.Core.List.{List, ◌++◌}
use native.Mathlib.Omega.{arith}
use Rattle.sheet_ranges.specs.ItemsLaws.{windows_none, ranges_nil}
use Rattle.walk.specs.Ranges.{Range}
use Rattle.sheet_record.specs.Entry.{entry_of}
use Rattle.sheet_ranges.specs.Ranges.{windows_in}
use Rattle.sheet_ranges.proofs.windows_of.Goals as goal

pub returns-then-is_bridge : goal.returns-then-is_bridge
returns-then-is_bridge c = (
  c.put_windows.ensures.0 ∙ ap (λ (rs : List Range). rs ++ windows_in (entry_of c.args.part.now)) (ranges_nil _),
  omega (arith, c.put_windows.ensures.1),
)

pub returns : goal.returns
returns c = (ranges_nil _ ∙ sym (windows_none _ (sym c.is_bridge.ensures ∙ c.if-is_bridge.false)), omega arith)
