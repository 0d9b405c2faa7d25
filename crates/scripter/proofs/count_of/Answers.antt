-- `scripter::count_of` meets its contract. Assumes nothing.
use Rattle.std.proofs.Common.{◌≡◌, sym, ◌∙◌, arith}
use Rattle.scripter.specs.Counting.{used_in}
use Rattle.scripter.specs.CountingLaws.{used_counted, used_le, count_of_bridge, count_of_end}
use Rattle.scripter.proofs.count_of.Goals as goal
use Rattle.scripter.proofs.count_of.Goals.{After-used_in-used}

used : (c : After-used_in-used) → c.used_in-used.result ≡ used_in c.slot_count.result c.args.f.readbacks 0
used c = c.used_in-used.ensures ∙ used_counted c.slot_count.result c.args.f.readbacks (omega (arith, c.slot_count.ensures.1))

pub returns-then-is_bridge : goal.returns-then-is_bridge
returns-then-is_bridge c =
    let u = used (goal.at.returns-then-is_bridge c).After-used_in-used in (
      count_of_bridge c.args.f c.slot_count.result c.used_in-used.result c.slot_count.ensures.0 u (sym c.is_bridge.ensures ∙ c.if-is_bridge.true),
      omega (arith, u, used_le c.slot_count.result c.args.f.readbacks 0, c.slot_count.ensures.1),
    )

pub returns : goal.returns
returns c =
    let u = used (goal.at.returns c).After-used_in-used in (
      count_of_end c.args.f c.slot_count.result c.used_in-used.result c.slot_count.ensures.0 u (sym c.is_bridge.ensures ∙ c.if-is_bridge.false),
      omega (arith, u, used_le c.slot_count.result c.args.f.readbacks 0, c.slot_count.ensures.1),
    )
