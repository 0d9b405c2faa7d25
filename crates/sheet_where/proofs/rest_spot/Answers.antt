-- `sheet_where::rest_spot` meets its contract: the last four read-backs, one by one. Assumes nothing.
use mathlib.Core.Path.{sym, ◌∙◌}
use Rattle.sheet_where.specs.SlotsLaws.{rest_none, rest_2, rest_3, rest_4, rest_5}
use Rattle.sheet_where.proofs.rest_spot.Goals as goal

pub returns-then-not-is_bridge : goal.returns-then-not-is_bridge
returns-then-not-is_bridge c = rest_none c.args.part.now (sym c.is_bridge.ensures ∙ c.if-not-is_bridge.true)

pub returns-then-read_be32-ne0 : goal.returns-then-read_be32-ne0
returns-then-read_be32-ne0 c = rw c.at.ensures (
    rest_2 c.args.part.now (sym c.is_bridge.ensures ∙ c.if-not-is_bridge.false) _ c.read_be32.ensures.0
    c.if-read_be32-ne0.true)

pub returns-then-read_be32-ne0-2 : goal.returns-then-read_be32-ne0-2
returns-then-read_be32-ne0-2 c = rw c.at-then-read_be32-ne0-2.ensures (
    rest_3 c.args.part.now (sym c.is_bridge.ensures ∙ c.if-not-is_bridge.false) _ c.read_be32.ensures.0
    c.if-read_be32-ne0.false _ c.read_be32-2.ensures.0 c.if-read_be32-ne0-2.true)

pub returns-then-read_be32-ne0-3 : goal.returns-then-read_be32-ne0-3
returns-then-read_be32-ne0-3 c = rw c.at-then-read_be32-ne0-3.ensures (
    rest_4 c.args.part.now (sym c.is_bridge.ensures ∙ c.if-not-is_bridge.false) _ c.read_be32.ensures.0
    c.if-read_be32-ne0.false _ c.read_be32-2.ensures.0 c.if-read_be32-ne0-2.false _ c.read_be32-3.ensures.0 c.if-read_be32-ne0-3.true)

pub returns : goal.returns
returns c = rest_5 c.args.part.now (sym c.is_bridge.ensures ∙ c.if-not-is_bridge.false) _ c.read_be32.ensures.0
    c.if-read_be32-ne0.false _ c.read_be32-2.ensures.0 c.if-read_be32-ne0-2.false _ c.read_be32-3.ensures.0
    c.if-read_be32-ne0-3.false _ c.read_be32-4.ensures.0 _ c.wrong_if.ensures
