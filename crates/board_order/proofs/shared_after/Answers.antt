-- `board_order::shared_after` meets its contract. Assumes nothing.
use native.Mathlib.Numerals.{add-one}
use Rattle.board_order.proofs.shared_after.Goals as goal

pub returns-then-devfn-header_of : goal.returns-then-devfn-header_of
returns-then-devfn-header_of c = rw (
  rw (c.devfn_of-devfn.ensures, c.header_of.ensures) at c.if-devfn-header_of.true,
  c.devfn_of-devfn.ensures,
  add-one,
)

pub returns-else-devfn-header_of : goal.returns-else-devfn-header_of
returns-else-devfn-header_of c = rw (rw (c.devfn_of-devfn.ensures, c.header_of.ensures) at c.if-devfn-header_of.false)
