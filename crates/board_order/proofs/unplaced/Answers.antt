-- `board_order::unplaced` meets its contract: the tests of the definition, one by one. Assumes nothing.
use native.Mathlib.Numerals.{add-one}
use Rattle.board_order.proofs.unplaced.Goals as goal

pub returns : goal.returns
returns c = rw (c.devfn_of-devfn.ensures, add-one)
