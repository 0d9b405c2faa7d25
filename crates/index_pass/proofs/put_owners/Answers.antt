-- `index_pass::put_owners`: one pass after the other. Assumes nothing.
use native.Mathlib.Omega.{arith}
use Rattle.index_pass.specs.PassLaws.{low_room, high_room, io_room, ids_room, passes_end}
use Rattle.index_pass.proofs.put_owners.Goals as goal

pub put_pass-low-requires : goal.put_pass-low-requires
put_pass-low-requires c = (c.requires.0, omega arith, low_room _ _ _ c.requires.1 c.args.index.now, c.requires.2)

pub put_pass-high-requires : goal.put_pass-high-requires
put_pass-high-requires c = (
  c.requires.0,
  omega arith,
  high_room _ _ _ c.requires.1 _ _ _ c.put_pass-low.auto.index c.put_pass-low.ensures.0 c.put_pass-low.ensures.1,
  omega (arith, c.put_pass-low.auto.index, c.requires.2),
)

pub put_pass-io-requires : goal.put_pass-io-requires
put_pass-io-requires c = (
  c.requires.0,
  omega arith,
  io_room _ _ _ c.requires.1 _ _ _ c.put_pass-low.auto.index c.put_pass-low.ensures.0 c.put_pass-low.ensures.1
      _ _ c.put_pass-high.auto.index c.put_pass-high.ensures.0 c.put_pass-high.ensures.1,
  omega (arith, c.put_pass-low.auto.index, c.put_pass-high.auto.index, c.requires.2),
)

pub put_pass-requires : goal.put_pass-requires
put_pass-requires c = (
  c.requires.0,
  tt,
  ids_room _ _ _ c.requires.1 _ _ _ c.put_pass-low.auto.index c.put_pass-low.ensures.0 c.put_pass-low.ensures.1
      _ _ c.put_pass-high.auto.index c.put_pass-high.ensures.0 c.put_pass-high.ensures.1
      _ _ c.put_pass-io.auto.index c.put_pass-io.ensures.0 c.put_pass-io.ensures.1,
  omega (arith, c.put_pass-low.auto.index, c.put_pass-high.auto.index, c.put_pass-io.auto.index, c.requires.2),
)

pub returns : goal.returns
returns c = passes_end _ _ _ c.requires.1 _ _ _ c.put_pass-low.auto.index c.put_pass-low.ensures.0 c.put_pass-low.ensures.1
    _ _ c.put_pass-high.auto.index c.put_pass-high.ensures.0 c.put_pass-high.ensures.1
    _ _ c.put_pass-io.auto.index c.put_pass-io.ensures.0 c.put_pass-io.ensures.1
    _ _ c.put_pass.auto.index c.put_pass.ensures.0 c.put_pass.ensures.1
