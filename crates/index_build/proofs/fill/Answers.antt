-- `index_build::fill`: cleared, then each owner put in, then sorted, then finished. Assumes nothing.
use native.Mathlib.Omega.{arith}
use Rattle.index_pass.specs.PassLaws.{passes_room}
use Rattle.index_build.proofs.BuildLaws.{filled}
use Rattle.index_build.proofs.fill.Goals as goal

pub sort-requires : goal.sort-requires
sort-requires c = (omega (arith, c.put_all-count.ensures.1, passes_room c.args.root c.args.sheet.now, c.requires.1), omega (arith, c.put_all-count.auto.index, c.clear.auto.index, c.requires.2))

pub finish-requires : goal.finish-requires
finish-requires c = (
  omega (arith, c.put_all-count.ensures.1, passes_room c.args.root c.args.sheet.now, c.requires.1),
  omega (arith, c.sort.auto.index, c.put_all-count.auto.index, c.clear.auto.index, c.requires.2),
)

pub returns : goal.returns
returns c = filled _ _ _ _ _ _ _ _ _ c.requires.2 c.requires.3
    (omega (arith, passes_room c.args.root c.args.sheet.now, c.requires.1)) c.clear.ensures
    c.put_all-count.ensures c.sort.ensures c.finish.ensures
