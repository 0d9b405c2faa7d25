-- `sheet_bytes::put_zeros16` meets its contract. Two stores of eight zeros are one of sixteen. Assumes nothing.
use mathlib.Core.Path.{refl}
use Rattle.endian.specs.Endian.{be_bytes}
use Rattle.endian.specs.SetsLaws.{sets_append}
use Rattle.sheet_bytes.specs.Layout.{zeros}
use Rattle.sheet_bytes.proofs.put_zeros16.Goals as goal

pub returns : goal.returns
unfolding be_bytes
returns c = sets_append c.args.out.now c.args.at 8 (zeros 8) (zeros 8) refl c.write_be64.ensures c.write_be64-2.ensures
