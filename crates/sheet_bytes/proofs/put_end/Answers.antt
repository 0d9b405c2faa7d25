-- `sheet_bytes::put_end` meets its contract. Three stores that meet. Assumes nothing.
use mathlib.Core.Path.{refl}
use mathlib.Core.List.{◌++◌}
use Rattle.endian.specs.Endian.{be_bytes, le_bytes}
use Rattle.endian.specs.SetsLaws.{sets_append}
use Rattle.sheet_bytes.specs.Layout.{zeros, dword_bytes}
use Rattle.sheet_bytes.proofs.put_end.Goals as goal

pub returns : goal.returns
unfolding dword_bytes le_bytes be_bytes
returns c = let six = dword_bytes (le_bytes 4) 6 c.args.values 0 in
    sets_append c.args.out.now c.args.at 32 (six ++ zeros 8) (zeros 16) refl
    (sets_append c.args.out.now c.args.at 24 six (zeros 8) refl c.put_values.ensures c.write_be64.ensures)
    c.put_zeros16.ensures
