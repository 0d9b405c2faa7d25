-- `sheet_bytes::put_bridge` meets its contract. Four stores that meet. Assumes nothing.
use mathlib.Core.Path.{refl}
use mathlib.Core.List.{◌++◌}
use Rattle.endian.specs.Endian.{le_bytes}
use Rattle.endian.specs.SetsLaws.{sets_append}
use Rattle.sheet_bytes.specs.Layout.{zeros, dword_bytes, number_bytes, memory_bytes}
use Rattle.sheet_bytes.proofs.put_bridge.Goals as goal

pub returns : goal.returns
unfolding dword_bytes le_bytes
returns c = let two = dword_bytes (le_bytes 4) 2 c.args.r.values 0 in
    let numbers = number_bytes c.args.r.primary c.args.r.secondary c.args.r.subordinate c.args.r.io in
    let memory = memory_bytes c.args.r.low c.args.r.high in
    sets_append c.args.out.now c.args.at 32 (two ++ numbers ++ memory) (zeros 16) refl
    (sets_append c.args.out.now c.args.at 16 (two ++ numbers) memory refl
    (sets_append c.args.out.now c.args.at 8 two numbers refl c.put_le_pair.ensures c.put_numbers.ensures)
    c.put_memory.ensures)
    c.put_zeros16.ensures
