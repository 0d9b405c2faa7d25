-- `plan_needs::needs_of` meets its contract. Assumes nothing.
use mathlib.Core.Path.{◌≡◌}
use Prim.Native.Nat.{suc, ◌+◌}
use native.Mathlib.Numerals.{add-one}
use Rattle.pools.specs.declared.Pool.TheVariants.{Low, High, Io}
use Rattle.plan_needs.specs.Measured.{needs_by}
use Rattle.plan_needs.proofs.needs_of.Goals as goal

pub bytes_of-requires : goal.bytes_of-requires
bytes_of-requires c = c.requires.1 Low

pub bytes_of-requires-2 : goal.bytes_of-requires-2
bytes_of-requires-2 c = c.requires.1 High

pub bytes_of-requires-3 : goal.bytes_of-requires-3
bytes_of-requires-3 c = c.requires.1 Io

pub returns : goal.returns
unfolding needs_by
returns c = let buses : c.args.bridges + 1 ≡ suc c.args.bridges = add-one c.args.bridges in
    λ i. record {
      buses = buses i;
      low = c.bytes_of.ensures i;
      high = c.bytes_of-2.ensures i;
      io = c.bytes_of-3.ensures i;
      low_align = c.window_align.ensures i;
      high_align = c.window_align-2.ensures i;
      io_align = c.window_align-3.ensures i;
    }
