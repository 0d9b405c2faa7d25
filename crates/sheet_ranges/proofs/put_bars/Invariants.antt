-- `sheet_ranges::put_bars`: the loop over the slots. Invariant: the BARs put so far, then those of the slots from where the walk stands on,
-- are all; the values are lawful from there on. Assumes nothing.
use mathlib.Core.Bool.{true}
use mathlib.Core.List.{◌++◌}
use mathlib.Core.Path.{◌≡◌}
use Prim.Native.Nat.{◌≤◌}
use lib.ListN.{length, take}
use Rattle.endian.specs.Endian.{be}
use Rattle.sheet_record.specs.Places.{readbacks_at}
use Rattle.sheet_record.specs.Entry.{dwords}
use Rattle.bar.specs.ValuesLaws.{values_from}
use Rattle.bar.specs.WalkLaws.{Over}
use Rattle.sheet_ranges.specs.Items.{ranges_in, bars_in}
use Rattle.sheet_ranges.specs.BarsLaws.{bars_at}
use Rattle.sheet_ranges.proofs.put_bars.Given as goal

abbrev pub invariant-loop-i : goal.invariant-loop-i
invariant-loop-i l = record {
  over : Over (dwords (be 4) 6 l.part readbacks_at) l.slots l.i-iterator;
  few : l.n ≤ l.i-iterator.next;
  within : l.n ≤ l.slots;
  same_length : length l.room ≡ length l.initial.room;
  lawful : values_from (take l.slots (dwords (be 4) 6 l.part readbacks_at)) (take l.slots l.values) l.i-iterator.next ≡ true;
  all : ranges_in l.n l.room ++ bars_at (take l.slots (dwords (be 4) 6 l.part readbacks_at)) (take l.slots l.values) l.i-iterator.next ≡ bars_in l.part;
}
