-- `index_table::shift_of` meets its contract. Invariant: from here on the same shift is found. Assumes nothing.
use Rattle.std.proofs.Common.{◌≡◌, ◌-◌}
use Rattle.index_table.specs.Table.{shift_of}
use Rattle.index_table.proofs.shift_of.Given as goal

abbrev pub invariant-loop-s : goal.invariant-loop-s
invariant-loop-s l = shift_of (63 - l.s) l.d l.most l.s ≡ shift_of 63 l.d l.most 0
