-- `sheet_text::put_plan` meets its contract. Invariant: after the count, the lines of the records that were passed are put. Assumes
-- nothing.
use mathlib.Core.List.{flat_map}
use lib.ListN.{take}
use Rattle.text.specs.Text.{Put}
use Rattle.sheet.specs.Sheet.{entries_of}
use Rattle.sheet_text.specs.Listing.{line_of}
use Rattle.sheet_text.proofs.put_plan.Given as goal

abbrev pub invariant-loop-k : goal.invariant-loop-k
invariant-loop-k l = Put l.initial.out l.initial.next (flat_map line_of (take l.k (entries_of l.sheet))) l.out l.next
