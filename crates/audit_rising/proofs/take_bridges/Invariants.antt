-- `audit_rising::take_bridges`: the loop over the records. Invariant: where what is left rises from here, all rises from the start. Assumes
-- nothing.
use mathlib.Core.Path.{◌≡◌}
use mathlib.Core.List.{flat_map}
use lib.ListN.{length}
use Rattle.sheet.specs.Sheet.{entries_from, entries_of, record_at}
use Rattle.audit_rising.specs.Rising.{Rising}
use Rattle.audit_rising.specs.Spots.{buses_of}
use Rattle.audit_rising.proofs.take_bridges.Given as goal

abbrev pub invariant-loop-k : goal.invariant-loop-k
invariant-loop-k l =
    (length l.table ≡ 256)
    × (Rising l.table (flat_map buses_of (entries_from l.sheet (record_at l.k))) → Rising l.initial.table (flat_map buses_of (entries_of l.sheet)))
