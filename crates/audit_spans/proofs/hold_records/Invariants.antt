-- `audit_spans::hold_records`: the loop over the records. Invariant: where what is left is spread from here, all is spread from the start.
-- Assumes nothing.
use mathlib.Core.Path.{◌≡◌}
use mathlib.Core.List.{flat_map}
use Prim.Native.Nat.{◌≤◌}
use lib.ListN.{length}
use Rattle.sheet.specs.Sheet.{entries_from, entries_of, record_at}
use Rattle.audit_rising.specs.Spots.{spots_of}
use Rattle.audit_spans.specs.Spans.{Spread}
use Rattle.audit_spans.proofs.hold_records.Given as goal

abbrev pub invariant-loop-k : goal.invariant-loop-k
invariant-loop-k l =
    (length l.spans ≡ 384)
    × (length l.room ≡ 18)
    × (l.n ≤ 128)
    × (Spread (l.spans, l.n) (flat_map spots_of (entries_from l.sheet (record_at l.k))) → Spread (l.initial.spans, 0) (flat_map spots_of (entries_of l.sheet)))
