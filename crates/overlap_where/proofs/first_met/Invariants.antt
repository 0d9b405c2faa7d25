-- `overlap_where::first_met`: the loop over the ranges. Invariant: the first from index i on that is met is the first of all. Assumes
-- nothing.
use mathlib.Core.Path.{◌≡◌}
use Prim.Native.Nat.{ℕ}
use Rattle.sheet_record.specs.Entry.{entry_of}
use Rattle.sheet_ranges.specs.Items.{range_of}
use Rattle.finding.specs.Places.{right, wrong_at, nobody}
use Rattle.finding.specs.First.{first}
use Rattle.range_place.specs.TurnsLaws.{placed_left}
use Rattle.overlap_where.specs.Meeting.{meets_here, met_in}
use Rattle.overlap_where.proofs.first_met.Given as goal

abbrev pub invariant-loop-i : goal.invariant-loop-i
invariant-loop-i l =
    (number : ℕ)
    → first (λ q. meets_here (range_of l.x) l.same l.place q.place q.range) (λ q. wrong_at q.place nobody) right
    (placed_left (record { number = number; entry = entry_of l.part }) l.room l.n l.i)
    ≡ met_in (range_of l.x) l.same l.place (record { number = number; entry = entry_of l.part })
