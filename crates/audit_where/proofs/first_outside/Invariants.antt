-- `audit_where::first_outside`: the loop over the ranges. Invariant: the first from index i on that lies in none above is the first of all.
-- Assumes nothing.
use mathlib.Core.Path.{◌≡◌}
use Prim.Native.Nat.{ℕ}
use Rattle.sheet_record.specs.Entry.{entry_of}
use Rattle.audit_rule.specs.declared.Nesting.TheVariants.{OfKind}
use Rattle.audit_rule.specs.Audit.{outside_all}
use Rattle.sheet_ranges.specs.Items.{ranges_in}
use Rattle.finding.specs.Places.{right, wrong_at, nobody}
use Rattle.finding.specs.First.{first}
use Rattle.range_place.specs.TurnsLaws.{placed_left}
use Rattle.audit_where.specs.Under.{outside_in}
use Rattle.audit_where.proofs.first_outside.Given as goal

abbrev pub invariant-loop-i : goal.invariant-loop-i
invariant-loop-i l =
    (number : ℕ)
    → first (λ q. outside_all OfKind (ranges_in l.m l.above) q.range) (λ q. wrong_at q.place nobody) right
    (placed_left (record { number = number; entry = entry_of l.part }) l.own l.n l.i)
    ≡ outside_in (ranges_in l.m l.above) (record { number = number; entry = entry_of l.part })
