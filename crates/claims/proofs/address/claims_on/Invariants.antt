-- `claims::address::claims_on`: two loops left by one label. Invariant of both: the tally joined with what is left is the answer; what is
-- left are the slots from i on, then the windows, then the records after this one. Measures: records left, slots left. Assumes nothing.
use mathlib.Core.Path.{◌≡◌}
use mathlib.Core.Bool.{true}
use Prim.Native.Nat.{◌-◌, ◌≤◌, ◌<◌}
use lib.ListN.{take}
use Rattle.walk.specs.Tally.{join}
use Rattle.claims.specs.Claims.{tally_of, tally_for}
use Rattle.claims.specs.Search.{is_live}
use Rattle.sheet.specs.Sheet.{part_at}
use Rattle.claims.specs.declared.Aim.TheVariants.{Address}
use Rattle.claims.specs.HitsLaws.{LawfulFrom}
use Rattle.claims.specs.TurnLaws.{claims_from, record_claims}
use Rattle.claims.proofs.address.claims_on.Given as goal

abbrev pub invariant-loop-i : goal.invariant-loop-i
invariant-loop-i l =
    LawfulFrom (take l.slots l.set) l.i
    × (join (tally_of l.tally) (record_claims l.space l.address l.bus l.sheet l.number l.part (take l.slots l.set) (take l.slots l.values) l.i)
    ≡ tally_for (Address l.space l.address) l.sheet l.bus)

abbrev pub decreases-loop-i : goal.decreases-loop-i
decreases-loop-i l = l.slots - l.i

abbrev pub invariant-records : goal.invariant-records
invariant-records l =
    (join (tally_of l.tally) (claims_from l.space l.sheet l.address l.bus l.k) ≡ tally_for (Address l.space l.address) l.sheet l.bus)
    × (l.k ≤ l.records)
    × (l.k < l.records → true ≡ is_live l.space l.bus (part_at l.sheet l.k))

abbrev pub decreases-records : goal.decreases-records
decreases-records l = l.records - l.k
