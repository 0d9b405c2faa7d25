-- One BAR or open window and those of a record, in the words of the code: which of these it meets. Assumes nothing.
use Rattle.std.specs.Prelude.{◌≡◌, Bool, not, ◌&&◌, List, ℕ, ◌<◌, Option, MatchOption, eqb}
use Rattle.walk.specs.Ranges.{Range}
use Rattle.sheet_record.specs.Entry.{Entry}
use Rattle.sheet_ranges.specs.Ranges.{overlap}
use Rattle.finding.specs.declared.Party.{Party}
use Rattle.finding.specs.Places.{Spot, right, wrong_at, nobody}
use Rattle.finding.specs.First.{first}
use Rattle.audit_finding.specs.Placed.{Numbered, numbered, Placed, placed_of}
use Rattle.audit_finding.specs.Fails.{meets}
use Rattle.audit_finding.specs.Where.{least_meeting}

-- of one bus: x is the range at `place`, y the one at q, in the same record or not
abbrev pub meets_here : Range → Bool → ℕ → ℕ → Range → Bool
meets_here x same place q y = not (same && eqb q place) && overlap x y

-- the first place of a record that is met
abbrev pub met_at : Placed → Numbered → Spot
met_at p r = first (meets p) (λ q. wrong_at q.place nobody) right (placed_of r)

-- in a record of the same bus
abbrev pub met_in : Range → Bool → ℕ → Numbered → Spot
met_in x same place r = first (λ q. meets_here x same place q.place q.range) (λ q. wrong_at q.place nobody) right (placed_of r)

-- the least that is met, and None where nothing is
abbrev pub IsLeastMeeting : List Entry → Placed → Option Party → Type 0
IsLeastMeeting es p r =
    MatchOption r (least_meeting (numbered es) p ≡ nobody) (λ o. (o ≡ least_meeting (numbered es) p) × (0 < o.number))
