-- "A refusal names its record, proved", of an audit: who fails it, in the words of its request, over the finding's own number, parties and
-- places. `who_fails` of WhoFailsLaws proves it. Assumes nothing.
use Rattle.std.specs.Prelude.{◌≡◌, ◌⊎◌, true, List, ℕ, ◌<◌}
use Rattle.lists.specs.Lists.{◌∈◌}
use Rattle.board_record.specs.declared.Host.{Host}
use Rattle.board_record.specs.Host.{host_of_part}
use Rattle.walk.specs.Ranges.{Holds}
use Rattle.sheet_record.specs.Entry.{Entry, bus, bridges}
use Rattle.sheet.specs.Sheet.{entries_of}
use Rattle.sheet_above.specs.Parents.{under_several}
use Rattle.sheet_ranges.specs.Ranges.{space_number}
use Rattle.audit_rule.specs.Audit.{parent_in, audit_number}
use Rattle.finding.specs.declared.Party.{Party}
use Rattle.finding.specs.declared.Finding.{Finding}
use Rattle.finding.specs.Places.{bus_registers, function_id, nobody}
use Rattle.finding.specs.FirstLaws.{FirstOf}
use Rattle.audit_finding.specs.declared.Check.{Check}
use Rattle.audit_finding.specs.declared.Check.TheVariants.{Whole, HeaderType, Buses, Ids, ReadBacks, Nibbles, Tree, Places, Overlaps}
use Rattle.audit_finding.specs.declared.Relation.{Relation}
use Rattle.audit_finding.specs.declared.Relation.TheVariants.{SameId, SharedBuses, Leads}
use Rattle.audit_finding.specs.Placed.{Numbered, numbered, Placed, placed_in}
use Rattle.audit_finding.specs.Fails.{is_met, meets, fails}
use Rattle.audit_finding.specs.Where.{read_back_marks, nibble_marks, party_of}
use Rattle.audit_finding.specs.Finding.{finding_of}
use Rattle.audit_finding.specs.WhereLaws.{WrongAt, Met, TreeFault, SharedBus, Outside, Overlapping}

-- ## The record named

-- "for 24 to 29 and 50 to 52": the number of each check; 26 is the host's
abbrev pub IsUnder : Check → ℕ → Type 0
IsUnder Whole n = ⊥
IsUnder HeaderType n = n ≡ 24
IsUnder ReadBacks n = n ≡ 25
IsUnder Buses n = n ≡ 27
IsUnder Ids n = n ≡ 28
IsUnder Nibbles n = n ≡ 29
IsUnder Tree n = n ≡ 50
IsUnder Places n = n ≡ 51
IsUnder Overlaps n = n ≡ 52

-- "its place (a BAR slot, the low, high or I/O window, the bus registers, the ID)": what is wrong with the record at the place named, and
-- at none before it; "and for 28, 50 (siblings, two bridges) and 52 the other party, the least record and place that it meets"
abbrev pub Fault : Check → Host → List Entry → Numbered → ℕ → Party → Type 0
Fault Whole h es r place other = ⊥
Fault HeaderType h es r place other = (place ≡ function_id) × (other ≡ nobody)
Fault ReadBacks h es r place other = WrongAt (read_back_marks r.entry) place × (other ≡ nobody)
Fault Buses h es r place other = (place ≡ bus_registers) × (other ≡ nobody)
Fault Ids h es r place other = (place ≡ function_id) × Met SameId es r other function_id
Fault Nibbles h es r place other = WrongAt (nibble_marks r.entry) place × (other ≡ nobody)
Fault Tree h es r place other = TreeFault h es r place other
Fault Places h es r place other = Outside h es r place × (other ≡ nobody)
Fault Overlaps h es r place other = Overlapping es r place other

-- "the first record at which that check fails, in record order;"
pub record NamesFirst (host s : List ℕ) (c : Check) (f : Finding) : Type 0 where
  pub first_failing_lem : FirstOf (fails c (host_of_part host) (entries_of s)) (numbered (entries_of s))
  pub number_is : f.party.number ≡ first_failing_lem.one.number
  pub fault : Fault c (host_of_part host) (entries_of s) first_failing_lem.one f.party.place f.other

-- ## Two that meet

-- two records of the sheet, named at these places, the second the least that the first meets, and how they do
pub record Meet (relation : Relation) (How : Entry → Entry → Type 0) (s : List ℕ) (place other_place : ℕ) (f : Finding) : Type 0 where
  pub one : Numbered
  pub one_in : one ∈ numbered (entries_of s)
  pub least : FirstOf (is_met relation one) (numbered (entries_of s))
  pub party_is : f.party ≡ record { number = one.number; place = place }
  pub other_is : f.other ≡ record { number = least.one.number; place = other_place }
  pub two_records : ¬ (one.number ≡ least.one.number)
  pub how : How one.entry least.one.entry

-- the second is one of several bridges that lead to the bus of the first
abbrev pub OneOfSeveral : Host → List Entry → Entry → Entry → Type 0
OneOfSeveral h es e b = (parent_in h es e ≡ under_several) × (bridges b ≡ true) × (b.secondary ≡ bus e)

-- two BARs or open windows of one bus and space, those named, the second the least that the first meets, and an address in both
pub record Overlap (s : List ℕ) (f : Finding) : Type 0 where
  pub one : Placed
  pub one_in : one ∈ placed_in (numbered (entries_of s))
  pub least : FirstOf (meets one) (placed_in (numbered (entries_of s)))
  pub party_is : f.party ≡ party_of one
  pub other_is : f.other ≡ party_of least.one
  pub two_parties : ¬ (f.party ≡ f.other)
  pub one_bus : bus one.owner.entry ≡ bus least.one.owner.entry
  pub one_space : space_number one.range.pool ≡ space_number least.one.range.pool
  pub address : ℕ
  pub in_one : Holds one.range address
  pub in_other : Holds least.one.range address

-- ## The sentences

pub record WhoFails : Type 0 where
  -- "The number is the audit's (the planner's), by equation;"
  pub number : (host s : List ℕ) → (finding_of host s).number ≡ audit_number host s
  -- "the record named really fails that check, no earlier one does;"
  pub first_failing_lem : (host s : List ℕ) (c : Check) → IsUnder c (finding_of host s).number → NamesFirst host s c (finding_of host s)
  -- "For 20 to 22 and 26 of the host, record 0." And where the sheet is accepted
  pub nobody_else : (host s : List ℕ) → ((finding_of host s).number < 23) ⊎ ((finding_of host s).number ≡ 26)
      → ((finding_of host s).party ≡ nobody) × ((finding_of host s).other ≡ nobody)
  -- "the two named really overlap (there is an address in both)," of 52
  pub overlap : (host s : List ℕ) → (finding_of host s).number ≡ 52 → Overlap s (finding_of host s)
  -- "or meet;" of 28 by their ID, and of 50, where another is named, as siblings that lead to one bus or with a bridge that is one of
  -- several to the same bus
  pub one_id : (host s : List ℕ) → (finding_of host s).number ≡ 28
      → Meet SameId (λ e f. e.id ≡ f.id) s function_id function_id (finding_of host s)
  pub one_bus : (host s : List ℕ) → (finding_of host s).number ≡ 50 → ¬ ((finding_of host s).other ≡ nobody)
      → Meet SharedBuses SharedBus s bus_registers bus_registers (finding_of host s)
      ⊎ Meet Leads (OneOfSeveral (host_of_part host) (entries_of s)) s function_id bus_registers (finding_of host s)
