-- What is asked of each record under each number: whether the record fails its check. A record fails 28, 50's siblings and 52 with every
-- record that it meets, so the first that fails is the lower one of two. Assumes nothing.
use Rattle.std.specs.Prelude.{Bool, false, not, ◌&&◌, ◌||◌, List, ℕ, eqb}
use Rattle.lists.specs.Lists.{any}
use Rattle.board_record.specs.declared.Host.{Host}
use Rattle.sheet_record.specs.Entry.{Entry, bus}
use Rattle.sheet.specs.declared.Rule as rules
use Rattle.sheet.specs.Sheet.{breaks}
use Rattle.sheet_above.specs.Parents.{leads_to}
use Rattle.sheet_ranges.specs.Ranges.{overlap}
use Rattle.audit_rule.specs.declared.Nesting.TheVariants.{OfKind}
use Rattle.audit_rule.specs.Audit.{way_up_wrong, buses_shared, outside_above}
use Rattle.finding.specs.First.{first}
use Rattle.audit_finding.specs.declared.Check.{Check}
use Rattle.audit_finding.specs.declared.Check.TheVariants.{Whole, HeaderType, Buses, Ids, ReadBacks, Nibbles, Tree, Places, Overlaps}
use Rattle.audit_finding.specs.declared.Relation.{Relation}
use Rattle.audit_finding.specs.declared.Relation.TheVariants.{SameId, SharedBuses, Leads}
use Rattle.audit_finding.specs.Placed.{Numbered, numbered, Placed, placed_of, placed_in}

-- ## Two records

abbrev pub is_other : Numbered → Numbered → Bool
is_other r q = not (eqb q.number r.number)

abbrev pub related : Relation → Entry → Entry → Bool
related SameId e f = eqb f.id e.id
related SharedBuses e f = buses_shared e f
related Leads e f = leads_to (bus e) f

-- another record that stands in the relation to this one
abbrev pub is_met : Relation → Numbered → Numbered → Bool
is_met relation r q = is_other r q && related relation r.entry q.entry

-- the least of them, and 0 where there is none
unfoldable pub least_met : Relation → List Numbered → Numbered → ℕ
least_met relation rs r = first (is_met relation r) (λ q. q.number) 0 rs

abbrev pub meets_one : Relation → List Numbered → Numbered → Bool
meets_one relation rs r = not (eqb (least_met relation rs r) 0)

-- ## Two BARs or open windows

-- "on each bus all BARs and open windows of one space are disjoint": two that are not, of one record at two places or of two records
abbrev pub meets : Placed → Placed → Bool
meets p q =
    eqb (bus p.owner.entry) (bus q.owner.entry)
    && (not (eqb q.owner.number p.owner.number && eqb q.place p.place) && overlap p.range q.range)

abbrev pub meets_any : List Numbered → Placed → Bool
meets_any rs p = any (meets p) (placed_in rs)

-- ## A record of a sheet fails its check

-- 50, "any first record is on the host's first bus"
abbrev pub starts_elsewhere : Host → Numbered → Bool
starts_elsewhere h r = eqb r.number 1 && not (eqb (bus r.entry) h.first_bus)

unfoldable pub fails : Check → Host → List Entry → Numbered → Bool
-- about the host record or the sheet as a whole: no record fails
fails Whole h es r = false
-- 24, 27, 25 and 29: the record by itself
fails HeaderType h es r = breaks rules.TheVariants.HeaderType r.entry
fails Buses h es r = breaks rules.TheVariants.Buses r.entry
fails ReadBacks h es r = breaks rules.TheVariants.ReadBacks r.entry
fails Nibbles h es r = breaks rules.TheVariants.Nibbles r.entry
-- 28: another record has its ID
fails Ids h es r = meets_one SameId (numbered es) r
-- 50: it is the first and not on the host's first bus; not under the host or exactly one bridge, or its buses are not among the parent's or
-- the host's; or another bridge of its bus leads to a bus that it leads to
fails Tree h es r = starts_elsewhere h r || (way_up_wrong h es r.entry || meets_one SharedBuses (numbered es) r)
-- 51: one of its BARs and open windows lies in none above
fails Places h es r = outside_above OfKind h es r.entry
-- 52: one of its BARs and open windows meets another one
fails Overlaps h es r = any (meets_any (numbered es)) (placed_of r)
