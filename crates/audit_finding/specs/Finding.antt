-- Who fails an audit: the audit's number, and for 24 to 29 and 50 to 52 the first record at which that check fails, in record order, its
-- place, and the other one that it meets. For 20 to 22, 26 of the host and 0 nobody. Assumes nothing.
use Rattle.std.specs.Prelude.{cond, List, ℕ, eqb}
use Rattle.board_record.specs.declared.Host.{Host}
use Rattle.board_record.specs.Host.{host_of_part}
use Rattle.sheet_record.specs.Entry.{Entry}
use Rattle.sheet.specs.Sheet.{entries_of}
use Rattle.audit_rule.specs.Audit.{audit_number}
use Rattle.finding.specs.declared.Parties.{Parties}
use Rattle.finding.specs.declared.Finding.{Finding}
use Rattle.finding.specs.Places.{nobodies}
use Rattle.finding.specs.First.{first}
use Rattle.audit_finding.specs.declared.Check.{Check}
use Rattle.audit_finding.specs.declared.Check.TheVariants.{Whole, HeaderType, Buses, Ids, ReadBacks, Nibbles, Tree, Places, Overlaps}
use Rattle.audit_finding.specs.Placed.{Numbered, numbered}
use Rattle.audit_finding.specs.Fails.{fails}
use Rattle.audit_finding.specs.Where.{place_in, other_of}

-- the check that a number is about
unfoldable pub under_host : ℕ → Check
under_host n = cond (eqb n 50) Tree (cond (eqb n 51) Places (cond (eqb n 52) Overlaps Whole))

unfoldable pub check_of : ℕ → Check
check_of n =
    cond (eqb n 24) HeaderType
    (cond (eqb n 25) ReadBacks (cond (eqb n 27) Buses (cond (eqb n 28) Ids (cond (eqb n 29) Nibbles (under_host n)))))

-- a record that fails the check
abbrev pub named : Check → Host → List Entry → Numbered → Parties
named c h es r = record { party = record { number = r.number; place = place_in c h es r }; other = other_of c h es r }

-- the first that does
unfoldable pub first_failing : Check → Host → List Entry → Parties
first_failing c h es = first (fails c h es) (named c h es) nobodies (numbered es)

abbrev pub found : ℕ → Parties → Finding
found n p = record { number = n; party = p.party; other = p.other }

unfoldable pub finding_of : List ℕ → List ℕ → Finding
finding_of host s = found (audit_number host s) (first_failing (check_of (audit_number host s)) (host_of_part host) (entries_of s))
