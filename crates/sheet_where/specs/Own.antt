-- What the sheet's own checks say of one record, in the words of the code. Assumes nothing.
use Rattle.std.specs.Prelude.{◌≡◌, ◌<◌, cond, List, ℕ, drop, length}
use Rattle.endian.specs.Endian.{be}
use Rattle.sheet_record.specs.Places.{readbacks_at}
use Rattle.sheet_record.specs.Entry.{Entry, dwords, header_of, slot_count, bridges}
use Rattle.audit_finding.specs.declared.Check as checks
use Rattle.audit_finding.specs.declared.Check.{Check}
use Rattle.audit_finding.specs.Where.{Mark, rest_marks, nibble_marks}
use Rattle.audit_finding.specs.Spots.{spot_at, spot_in, record_of}
use Rattle.sheet_where.specs.declared.Own.{Own}
use Rattle.sheet_where.specs.declared.Own.TheVariants.{HeaderType, Buses, Ids, ReadBacks, Nibbles}
use Rattle.board_record.specs.declared.Host.{Host}
use Rattle.sheet.specs.Sheet.{entries_of}
use Rattle.finding.specs.Places.{Spot, right}

abbrev pub check_for : Own → Check
check_for HeaderType = checks.TheVariants.HeaderType
check_for Buses = checks.TheVariants.Buses
check_for Ids = checks.TheVariants.Ids
check_for ReadBacks = checks.TheVariants.ReadBacks
check_for Nibbles = checks.TheVariants.Nibbles

-- the read-backs of slots that a record's function does not have
unfoldable pub rest_of : List ℕ → List Mark
rest_of p = let n = slot_count (header_of p) in rest_marks n (drop n (dwords (be 4) 6 p readbacks_at))

-- only a bridge has windows
abbrev pub nibble_spot : Entry → Spot
nibble_spot e = cond (bridges e) (spot_in (nibble_marks e)) right

-- a relation of an index to what is said there: it says of each record what the check does
abbrev pub TellsOf : Check → Host → List ℕ → (ℕ → Spot → Type 0) → Type 0
TellsOf c h s R = (k : ℕ) (x : Spot) → k < length (entries_of s) → R k x → x ≡ spot_at c h (entries_of s) (record_of s k)
