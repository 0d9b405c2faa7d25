-- 52 of one record, with its ranges at hand. Assumes nothing.
use Rattle.std.specs.Prelude.{Bool, ◌&&◌, ◌||◌, List, ℕ, eqb}
use Rattle.lists.specs.Lists.{any}
use Rattle.walk.specs.Ranges.{Range}
use Rattle.sheet_record.specs.Entry.{Entry, bus}
use Rattle.sheet_ranges.specs.Ranges.{ranges_of, overlap}
use Rattle.audit_rule.specs.Audit.{any_pair, any_overlap, overlap_on_bus}

-- a function of this bus has a range that overlaps one of these
abbrev pub overlaps_on : ℕ → List Range → Entry → Bool
overlaps_on b rs f = eqb b (bus f) && any_overlap rs (ranges_of f)

-- of a function and those after it
abbrev pub overlaps_at : Entry → List Entry → Bool
overlaps_at e es = any_pair overlap (ranges_of e) || any (overlap_on_bus e) es
