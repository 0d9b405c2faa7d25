-- What 50 and 51 say of one record, in the words of the code. Assumes nothing.
use Rattle.std.specs.Prelude.{◌≡◌, Bool, not, List, ℕ}
use Rattle.walk.specs.Ranges.{Range}
use Rattle.sheet.specs.Sheet.{entries_of}
use Rattle.sheet.proofs.SheetLaws.{Checked}
use Rattle.sheet_above.specs.Parents.{parent_of}
use Rattle.audit_rule.specs.declared.Nesting.TheVariants.{OfKind}
use Rattle.audit_rule.specs.Audit.{outside_all}
use Rattle.sheet_above.specs.Table.{Leads}
use Rattle.auditor.specs.declared.Check as auditor
use Rattle.auditor.specs.declared.Check.TheVariants.{Tree, Nested, Disjoint}
use Rattle.finding.specs.Places.{Spot, right, wrong_at, nobody}
use Rattle.finding.specs.First.{first}
use Rattle.audit_finding.specs.declared.Check as checks
use Rattle.audit_finding.specs.declared.Check.{Check}
use Rattle.audit_finding.specs.Placed.{Numbered, placed_of}
use Rattle.audit_finding.specs.Where.{is_nowhere}

abbrev pub check_under : auditor.Check → Check
check_under Tree = checks.TheVariants.Tree
check_under Nested = checks.TheVariants.Places
check_under Disjoint = checks.TheVariants.Overlaps

-- told by the table of any checked sheet whose it is
abbrev pub HasParent : List ℕ → ℕ → ℕ → Bool → Type 0
HasParent table root bus r =
    (s : List ℕ) → Checked s → Leads (entries_of s) table → r ≡ not (is_nowhere (parent_of root (entries_of s) bus))

-- the first of a record's BARs and open windows that lies in none of these
abbrev pub outside_in : List Range → Numbered → Spot
outside_in above r = first (λ p. outside_all OfKind above p.range) (λ p. wrong_at p.place nobody) right (placed_of r)
