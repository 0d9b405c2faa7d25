-- Document 02, E6: a sheet that is accepted for a host record, sentence by sentence. Bytes are what a slice of u8 holds. Assumes nothing.
use Rattle.std.specs.Prelude.{◌≡◌, ◌↔◌, false, List, ℕ, length}
use Rattle.pools.specs.declared.Space.{Space}
use Rattle.board_record.specs.Host.{host_length, host_of_part, host_wrong}
use Rattle.walk.specs.Ranges.{Range, Inside, Within}
use Rattle.walk.specs.Good.{Tree, NestedBy, Disjoint}
use Rattle.sheet.specs.Sheet.{sheet_number}
use Rattle.sheet.specs.Spaces.{registers_of, nodes_of}
use Rattle.audit_rule.specs.Host.{host_for}
use Rattle.audit_rule.specs.declared.Nesting.{Nesting}
use Rattle.audit_rule.specs.declared.Nesting.TheVariants.{OfKind, OfSpace}

-- "any first record is on the host's first bus, every function is on that bus or on the secondary bus of exactly one bridge, bus ranges lie
-- in the parent's and in the host's, and siblings' are disjoint (else 50);" the same in both spaces
abbrev pub IsTree : List ℕ → List ℕ → Type 0
IsTree host s = (sp : Space) → Tree (host_for sp (host_of_part host)) (nodes_of s)

-- in one of its own pool; or, among the registers of one space, in any
abbrev pub Lies : Nesting → Range → Range → Type 0
Lies OfKind = Inside
Lies OfSpace = Within

-- "each BAR and open window lies in the window above, or on the root bus the pool, where document 01 puts its kind (else 51);"
abbrev pub IsNested : Nesting → List ℕ → List ℕ → Type 0
IsNested n host s = (sp : Space) → NestedBy (Lies n) (host_for sp (host_of_part host)) (registers_of sp s)

-- "and on each bus all BARs and open windows of one space are disjoint, enabled or not (else 52)."
abbrev pub IsDisjoint : List ℕ → Type 0
IsDisjoint s = (sp : Space) → Disjoint (registers_of sp s)

pub record AcceptedBy (n : Nesting) (host s : List ℕ) : Type 0 where
  -- "Given a host record (not 30 bytes is 20, then 26 as on a board, both tried first) and a sheet,"
  pub host_size : length host ≡ host_length
  pub host_edges : host_wrong (host_of_part host) ≡ false
  -- "say yes exactly when the sheet passes checks 20 to 29 in document 01's order;"
  pub passes : sheet_number s ≡ 0
  pub tree : IsTree host s
  pub nested : IsNested n host s
  pub disjoint : IsDisjoint s

-- as document 02 has it
abbrev pub Accepted : List ℕ → List ℕ → Type 0
Accepted = AcceptedBy OfKind

-- the same but for the kind: a memory BAR or window lies in some memory window above
abbrev pub OneOwner : List ℕ → List ℕ → Type 0
OneOwner = AcceptedBy OfSpace

-- each is right by itself: the host record, then the sheet
abbrev pub Lawful : List ℕ → List ℕ → Type 0
Lawful host s = (length host ≡ host_length) × (host_wrong (host_of_part host) ≡ false) × (sheet_number s ≡ 0)

-- each number exactly when its part is the first that fails: "50 to 52 are tried in turn."
pub record ByNumber (n : Nesting) (host s : List ℕ) (number : ℕ) : Type 0 where
  pub host_not_30 : ¬ (length host ≡ host_length) → number ≡ 20
  pub off_edges_lem : (number ≡ 26) ↔ ((length host ≡ host_length) × ¬ (host_wrong (host_of_part host) ≡ false))
  pub sheet_fails : length host ≡ host_length → host_wrong (host_of_part host) ≡ false → ¬ (sheet_number s ≡ 0) → number ≡ sheet_number s
  pub not_tree_lem : (number ≡ 50) ↔ (Lawful host s × ¬ IsTree host s)
  pub not_nested_lem : (number ≡ 51) ↔ (Lawful host s × IsTree host s × ¬ IsNested n host s)
  pub not_disjoint_lem : (number ≡ 52) ↔ (Lawful host s × IsTree host s × IsNested n host s × ¬ IsDisjoint s)
  pub accepted_else : (number ≡ 0) ↔ AcceptedBy n host s
