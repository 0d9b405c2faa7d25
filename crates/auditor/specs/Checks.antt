-- Document 02, E6: the checks of a sheet under a host. Assumes nothing.
use Rattle.std.specs.Prelude.{Bool, List}
use Rattle.board_record.specs.declared.Host.{Host}
use Rattle.sheet_record.specs.Entry.{Entry}
use Rattle.audit_rule.specs.Audit.{not_tree, not_nested, not_disjoint}
use Rattle.audit_rule.specs.declared.Nesting.{Nesting}
use Rattle.auditor.specs.declared.Check.{Check}
use Rattle.auditor.specs.declared.Check.TheVariants.{Tree, Nested, Disjoint}

abbrev pub fails : Check → Nesting → Host → List Entry → Bool
fails Tree n h es = not_tree h es
fails Nested n h es = not_nested n h es
fails Disjoint n h es = not_disjoint es
