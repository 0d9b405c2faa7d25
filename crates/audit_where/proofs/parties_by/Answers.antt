-- `audit_where::parties_by` meets its contract: number by number. Assumes nothing.
use native.Mathlib.Omega.{arith}
use mathlib.Core.Path.{sym, ap, ◌∙◌}
use Rattle.sheet.specs.Sheet.{entries_of}
use Rattle.audit_finding.specs.declared.Check.{Check}
use Rattle.audit_finding.specs.declared.Check.TheVariants.{Tree, Places, Overlaps}
use Rattle.std.proofs.Common.{rules}
use Rattle.audit_finding.specs.Finding.{first_failing}
use Rattle.audit_where.specs.WhereLaws.{check_50, check_51, check_52, nobody_under}
use Rattle.audit_where.proofs.parties_by.Goals as goal

pub returns-in-50 : goal.returns-in-50
returns-in-50 c = c.first_wrong.ensures Tree c.args.host (λ k x l p. search rules)
    ∙ ap (λ (x : Check). first_failing x c.args.host (entries_of c.args.sheet.now)) (sym (check_50 _ c.in-50.is))

pub returns-in-51 : goal.returns-in-51
returns-in-51 c = c.first_wrong-in-51.ensures Places c.args.host (λ k x l p. search rules)
    ∙ ap (λ (x : Check). first_failing x c.args.host (entries_of c.args.sheet.now)) (sym (check_51 _ c.in-51.is))

pub returns-in-52 : goal.returns-in-52
returns-in-52 c = c.first_wrong-in-52.ensures Overlaps c.args.host (λ k x l p. search rules)
    ∙ ap (λ (x : Check). first_failing x c.args.host (entries_of c.args.sheet.now)) (sym (check_52 _ c.in-52.is))

pub returns-in_default : goal.returns-in_default
returns-in_default c = nobody_under _ _ _ c.requires.0 (λ z. omega arith) (λ z. omega arith) (λ z. omega arith)
