-- `audit_where::own_parties` meets its contract: number by number. Assumes nothing.
use native.Mathlib.Omega.{arith}
use mathlib.Core.Path.{refl, sym, ap, ◌∙◌}
use Rattle.sheet.specs.Sheet.{entries_of}
use Rattle.audit_finding.specs.declared.Check.{Check}
use Rattle.audit_finding.specs.declared.Check.TheVariants.{HeaderType, Buses, Ids, ReadBacks, Nibbles}
use Rattle.audit_finding.specs.Finding.{first_failing}
use Rattle.audit_where.specs.WhereLaws.{named, check_24, check_25, check_27, check_28, check_29, nobody_own}
use Rattle.audit_where.proofs.own_parties.Goals as goal

pub first_failing-requires : goal.first_failing-requires
first_failing-requires c = c.requires.1 (named _ HeaderType (check_24 _ c.in-24.is) refl)

pub first_failing-requires-in-25 : goal.first_failing-requires-in-25
first_failing-requires-in-25 c = c.requires.1 (named _ ReadBacks (check_25 _ c.in-25.is) refl)

pub first_failing-requires-in-27 : goal.first_failing-requires-in-27
first_failing-requires-in-27 c = c.requires.1 (named _ Buses (check_27 _ c.in-27.is) refl)

pub first_failing-requires-in-28 : goal.first_failing-requires-in-28
first_failing-requires-in-28 c = c.requires.1 (named _ Ids (check_28 _ c.in-28.is) refl)

pub first_failing-requires-in-29 : goal.first_failing-requires-in-29
first_failing-requires-in-29 c = c.requires.1 (named _ Nibbles (check_29 _ c.in-29.is) refl)

pub returns-in-24 : goal.returns-in-24
returns-in-24 c = let es = entries_of c.args.sheet.now in
    λ h. c.first_failing.ensures h ∙ ap (λ (x : Check). first_failing x h es) (sym (check_24 _ c.in-24.is))

pub returns-in-25 : goal.returns-in-25
returns-in-25 c = let es = entries_of c.args.sheet.now in
    λ h. c.first_failing-in-25.ensures h ∙ ap (λ (x : Check). first_failing x h es) (sym (check_25 _ c.in-25.is))

pub returns-in-27 : goal.returns-in-27
returns-in-27 c = let es = entries_of c.args.sheet.now in
    λ h. c.first_failing-in-27.ensures h ∙ ap (λ (x : Check). first_failing x h es) (sym (check_27 _ c.in-27.is))

pub returns-in-28 : goal.returns-in-28
returns-in-28 c = let es = entries_of c.args.sheet.now in
    λ h. c.first_failing-in-28.ensures h ∙ ap (λ (x : Check). first_failing x h es) (sym (check_28 _ c.in-28.is))

pub returns-in-29 : goal.returns-in-29
returns-in-29 c = let es = entries_of c.args.sheet.now in
    λ h. c.first_failing-in-29.ensures h ∙ ap (λ (x : Check). first_failing x h es) (sym (check_29 _ c.in-29.is))

pub returns-in_default : goal.returns-in_default
returns-in_default c = λ h. nobody_own _ h _ c.requires.0 (λ z. omega arith) (λ z. omega arith) (λ z. omega arith)
    (λ z. omega arith) (λ z. omega arith)
