-- `sheet_where::id_spot` meets its contract: the least record with the same ID, if there is one. Assumes nothing.
use mathlib.Core.Path.{refl, sym}
use native.Mathlib.Omega.{arith}
use Rattle.sheet.specs.Sheet.{part_at}
use Rattle.sheet_where.specs.OwnLaws.{id_right, id_wrong}
use Rattle.sheet_where.proofs.id_spot.Goals as goal

pub returns-in_err-number : goal.returns-in_err-number
returns-in_err-number c = λ h. rw c.from_residual.ensures (id_right h c.args.sheet.now c.args.k
    (part_at c.args.sheet.now c.args.k) refl 0 (sym c.in_err-number.ensures) refl)

pub returns : goal.returns
returns c = λ h. id_wrong h c.args.sheet.now c.args.k (part_at c.args.sheet.now c.args.k) refl _ c.in_ok-number.ensures.0
    (λ z. omega (arith, c.in_ok-number.ensures.1))
