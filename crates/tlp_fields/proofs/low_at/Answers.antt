-- `tlp_fields::low_at` meets its contract. Assumes nothing.
use borrow.Author.Tests.{eq-eqb, ne_eqb}
use Rattle.tlp_fields.proofs.low_at.Goals as goal

pub returns-then-form-eq4 : goal.returns-then-form-eq4
returns-then-form-eq4 c = simp (eq-eqb _ _ c.if-form-eq4.true)

pub returns-else-form-eq4 : goal.returns-else-form-eq4
returns-else-form-eq4 c = simp (ne_eqb _ _ c.if-form-eq4.false)
