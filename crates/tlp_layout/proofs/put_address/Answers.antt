-- `tlp_layout::put_address` meets its contract. Assumes nothing.
use Rattle.tlp_layout.specs.Layout.{address_bytes}
use borrow.Author.Tests.{eq-eqb, ne_eqb}
use Rattle.tlp_layout.proofs.put_address.Goals as goal

pub returns-then-h-eq4 : goal.returns-then-h-eq4
unfolding address_bytes
returns-then-h-eq4 c = rw (eq-eqb _ _ c.if-h-eq4.true) c.write_be64.ensures

pub returns-else-h-eq4 : goal.returns-else-h-eq4
unfolding address_bytes
returns-else-h-eq4 c = rw (ne_eqb _ _ c.if-h-eq4.false) c.write_be32.ensures
