-- `tlp_fields::address_at` meets its contract. Assumes nothing.
use native.Mathlib.Omega.{arith}
use borrow.Author.Tests.{eq-eqb, ne_eqb}
use Rattle.endian.specs.EndianLaws.{be_add}
use Rattle.tlp_fields.specs.Fields.{address_at}
use Rattle.tlp_fields.specs.FieldsLaws.{low_fits}
use Rattle.tlp_fields.proofs.address_at.Goals as goal

pub read_be32-low-requires : goal.read_be32-low-requires
read_be32-low-requires c = rw c.low_at.ensures (low_fits _ _ c.requires.0 c.requires.1)

pub returns-then-form-eq4 : goal.returns-then-form-eq4
unfolding address_at
returns-then-form-eq4 c = let four = eq-eqb _ _ c.if-form-eq4.true in
    let low = rw (c.low_at.ensures, four) at c.read_be32-low.ensures.0 in
    rw four (omega (arith, be_add 4 4 c.args.s.now 8, low, c.read_be32-high.ensures.0))

pub returns-else-form-eq4 : goal.returns-else-form-eq4
unfolding address_at
returns-else-form-eq4 c = let three = ne_eqb _ _ c.if-form-eq4.false in
    rw three (rw (c.low_at.ensures, three) at c.read_be32-low.ensures.0)
