-- `packet::fields_fit` meets its contract. Assumes nothing.
use Rattle.packet.specs.Widths.{fields_fit}
use Rattle.packet.proofs.fields_fit.Goals as goal

pub returns : goal.returns
unfolding fields_fit
returns c = rw (
  c.head_fits.ensures,
  c.head_of.ensures,
  c.tag_fits.ensures,
  c.length_fits.ensures,
  c.body_fits.ensures,
)
