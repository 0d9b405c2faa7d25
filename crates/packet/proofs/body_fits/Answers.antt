-- `packet::body_fits` meets its contract. Assumes nothing.
use Rattle.packet.specs.Widths.{body_fits}
use Rattle.packet.proofs.body_fits.Goals as goal

pub returns-in-Memory : goal.returns-in-Memory
unfolding body_fits
returns-in-Memory c = rw c.in-Memory.is (rw (c.enables_fit.ensures, c.address_fits.ensures))

pub returns-in-Io : goal.returns-in-Io
unfolding body_fits
returns-in-Io c = rw c.in-Io.is (rw (c.enables_fit-in-Io.ensures, c.address_fits-in-Io.ensures))

pub returns-in-Config : goal.returns-in-Config
unfolding body_fits
returns-in-Config c = rw c.in-Config.is (rw (c.enables_fit-in-Config.ensures, c.target_fits.ensures))

pub returns-in-Completion : goal.returns-in-Completion
unfolding body_fits
returns-in-Completion c = rw c.in-Completion.is c.outcome_fits.ensures

pub returns-in-Message : goal.returns-in-Message
unfolding body_fits
returns-in-Message c = rw c.in-Message.is c.content_fits.ensures
