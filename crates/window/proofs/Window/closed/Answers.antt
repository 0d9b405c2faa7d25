-- `Window::closed` gives each pool its one closed spelling: each arm's constant is the definition's. Assumes nothing.
use Rattle.window.specs.Window.{closed}
use Rattle.window.proofs.Window.closed.Goals as goal

pub returns-in-Low : goal.returns-in-Low
unfolding closed
returns-in-Low c = rw c.in-Low.is

pub returns-in-High : goal.returns-in-High
unfolding closed
returns-in-High c = rw c.in-High.is

pub returns-in-Io : goal.returns-in-Io
unfolding closed
returns-in-Io c = rw c.in-Io.is
