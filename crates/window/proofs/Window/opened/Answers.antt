-- `Window::opened` fills the four registers from the first and the last address. Assumes nothing.
use Rattle.window.specs.Window.{opened}
use Rattle.window.proofs.Window.opened.Goals as goal

pub returns : goal.returns
unfolding opened
returns c = cc
