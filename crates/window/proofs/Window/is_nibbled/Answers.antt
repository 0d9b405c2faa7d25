-- `Window::is_nibbled` compares both low nibbles with the pool's. Assumes nothing.
use Rattle.window.specs.Window.{is_nibbled}
use Rattle.window.proofs.Window.is_nibbled.Goals as goal

pub returns : goal.returns
unfolding is_nibbled
returns c = rw (c.nibble-expected.ensures.0, c.from.ensures, c.from-2.ensures)
