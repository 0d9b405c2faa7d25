-- `Window::start` is the address of the base. Assumes nothing.
use borrow.Author.Rules.{rules}
use Rattle.window.specs.Window.{start}
use Rattle.window.proofs.Window.start.Goals as goal

pub returns : goal.returns
unfolding start
returns c = search rules
