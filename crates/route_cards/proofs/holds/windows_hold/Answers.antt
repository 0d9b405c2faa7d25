-- `route_cards::holds::windows_hold`: low and high in memory, one window in I/O. Assumes nothing.
use Rattle.route_cards.specs.HoldsLaws.{windows_memory, windows_ports}
use Rattle.route_cards.proofs.holds.windows_hold.Goals as goal

pub returns-in-Memory : goal.returns-in-Memory
returns-in-Memory c = rw c.in-Memory.is (windows_memory _ c.args.address c.requires.1 _ _ c.window_holds.ensures
    c.window_holds-in-Memory.ensures)

pub returns-in-Io : goal.returns-in-Io
returns-in-Io c = rw c.in-Io.is (windows_ports _ c.args.address c.requires.1 _ c.window_holds-in-Io.ensures)
