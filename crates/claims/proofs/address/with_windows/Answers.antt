-- `claims::address::with_windows`: none of an end function, low before high of a bridge. Assumes nothing.
use mathlib.Core.Path.{sym, ◌∙◌}
use Rattle.claims.specs.HitsLaws.{windows_none, windows_memory, windows_ports}
use Rattle.claims.specs.Claims.{tally_of}
use Rattle.claims.proofs.address.with_windows.Goals as goal

pub returns-then-not-is_bridge : goal.returns-then-not-is_bridge
returns-then-not-is_bridge c = windows_none c.args.address c.args.number c.args.part.now (tally_of c.args.tally) c.args.space
    (sym c.is_bridge.ensures ∙ c.if-not-is_bridge.true)

pub returns-in-Memory : goal.returns-in-Memory
returns-in-Memory c = rw c.in-Memory.is (windows_memory _ _ _ _ _ _ (sym c.is_bridge.ensures ∙ c.if-not-is_bridge.false)
    c.with_window-low.ensures c.with_window.ensures)

pub returns-in-Io : goal.returns-in-Io
returns-in-Io c = rw c.in-Io.is (windows_ports _ _ _ _ _ (sym c.is_bridge.ensures ∙ c.if-not-is_bridge.false)
    c.with_window-in-Io.ensures)
