-- `board_record::is_bridge` meets its contract. Assumes nothing.
use mathlib.Core.Path.{ap, ◌∙◌}
use Rattle.bar.specs.Header.{is_bridge}
use Rattle.board_record.proofs.is_bridge.Goals as goal

pub returns : goal.returns
returns c = c.is_bridge.ensures ∙ ap is_bridge c.header_of.ensures
