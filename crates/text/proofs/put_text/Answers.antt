-- `text::put_text` meets its contract: a text is copied from the place where it goes, as far as it fits. Assumes nothing.
use Rattle.std.proofs.Common.{arith}
use Rattle.text.specs.TextLaws.{put_copied, put_cut}
use Rattle.text.proofs.put_text.Goals as goal

pub returns-then-room-text : goal.returns-then-room-text
returns-then-room-text c = put_cut c.place-start.ensures (omega arith) (omega arith) c.copy_in.ensures

pub returns : goal.returns
returns c = put_copied c.place-start.ensures (omega arith) c.copy_in-2.ensures
