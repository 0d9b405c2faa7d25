-- `packet_text::put_target` meets its contract: the target's ID, then its register. Assumes nothing.
use Rattle.text.specs.Text.{ascii}
use Rattle.packet_text.specs.Labels.{target_text}
use Rattle.text.specs.TextLaws.{put_append}
use Rattle.packet_text.proofs.put_target.Goals as goal

pub returns : goal.returns
unfolding ascii target_text
returns c = put_append c.put_named_hexadecimal-at.ensures c.put_named_hexadecimal.ensures
