-- `packet_text::put_body` meets its contract: one return for each kind of packet, the texts of its parts one after the other. Assumes
-- nothing.
use Rattle.packet_text.specs.Labels.{body_text}
use Rattle.text.specs.TextLaws.{put_append}
use Rattle.packet_text.proofs.put_body.Goals as goal

pub returns-in-Memory : goal.returns-in-Memory
unfolding body_text
returns-in-Memory c = rw c.in-Memory.is (put_append c.put_enables-at.ensures c.put_address.ensures)

pub returns-in-Io : goal.returns-in-Io
unfolding body_text
returns-in-Io c = rw c.in-Io.is (put_append c.put_enables-at-in-Io.ensures c.put_address-in-Io.ensures)

pub returns-in-Config : goal.returns-in-Config
unfolding body_text
returns-in-Config c = rw c.in-Config.is (put_append c.put_enables-at-in-Config.ensures c.put_target.ensures)

pub returns-in-Completion : goal.returns-in-Completion
unfolding body_text
returns-in-Completion c = rw c.in-Completion.is c.put_outcome.ensures

pub returns-in-Message : goal.returns-in-Message
unfolding body_text
returns-in-Message c = rw c.in-Message.is c.put_content.ensures
