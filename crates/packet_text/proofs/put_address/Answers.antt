-- `packet_text::put_address` meets its contract: one named number. Assumes nothing.
use borrow.Author.Rules.{rules}
use Rattle.text.specs.Text.{ascii}
use Rattle.packet_text.specs.Labels.{address_text}
use Rattle.packet_text.proofs.put_address.Goals as goal

pub returns : goal.returns
unfolding ascii address_text
returns c = search rules
