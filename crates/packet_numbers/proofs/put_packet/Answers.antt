-- `packet_numbers::put_packet` meets its contract: by the kind. Assumes nothing.
use Rattle.packet_numbers.specs.Numbers.{numbers_of}
use Rattle.packet_numbers.proofs.put_packet.Goals as goal

pub returns-in-Memory : goal.returns-in-Memory
unfolding numbers_of
returns-in-Memory c = rw c.in-Memory.is (rw c.kind_number-kind.ensures at c.put_request.ensures)

pub returns-in-Io : goal.returns-in-Io
unfolding numbers_of
returns-in-Io c = rw c.in-Io.is (rw c.kind_number-kind-in-Io.ensures at c.put_request-in-Io.ensures)

pub returns-in-Config : goal.returns-in-Config
unfolding numbers_of
returns-in-Config c = rw c.in-Config.is (rw c.kind_number-kind-in-Config.ensures at c.put_request-in-Config.ensures)

pub returns-in-Completion : goal.returns-in-Completion
unfolding numbers_of
returns-in-Completion c = rw c.in-Completion.is (rw c.kind_number-kind-in-Completion.ensures at c.put_completion.ensures)

pub returns-in-Message : goal.returns-in-Message
unfolding numbers_of
returns-in-Message c = rw c.in-Message.is (rw c.message_code-kind.ensures at c.put_message.ensures)
