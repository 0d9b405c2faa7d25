-- `packet::rule_number` meets its contract: each kind by its own rules. Assumes nothing.
use Rattle.packet.proofs.rule_number.Goals as goal

pub returns-in-Memory : goal.returns-in-Memory
returns-in-Memory c = rw c.in-Memory.is (c.memory_rules.ensures _)

pub returns-in-Io : goal.returns-in-Io
returns-in-Io c = rw c.in-Io.is (c.io_rules.ensures _)

pub returns-in-Config : goal.returns-in-Config
returns-in-Config c = rw c.in-Config.is (c.config_rules.ensures _ _)

pub returns-in-Completion : goal.returns-in-Completion
returns-in-Completion c = rw c.in-Completion.is c.completion_rules.ensures

pub returns-in-Message : goal.returns-in-Message
returns-in-Message c = rw c.in-Message.is (c.message_rules.ensures _)
