-- `tlp::read_as` meets its contract: each kind by its own reader. Assumes nothing.
use Rattle.tlp.proofs.read_as.Goals as goal

pub returns-in-Memory : goal.returns-in-Memory
returns-in-Memory c = rw c.in-Memory.is c.read_memory.ensures

pub returns-in-Io : goal.returns-in-Io
returns-in-Io c = rw c.in-Io.is c.read_io.ensures

pub returns-in-Config : goal.returns-in-Config
returns-in-Config c = rw c.in-Config.is c.read_config.ensures

pub returns-in-Completion : goal.returns-in-Completion
returns-in-Completion c = rw c.in-Completion.is c.read_completion.ensures

pub returns-in-Message : goal.returns-in-Message
returns-in-Message c = rw c.in-Message.is c.read_message.ensures
