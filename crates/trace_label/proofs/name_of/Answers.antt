-- `trace_label::name_of` meets its contract: its kind's word. Assumes nothing.
use native.Mathlib.Omega.{arith}
use mathlib.Core.Path.{refl}
use Rattle.endian.specs.Endian.{be_bytes}
use Rattle.text.specs.Text.{ascii}
use Rattle.trace_label.specs.Word.{name_in}
use Rattle.trace_label.proofs.name_of.Goals as goal

pub returns-in-Memory : goal.returns-in-Memory
returns-in-Memory c = rw c.in-Memory.is c.name_of_memory.ensures

pub returns-in-Io : goal.returns-in-Io
returns-in-Io c = rw c.in-Io.is c.name_of_io.ensures

pub returns-in-Config : goal.returns-in-Config
returns-in-Config c = rw c.in-Config.is c.name_of_config.ensures

pub returns-in-Completion : goal.returns-in-Completion
returns-in-Completion c = rw c.in-Completion.is c.name_of_completion.ensures

pub returns-in-Msg : goal.returns-in-Msg
unfolding name_in be_bytes ascii
returns-in-Msg c = rw (c.in-Message.is, c.in-Msg.is) (record { is = refl; few = omega arith })

pub returns-in-MsgD : goal.returns-in-MsgD
unfolding name_in be_bytes ascii
returns-in-MsgD c = rw (c.in-Message.is, c.in-MsgD.is) (record { is = refl; few = omega arith })
