-- `trace_label::name_of_io` meets its contract: one word for each kind, by computation. Assumes nothing.
use native.Mathlib.Omega.{arith}
use mathlib.Core.Path.{refl}
use Rattle.endian.specs.Endian.{be_bytes}
use Rattle.text.specs.Text.{ascii}
use Rattle.trace_label.specs.Word.{name_in}
use Rattle.trace_label.proofs.name_of_io.Goals as goal

pub returns-in-IORd : goal.returns-in-IORd
unfolding name_in be_bytes ascii
returns-in-IORd c = rw c.in-IORd.is (record { is = refl; few = omega arith })

pub returns-in-IOWr : goal.returns-in-IOWr
unfolding name_in be_bytes ascii
returns-in-IOWr c = rw c.in-IOWr.is (record { is = refl; few = omega arith })
