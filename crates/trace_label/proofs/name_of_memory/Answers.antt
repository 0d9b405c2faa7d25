-- `trace_label::name_of_memory` meets its contract: one word for each kind, by computation. Assumes nothing.
use native.Mathlib.Omega.{arith}
use mathlib.Core.Path.{refl}
use Rattle.endian.specs.Endian.{be_bytes}
use Rattle.text.specs.Text.{ascii}
use Rattle.trace_label.specs.Word.{name_in}
use Rattle.trace_label.proofs.name_of_memory.Goals as goal

pub returns-in-MRd : goal.returns-in-MRd
unfolding name_in be_bytes ascii
returns-in-MRd c = rw c.in-MRd.is (record { is = refl; few = omega arith })

pub returns-in-MRdLk : goal.returns-in-MRdLk
unfolding name_in be_bytes ascii
returns-in-MRdLk c = rw c.in-MRdLk.is (record { is = refl; few = omega arith })

pub returns-in-MWr : goal.returns-in-MWr
unfolding name_in be_bytes ascii
returns-in-MWr c = rw c.in-MWr.is (record { is = refl; few = omega arith })
