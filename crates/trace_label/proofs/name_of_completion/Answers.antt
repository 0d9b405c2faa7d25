-- `trace_label::name_of_completion` meets its contract: one word for each kind, by computation. Assumes nothing.
use native.Mathlib.Omega.{arith}
use mathlib.Core.Path.{refl}
use Rattle.endian.specs.Endian.{be_bytes}
use Rattle.text.specs.Text.{ascii}
use Rattle.trace_label.specs.Word.{name_in}
use Rattle.trace_label.proofs.name_of_completion.Goals as goal

pub returns-in-Cpl : goal.returns-in-Cpl
unfolding name_in be_bytes ascii
returns-in-Cpl c = rw c.in-Cpl.is (record { is = refl; few = omega arith })

pub returns-in-CplD : goal.returns-in-CplD
unfolding name_in be_bytes ascii
returns-in-CplD c = rw c.in-CplD.is (record { is = refl; few = omega arith })

pub returns-in-CplLk : goal.returns-in-CplLk
unfolding name_in be_bytes ascii
returns-in-CplLk c = rw c.in-CplLk.is (record { is = refl; few = omega arith })

pub returns-in-CplDLk : goal.returns-in-CplDLk
unfolding name_in be_bytes ascii
returns-in-CplDLk c = rw c.in-CplDLk.is (record { is = refl; few = omega arith })
