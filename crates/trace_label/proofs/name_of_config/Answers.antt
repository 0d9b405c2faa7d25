-- `trace_label::name_of_config` meets its contract: one word for each kind, by computation. Assumes nothing.
use native.Mathlib.Omega.{arith}
use mathlib.Core.Path.{refl}
use Rattle.endian.specs.Endian.{be_bytes}
use Rattle.text.specs.Text.{ascii}
use Rattle.trace_label.specs.Word.{name_in}
use Rattle.trace_label.proofs.name_of_config.Goals as goal

pub returns-in-CfgRd0 : goal.returns-in-CfgRd0
unfolding name_in be_bytes ascii
returns-in-CfgRd0 c = rw c.in-CfgRd0.is (record { is = refl; few = omega arith })

pub returns-in-CfgWr0 : goal.returns-in-CfgWr0
unfolding name_in be_bytes ascii
returns-in-CfgWr0 c = rw c.in-CfgWr0.is (record { is = refl; few = omega arith })

pub returns-in-CfgRd1 : goal.returns-in-CfgRd1
unfolding name_in be_bytes ascii
returns-in-CfgRd1 c = rw c.in-CfgRd1.is (record { is = refl; few = omega arith })

pub returns-in-CfgWr1 : goal.returns-in-CfgWr1
unfolding name_in be_bytes ascii
returns-in-CfgWr1 c = rw c.in-CfgWr1.is (record { is = refl; few = omega arith })
