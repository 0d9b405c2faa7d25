use native.Mathlib.Numerals.{add-one}
use Rattle.plan_pass.proofs.bridge_registers.Goals as goal

-- src/lib.rt:250:9
pub number_at-secondary-requires : goal.number_at-secondary-requires
number_at-secondary-requires c = rw (add-one c.args.i) c.requires.1

-- src/lib.rt:232:1
pub returns : goal.returns
returns c = cc (add-one c.args.i)
