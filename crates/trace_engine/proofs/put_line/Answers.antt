use mathlib.Core.Path.{subst}
use Rattle.trace_engine.specs.Engine.{Ready}
use Rattle.trace_engine.specs.declared.Engine.{Engine}
use Rattle.trace_engine.proofs.put_line.Goals as goal

pub put_line-requires : goal.put_line-requires
put_line-requires c = subst (λ (e : Engine). Ready e c.args.bytes.now) c.in-Owner.is c.requires

pub put_line-requires-in-Ends : goal.put_line-requires-in-Ends
put_line-requires-in-Ends c = subst (λ (e : Engine). Ready e c.args.bytes.now) c.in-Ends.is c.requires

pub returns-in-Owner : goal.returns-in-Owner
returns-in-Owner c = rw c.in-Owner.is c.put_line.ensures

pub returns-in-Ends : goal.returns-in-Ends
returns-in-Ends c = rw c.in-Ends.is c.put_line-in-Ends.ensures
