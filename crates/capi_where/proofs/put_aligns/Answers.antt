-- `capi_where::put_aligns` meets its contract: three stores. Assumes nothing.
use native.Mathlib.Numerals.{add-one, add-two}
use native.Mathlib.Omega.{arith}
use lib.ListN.{length-set}
use Rattle.capi_where.proofs.put_aligns.Goals as goal

pub bounds-who-at-2 : goal.bounds-who-at-2
bounds-who-at-2 c = simp length-set (omega arith)

pub bounds-who-at-3 : goal.bounds-who-at-3
bounds-who-at-3 c = simp length-set (omega arith)

pub returns : goal.returns
returns c = rw (add-one c.args.at, add-two c.args.at)
