-- `capi_where::put_needs` meets its contract: four stores. Assumes nothing.
use native.Mathlib.Numerals.{add-one, add-two, add-three}
use native.Mathlib.Omega.{arith}
use lib.ListN.{length-set}
use Rattle.capi_where.proofs.put_needs.Goals as goal

pub bounds-who-at-2 : goal.bounds-who-at-2
bounds-who-at-2 c = simp length-set (omega arith)

pub bounds-who-at-3 : goal.bounds-who-at-3
bounds-who-at-3 c = simp length-set (omega arith)

pub bounds-who-at-4 : goal.bounds-who-at-4
bounds-who-at-4 c = simp length-set (omega arith)

pub returns : goal.returns
returns c = rw (add-one c.args.at, add-two c.args.at, add-three c.args.at)
