-- `capi_where::put_party` meets its contract: two stores. Assumes nothing.
use native.Mathlib.Numerals.{add-one}
use native.Mathlib.Omega.{arith}
use lib.ListN.{length-set}
use Rattle.capi_where.proofs.put_party.Goals as goal

pub bounds-who-at-2 : goal.bounds-who-at-2
bounds-who-at-2 c = simp length-set (omega arith)

pub returns : goal.returns
returns c = rw (add-one c.args.at)
