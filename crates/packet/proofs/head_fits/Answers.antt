-- `packet::head_fits` meets its contract. Assumes nothing.
use Prim.Native.Nat.{◌<◌}
use borrow.Author.Tests.{lt-ltb}
use native.Mathlib.Omega.{arith}
use Rattle.packet.proofs.head_fits.Goals as goal

pub returns : goal.returns
returns c = let f : c.args.h.requester < 65536 = omega arith in rw (lt-ltb _ _ f)
