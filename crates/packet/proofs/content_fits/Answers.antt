-- `packet::content_fits` meets its contract: what the types hold fits. Assumes nothing.
use Prim.Native.Nat.{◌<◌, ◌≤◌, ◌^◌}
use native.Mathlib.Omega.{arith}
use borrow.Author.Tests.{lt-ltb, le-leb}
use Rattle.packet.proofs.content_fits.Goals as goal

pub returns : goal.returns
returns c = let byte : c.args.code < 256 = omega arith in
    let wide : c.args.tail < 2 ^ 64 = omega arith in
    let at-most-byte : c.args.code ≤ 255 = omega arith in
    let at-most-wide : c.args.tail ≤ 18446744073709551615 = omega arith in
    rw (lt-ltb _ _ byte, lt-ltb _ _ wide, le-leb _ _ at-most-byte, le-leb _ _ at-most-wide)
