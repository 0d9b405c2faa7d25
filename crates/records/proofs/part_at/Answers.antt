-- `records::part_at` meets its contract: the part ends n bytes after it starts. Assumes nothing.
use Prim.Native.Nat.{◌+◌, ◌-◌}
use mathlib.Core.Path.{◌≡◌}
use native.Mathlib.Omega.{arith}
use Rattle.records.proofs.part_at.Goals as goal

pub returns : goal.returns
returns c = let e : c.args.at + 2 + c.args.n - (c.args.at + 2) ≡ c.args.n = omega arith in
    rw e
