-- `scripter::put_command` meets its contract. Assumes nothing.
use mathlib.Core.Path.{◌≡◌}
use Prim.Native.Nat.{◌+◌, ◌*◌, ◌%◌, ◌<◌}
use native.Mathlib.Omega.{arith}
use Rattle.scripter.proofs.put_command.Goals as goal

pub number_at-bus-requires : goal.number_at-bus-requires
number_at-bus-requires c = rw c.parent_of-parent.ensures c.requires.part_value.1

pub returns : goal.returns
returns c =
    let small : c.id_of-id.result < 65536 = omega arith in
    let same : c.id_of-id.result ≡ (c.number_at-bus.result * 256 + c.devfn_of.result) % 65536 = omega (arith, c.id_of-id.ensures, small) in
    λ k.
    rw (
      same,
      c.to_le_bytes.ensures,
      c.number_at-bus.ensures.0,
      c.devfn_of.ensures,
      c.command_of.ensures,
      c.parent_of-parent.ensures,
    ) at (c.put_known.ensures k)
