-- `script_writes::put_write` meets its contract. Assumes nothing.
use mathlib.Core.Path.{refl}
use mathlib.Core.List.{List, ◌++◌}
use Prim.Native.Nat.{ℕ, ◌<◌}
use native.Mathlib.Omega.{arith}
use Rattle.endian.specs.SetsLaws.{sets_append}
use Rattle.script_writes.specs.Writes.{data_of, write_of}
use Rattle.script_writes.specs.ScriptLaws.{header_for}
use Rattle.script_writes.proofs.Wrote.{wrote_one}
use Rattle.script_writes.proofs.put_write.Goals as goal

pub returns : goal.returns
returns c = let requester : c.args.boot.requester < 65536 = omega arith in
    let tag : c.args.from.tag < 256 = omega arith in
    let header : List ℕ = header_for c.args.boot c.args.from.tag c.id_of-id.result c.args.enables c.args.offset in
    let bytes : List ℕ = data_of c.args.part.now c.args.offset c.args.enables in
    λ k.
    wrote_one {bytes = header ++ bytes} (write_of k c.args.part.now c.args.offset c.args.enables)
    (record { requester = requester; tag = tag; id = omega (arith, c.id_of-id.ensures); offset = c.requires.1; bytes_are = rw c.id_of-id.ensures })
    (sets_append c.args.room.now c.args.from.at 14 header bytes refl c.put_header.ensures c.put_data.ensures)
