-- `script_writes::put_known` meets its contract. Assumes nothing.
use mathlib.Core.Path.{refl}
use mathlib.Core.List.{List, [], ◌∷◌, ◌++◌}
use Prim.Native.Nat.{ℕ, ◌<◌}
use native.Mathlib.Omega.{arith}
use Rattle.endian.specs.SetsLaws.{sets_append}
use Rattle.script_writes.specs.ScriptLaws.{header_for}
use Rattle.script_writes.specs.Wrote.{known_write}
use Rattle.script_writes.proofs.Wrote.{wrote_one}
use Rattle.script_writes.proofs.put_known.Goals as goal

pub returns : goal.returns
returns c = let requester : c.args.boot.requester < 65536 = omega arith in
    let tag : c.args.from.tag < 256 = omega arith in
    let id : c.args.id < 65536 = omega arith in
    let header : List ℕ = header_for c.args.boot c.args.from.tag c.args.id c.args.enables c.args.offset in
    let bytes : List ℕ = c.args.dword.first ∷ c.args.dword.second ∷ c.args.dword.third ∷ c.args.dword.fourth ∷ [] in
    λ k.
    wrote_one {bytes = header ++ bytes} (known_write k c.args.id c.args.offset c.args.enables c.args.dword)
    (record { requester = requester; tag = tag; id = id; offset = c.requires.0; bytes_are = refl })
    (sets_append c.args.room.now c.args.from.at 14 header bytes refl c.put_header.ensures c.put_four.ensures)
