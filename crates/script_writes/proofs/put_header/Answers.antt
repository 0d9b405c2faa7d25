-- `script_writes::put_header` meets its contract. Three stores that meet. Assumes nothing.
use mathlib.Core.Path.{refl}
use mathlib.Core.List.{List, [], ◌∷◌, ◌++◌}
use Prim.Native.Nat.{ℕ, ◌/◌, ◌%◌}
use lib.Dec.{eqb}
use Rattle.endian.specs.SetsLaws.{sets_append}
use Rattle.script_writes.specs.ScriptLaws.{kind_byte}
use Rattle.script_writes.proofs.put_header.Goals as goal

pub returns : goal.returns
returns c = let front : List ℕ = 0 ∷ 16 ∷ kind_byte (eqb (c.args.id / 256) c.args.boot.root) ∷ 0 ∷ 0 ∷ 1 ∷ [] in
    let request : List ℕ = (c.args.boot.requester / 256) ∷ (c.args.boot.requester % 256) ∷ c.args.from.tag ∷ c.args.enables ∷ [] in
    let target : List ℕ = (c.args.id / 256) ∷ (c.args.id % 256) ∷ 0 ∷ c.args.offset ∷ [] in
    sets_append c.args.room.now c.args.from.at 10 (front ++ request) target refl
    (sets_append c.args.room.now c.args.from.at 6 front request refl c.put_front.ensures c.put_request.ensures)
    c.put_target.ensures
