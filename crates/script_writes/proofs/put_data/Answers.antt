-- `script_writes::put_data` meets its contract. Assumes nothing.
use mathlib.Core.Path.{◌≡◌, ap, ◌∙◌}
use mathlib.Core.List.{List, [], ◌∷◌}
use Prim.Native.Nat.{ℕ}
use lib.Seq.{sets}
use Rattle.script_writes.specs.Writes.{data_of}
use Rattle.script_writes.proofs.put_data.Goals as goal

pub returns : goal.returns
returns c = let bytes : List ℕ = c.data_byte-first.result ∷ c.data_byte-second.result ∷ c.data_byte-third.result ∷ c.data_byte-fourth.result ∷ [] in
    let same : bytes ≡ data_of c.args.part.now c.args.offset c.args.enables = rw (c.data_byte-first.ensures, c.data_byte-second.ensures, c.data_byte-third.ensures, c.data_byte-fourth.ensures) in
    c.put_four.ensures ∙ ap (sets c.args.room.now c.args.at) same
