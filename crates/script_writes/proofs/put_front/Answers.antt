-- `script_writes::put_front` meets its contract. Two stores that meet. Assumes nothing.
use mathlib.Core.Path.{refl, ap, ◌∙◌}
use mathlib.Core.List.{[], ◌∷◌}
use Prim.Native.Nat.{ℕ}
use lib.Seq.{sets}
use Rattle.endian.specs.Endian.{be_bytes}
use Rattle.endian.specs.SetsLaws.{sets_append}
use Rattle.script_writes.proofs.put_front.Goals as goal

pub returns : goal.returns
unfolding be_bytes
returns c = sets_append c.args.room.now c.args.at 2 (0 ∷ 16 ∷ []) (c.kind_byte-kind.result ∷ 0 ∷ 0 ∷ 1 ∷ []) refl c.write_be16.ensures
    c.put_four.ensures
    ∙ ap (λ (k : ℕ). sets c.args.room.now c.args.at (0 ∷ 16 ∷ k ∷ 0 ∷ 0 ∷ 1 ∷ [])) c.kind_byte-kind.ensures
