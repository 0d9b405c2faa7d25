-- `sheet_bytes::put_numbers` meets its contract. Two stores that meet are one. Assumes nothing.
use mathlib.Core.Path.{refl}
use mathlib.Core.List.{[], ◌∷◌}
use Rattle.endian.specs.SetsLaws.{sets_append}
use Rattle.sheet_bytes.proofs.put_numbers.Goals as goal

pub returns : goal.returns
returns c = sets_append c.args.out.now c.args.at 4 (c.args.r.primary ∷ c.args.r.secondary ∷ c.args.r.subordinate ∷ 0 ∷ []) (c.args.r.io.base ∷ c.args.r.io.limit ∷ 0 ∷ 0 ∷ [])
    refl c.put_four.ensures c.put_four-2.ensures
