-- `index_slots::clear` meets its contract: three runs. Assumes nothing.
use mathlib.Core.Path.{◌≡◌}
use Prim.Native.Nat.{◌-◌, ◌/◌}
use native.Mathlib.Omega.{arith}
use Rattle.index_layout.specs.Places.{index_size, front_numbers, back_numbers}
use Rattle.index_slots.specs.Cleared.{cleared}
use Rattle.index_slots.proofs.clear.Goals as goal

pub returns : goal.returns
unfolding cleared
returns c = let front : c.key_place-keys.result / 8 ≡ front_numbers c.args.n = omega (arith, c.key_place-keys.ensures) in
    let back : (index_size c.args.n - c.word_place-words.result) / 8 ≡ back_numbers c.args.n = omega (arith, c.word_place-words.ensures) in
    rw (
      ← front,
      ← back,
      ← c.key_place-keys.ensures,
      ← c.word_place-words.ensures,
      ← c.write_copies.ensures,
      ← c.write_copies-2.ensures,
    )
    c.write_copies-3.ensures
