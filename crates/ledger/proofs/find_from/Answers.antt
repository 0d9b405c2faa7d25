-- `ledger::find_from` meets its contract. Invariant: the places passed, and the place of the key in the rest, make that of the start.
-- Assumes nothing.
use Prim.Native.Nat.{◌+◌}
use mathlib.Core.Path.{◌≡◌, sym, ◌∙◌}
use lib.ListN.{drop}
use native.Mathlib.Omega.{arith}
use Rattle.ledger.specs.Words.{place_of}
use Rattle.ledger.proofs.WordsLaws.{find_hit, find_miss, find_end}
use Rattle.ledger.proofs.find_from.Goals as goal

pub returns-then-key_in-key : goal.returns-then-key_in-key
returns-then-key_in-key c = find_hit _ _ _ c.args.words.now (omega arith) c.loop-i.invariant
    (sym c.key_in.ensures ∙ c.if-key_in-key.true)

pub loop-i-preserved : goal.loop-i-preserved
loop-i-preserved c = find_miss _ _ _ c.args.words.now (omega arith) c.loop-i.invariant
    (λ same. c.if-key_in-key.false (c.key_in.ensures ∙ same))

pub returns : goal.returns
returns c =
    let e : c.loop-i.i ≡ c.args.start + place_of c.args.key (drop c.args.start c.args.words.now) =
    find_end _ _ _ c.args.words.now c.loop-i-test.false c.loop-i.invariant in
    omega arith
