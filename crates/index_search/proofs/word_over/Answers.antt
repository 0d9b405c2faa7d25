-- `index_search::word_over` meets its contract: what the slot found says, by the low half of its word. Assumes nothing.
use native.Mathlib.Omega.{arith}
use Rattle.index_layout.specs.KeysLaws.{segment_lt}
use Rattle.index_search.specs.AnswerLaws.{word_not_over, word_over}
use Rattle.index_search.proofs.word_over.Goals as goal

pub find-i-requires : goal.find-i-requires
find-i-requires c = let small = segment_lt c.args.key in
    (c.requires.0, omega (arith, small, c.requires.1), c.requires.2)

pub returns-then-not-is_over : goal.returns-then-not-is_over
returns-then-not-is_over c = word_not_over _ _ _ _ _ _ c.requires.1 c.find-i.ensures.0 c.key_at-start.ensures _ c.word_at-word.ensures
    _ c.is_over.ensures (c.if-not-is_over.true)

pub returns : goal.returns
returns c = word_over _ _ _ _ _ _ c.requires.1 c.find-i.ensures.0 c.key_at-start.ensures c.word_at-word.result
    c.word_at-word.ensures _ c.is_over.ensures (c.if-not-is_over.false)
