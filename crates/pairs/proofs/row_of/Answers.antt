-- `pairs::row_of` meets its contract: a search and its answer. Assumes nothing.
use mathlib.Core.Path.{ap, ◌∙◌}
use Prim.Native.Nat.{ℕ}
use Rattle.pairs.specs.Pairs.{key_of, find_key, answer_of, row_of}
use Rattle.pairs.proofs.KindLaws.{find_key_lem}
use Rattle.pairs.proofs.row_of.Goals as goal

pub returns : goal.returns
unfolding row_of
returns c = let wanted = c.key.ensures ∙ ap (λ (n : ℕ). key_of n c.args.form)
    c.kind_number.ensures in
    c.answer.ensures ∙ ap answer_of (c.find_key.ensures ∙ ap find_key wanted ∙ find_key_lem c.args.kind c.args.form)
