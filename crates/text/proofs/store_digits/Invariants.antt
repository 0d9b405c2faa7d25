-- `text::store_digits` meets its contract. The invariant: with the digits of what is left put at the start, all digits stand there. Assumes
-- nothing.
use Rattle.std.proofs.Common.{◌≡◌, length}
use Rattle.std.proofs.lemmas.List.Edits.{sets}
use Rattle.text.specs.Text.{decimal}
use Rattle.text.proofs.store_digits.Given as goal

abbrev pub invariant-loop-i : goal.invariant-loop-i
invariant-loop-i l = record {
  place : l.i ≡ length (decimal l.left);
  stored : sets l.out l.start (decimal l.left) ≡ sets l.initial.out l.start (decimal l.number);
}
