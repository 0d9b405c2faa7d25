-- `text::store_digits` meets its contract. The invariant: with the digits of what is left put at the start, all digits stand there. Assumes
-- nothing.
use Rattle.std.proofs.Common.{◌≡◌, ℕ, ◌+◌, ◌-◌, ◌/◌, ◌≤◌, List, length, set, ap, ap₂, ◌∙◌, arith}
use Rattle.std.proofs.lemmas.List.Edits.{sets}
use Rattle.text.specs.Text.{decimal}
use Rattle.text.specs.TextLaws.{one_digit, one_of_digits, more_of_digits, last_place, last_stored, first_stored}
use Rattle.text.proofs.store_digits.Goals as goal

pub loop-i-preserved : goal.loop-i-preserved
loop-i-preserved c =
    let more : 10 ≤ c.loop-i.left = more_of_digits c.loop-i.left (omega arith) in
    let place : c.args.start + (c.loop-i.i - 1) ≡ c.args.start + length (decimal (c.loop-i.left / 10)) =
    omega (arith, last_place c.loop-i.out c.args.start c.loop-i.left more) in
    record {
      place = omega arith;
      stored =
          ap (λ (o : List ℕ). sets o c.args.start (decimal (c.loop-i.left / 10))) (ap₂ (set c.loop-i.out) place c.digit.ensures)
          ∙ last_stored c.loop-i.out c.args.start c.loop-i.left more
          ∙ c.loop-i.invariant.stored;
    }

pub digit-requires-2 : goal.digit-requires-2
digit-requires-2 c = omega (arith, one_of_digits c.loop-i.left (omega arith))

pub bounds-out-start-2 : goal.bounds-out-start-2
bounds-out-start-2 c = omega (arith, one_digit c.loop-i.left (one_of_digits c.loop-i.left (omega arith)))

pub returns : goal.returns
returns c =
    ap (set c.loop-i.out c.args.start) c.digit-2.ensures
    ∙ first_stored c.loop-i.out c.args.start c.loop-i.left (one_of_digits c.loop-i.left (omega arith))
    ∙ c.loop-i.invariant.stored
