-- `text::put_decimal` meets its contract: digits that fit are stored from the place where they go. Assumes nothing.
use native.Mathlib.Omega.{arith}
use Rattle.text.specs.TextLaws.{put_append}
use Rattle.text.proofs.put_decimal.Goals as goal

pub returns : goal.returns
returns c = put_append c.place-start.ensures
    (record {
      stored = c.store_digits.ensures;
      place = omega (arith, c.place-start.ensures.place, c.digit_count-count.ensures, c.if-out-start.false);
    })
