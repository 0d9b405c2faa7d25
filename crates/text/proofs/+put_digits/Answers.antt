-- `text::put_digits` meets its contract: the digits in front, then the last. The measure is the number. Assumes nothing.
use native.Mathlib.Omega.{arith}
use Rattle.text.specs.TextLaws.{put_append, decimal_one, decimal_more}
use Rattle.text.proofs.+put_digits.Goals as goal

pub returns-then-number-lt10 : goal.returns-then-number-lt10
returns-then-number-lt10 t c = rw (decimal_one _ c.if-number-lt10.true, ← c.digit.ensures) c.put_byte.ensures

pub put_digits-next-requires : goal.put_digits-next-requires
put_digits-next-requires t c = (omega arith, tt)

pub returns : goal.returns
returns t c = rw (decimal_more _ (c.if-number-lt10.false), ← c.digit-2.ensures)
    (put_append (c.put_digits-next.ensures) c.put_byte-2.ensures)
