-- `text::put_hexadecimal` meets its contract: the digits in front, then the last. The measure is the width. Assumes nothing.
use native.Mathlib.Omega.{arith}
use Rattle.text.specs.Text.{hexadecimal}
use Rattle.text.specs.TextLaws.{put_append, hexadecimal_more}
use Rattle.text.proofs.+put_hexadecimal.Goals as goal

pub put_hexadecimal-next-requires : goal.put_hexadecimal-next-requires
put_hexadecimal-next-requires t c = (omega arith, tt)

pub returns-then-width-eq0 : goal.returns-then-width-eq0
unfolding hexadecimal
returns-then-width-eq0 t c = rw c.if-width-eq0.true c.place.ensures

pub returns : goal.returns
returns t c = rw (hexadecimal_more _ _ c.if-width-eq0.false, ← c.digit.ensures)
    (put_append c.put_hexadecimal-next.ensures c.put_byte.ensures)
