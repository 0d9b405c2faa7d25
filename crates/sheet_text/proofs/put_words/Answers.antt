-- `sheet_text::put_words` meets its contract. Invariant: the words of the numbers that were passed are put. Assumes nothing.
use lib.Seq.{take_all}
use Rattle.text.specs.TextLaws.{put_append}
use Rattle.sheet_text.specs.Listing.{words}
use Rattle.sheet_text.proofs.ListingLaws.{words_index}
use Rattle.sheet_text.proofs.put_words.Goals as goal

pub loop-number-init : goal.loop-number-init
unfolding words
loop-number-init c = c.place-next.ensures

pub loop-number-preserved : goal.loop-number-preserved
loop-number-preserved c = rw (words_index _ _ c.loop-number.number-index c.loop-number-test.true)
    (put_append c.loop-number.invariant c.put_word-next.ensures)

pub returns : goal.returns
returns c = rw (take_all _ _ c.loop-number-test.false) at c.loop-number.invariant
