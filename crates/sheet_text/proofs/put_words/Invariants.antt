-- `sheet_text::put_words` meets its contract. Invariant: the words of the numbers that were passed are put. Assumes nothing.
use lib.ListN.{take}
use Rattle.text.specs.Text.{Put}
use Rattle.sheet_text.specs.Listing.{words}
use Rattle.sheet_text.proofs.put_words.Given as goal

abbrev pub invariant-loop-number : goal.invariant-loop-number
invariant-loop-number l = Put l.initial.out l.at (words l.width (take l.number-index l.numbers)) l.out l.next
