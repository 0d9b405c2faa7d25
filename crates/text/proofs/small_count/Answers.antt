-- `text::small_count` meets its contract: each answer between two powers of ten. Assumes nothing.
use Rattle.std.proofs.Common.{arith}
use Rattle.text.specs.TextLaws.{tens, one_digit, digits_between}
use Rattle.text.proofs.small_count.Goals as goal

pub returns-in-0-to-9 : goal.returns-in-0-to-9
returns-in-0-to-9 c = (one_digit c.args.number (omega arith), omega arith)

pub returns-in-0-to-99 : goal.returns-in-0-to-99
unfolding tens
returns-in-0-to-99 c = (digits_between 1 c.args.number (omega arith) (omega arith), omega arith)

pub returns-in-0-to-999 : goal.returns-in-0-to-999
unfolding tens
returns-in-0-to-999 c = (digits_between 2 c.args.number (omega arith) (omega arith), omega arith)

pub returns-in-0-to-9999 : goal.returns-in-0-to-9999
unfolding tens
returns-in-0-to-9999 c = (digits_between 3 c.args.number (omega arith) (omega arith), omega arith)

pub returns-in-0-to-99999 : goal.returns-in-0-to-99999
unfolding tens
returns-in-0-to-99999 c = (digits_between 4 c.args.number (omega arith) (omega arith), omega arith)

pub returns-in-0-to-999999 : goal.returns-in-0-to-999999
unfolding tens
returns-in-0-to-999999 c = (digits_between 5 c.args.number (omega arith) (omega arith), omega arith)

pub returns-in-0-to-9999999 : goal.returns-in-0-to-9999999
unfolding tens
returns-in-0-to-9999999 c = (digits_between 6 c.args.number (omega arith) (omega arith), omega arith)

pub returns-in_default : goal.returns-in_default
unfolding tens
returns-in_default c = (digits_between 7 c.args.number (omega arith) (omega arith), omega arith)
