-- `sheet_where::type_wrong` meets its contract: the header type is the byte that was read. Assumes nothing.
use borrow.Author.Rules.{rules}
use Rattle.sheet_record.specs.Entry.{entry_of}
use Rattle.sheet.specs.Sheet.{breaks}
use Rattle.sheet_where.proofs.type_wrong.Goals as goal

pub returns : goal.returns
unfolding breaks entry_of
returns c = search rules
