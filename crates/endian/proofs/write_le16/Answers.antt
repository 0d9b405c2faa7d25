-- `endian::write_le16` meets its contract: the bytes that are copied are those of `le_bytes`. Assumes nothing.
use Rattle.std.proofs.Common.{◌∙◌}
use Rattle.endian.proofs.StoreLaws.{le_stored}
use Rattle.endian.proofs.write_le16.Goals as goal

pub returns : goal.returns
returns c =
    le_stored 2 c.args.out.now c.args.at c.args.v c.requires
    (c.copy_from_slice.ensures.after ∙ c.to_le_bytes.ensures)
