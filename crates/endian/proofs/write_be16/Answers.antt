-- `endian::write_be16` meets its contract: the bytes that are copied are those of `be_bytes`. Assumes nothing.
use Rattle.std.proofs.Common.{◌∙◌}
use Rattle.endian.proofs.StoreLaws.{be_stored}
use Rattle.endian.proofs.write_be16.Goals as goal

pub returns : goal.returns
returns c =
    be_stored 2 c.args.out.now c.args.at c.args.v c.requires
    (c.copy_from_slice.ensures.after ∙ c.to_be_bytes.ensures)
