-- `endian::write_le64` meets its contract: the bytes that are copied are those of `le_bytes`. Assumes nothing.
use Rattle.std.proofs.Common.{sym, ap, ◌∙◌, mod-eq_of_lt}
use Rattle.std.specs.Int.{bytes_low_first}
use Rattle.endian.proofs.StoreLaws.{le_stored}
use Rattle.endian.proofs.write_le64.Goals as goal

pub returns : goal.returns
returns c =
    le_stored 8 c.args.out.now c.args.at c.args.v c.requires
    (c.copy_from_slice.ensures.after ∙ c.to_le_bytes.ensures ∙ ap (λ x. bytes_low_first 0 8 x) (sym (mod-eq_of_lt c.ranges.v.fits)))
