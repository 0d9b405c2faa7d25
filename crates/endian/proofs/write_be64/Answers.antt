-- `endian::write_be64` meets its contract: the bytes that are copied are those of `be_bytes`. Assumes nothing.
use Rattle.std.proofs.Common.{sym, ap, ◌∙◌, mod-eq_of_lt}
use Rattle.std.specs.Int.{bytes_high_first}
use Rattle.endian.proofs.StoreLaws.{be_stored}
use Rattle.endian.proofs.write_be64.Goals as goal

pub returns : goal.returns
returns c =
    be_stored 8 c.args.out.now c.args.at c.args.v c.requires
    (c.copy_from_slice.ensures.after ∙ c.to_be_bytes.ensures ∙ ap (λ x. bytes_high_first 8 x) (sym (mod-eq_of_lt c.ranges.v.fits)))
