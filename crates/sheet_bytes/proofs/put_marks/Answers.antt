-- `sheet_bytes::put_marks` meets its contract. Two stores that meet are one. Assumes nothing.
use Rattle.endian.specs.Endian.{be_bytes}
use Rattle.endian.specs.EndianLaws.{length_be_bytes}
use Rattle.endian.specs.SetsLaws.{sets_append}
use Rattle.sheet_record.specs.Places.{record_size}
use Rattle.sheet_bytes.proofs.put_marks.Goals as goal

pub returns : goal.returns
returns c = sets_append c.args.out.now c.args.at 2 (be_bytes 2 record_size) (be_bytes 2 c.args.id) (length_be_bytes 2 record_size)
    c.write_be16.ensures c.write_be16-2.ensures
