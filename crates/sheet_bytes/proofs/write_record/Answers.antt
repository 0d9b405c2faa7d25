-- `sheet_bytes::write_record` meets its contract. Four stores that meet are the record, by `record_bytes_parts`. Assumes nothing.
use mathlib.Core.Path.{ap, ◌∙◌}
use mathlib.Core.List.{◌++◌}
use lib.Seq.{sets}
use Rattle.endian.specs.SetsLaws.{sets_append}
use Rattle.sheet_bytes.specs.Layout.{planned_of}
use Rattle.sheet_bytes.proofs.LayoutLaws.{marks, common, body, readbacks, length_marks, length_marks_common, length_marks_body}
use Rattle.sheet_bytes.proofs.LayoutLaws.{record_bytes_parts}
use Rattle.sheet_bytes.proofs.write_record.Goals as goal

pub returns : goal.returns
unfolding planned_of
returns c = let p = planned_of c.args.r in
    sets_append c.args.out.now c.args.at 68 (marks p ++ common p ++ body p) (readbacks p) (length_marks_body p)
    (sets_append c.args.out.now c.args.at 20 (marks p ++ common p) (body p) (length_marks_common p)
    (sets_append c.args.out.now c.args.at 4 (marks p) (common p) (length_marks p) c.put_marks.ensures c.put_common.ensures)
    c.put_body.ensures) c.put_readbacks.ensures ∙ ap (sets c.args.out.now c.args.at) (record_bytes_parts p)
