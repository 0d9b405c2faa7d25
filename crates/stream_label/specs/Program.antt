-- Document 02, E8: "an index in a lent slice, built once from a host record and a sheet that E6 accepts, then searched per header. For
-- such a sheet and every header its whole answer equals the router's": E4's lines over the sheet. "A sheet that E6 refuses gets E6's
-- number", and nothing is labelled. Numbers come in E6's order: 20 and 26 of the host record, then the sheet's, which is read as E4 reads
-- it. Assumes nothing.
use Rattle.std.specs.Prelude.{ℕ, cond, List, Option, Some, None, length, take, drop, eqb, ltb}
use Rattle.text.specs.Text.{refusal_text}
use Rattle.endian.specs.Endian.{be}
use Rattle.board_record.specs.Host.{host_length, host_of_part, host_wrong}
use Rattle.audit_rule.specs.Audit.{audit_number}
use Rattle.trace.specs.Annotated.{annotated}
use Rattle.trace_line.specs.Line.{line_over}
use Rattle.stream_trace.specs.Program.{opening_of}

-- "A sheet that E6 refuses gets E6's number and no index."
unfoldable pub on_number : ℕ → List ℕ → List ℕ → List ℕ
on_number number sheet trace = cond (eqb number 0) (annotated (line_over sheet) trace) (refusal_text number)

module _ (host : List ℕ) where
  -- a sheet of so many bytes, then the trace: "a sheet cut short only `refused 20`"
  unfoldable pub over_sheet : ℕ → List ℕ → List ℕ
  over_sheet size s =
      cond (ltb (length s) size) (refusal_text 20) (on_number (audit_number host (take size s)) (take size s) (drop size s))

  -- "a length above a full sheet's prints at once only `refused 22`"
  abbrev pub from_opening : Option ℕ → List ℕ → List ℕ
  from_opening (Some size) s = over_sheet size s
  from_opening None s = refusal_text 22

  -- an input that ends inside the length is a sheet cut short
  unfoldable pub from_length : List ℕ → List ℕ
  from_length s = cond (ltb (length s) 2) (refusal_text 20) (from_opening (opening_of (be 2 s 0)) (drop 2 s))

  -- "then 26 as on a board, both tried first"
  unfoldable pub from_host : List ℕ → List ℕ
  from_host s = cond (host_wrong (host_of_part host)) (refusal_text 26) (from_length s)

-- "a host record (not 30 bytes is 20"
unfoldable pub program_of : List ℕ → List ℕ
program_of s = cond (ltb (length s) host_length) (refusal_text 20) (from_host (take host_length s) (drop host_length s))
