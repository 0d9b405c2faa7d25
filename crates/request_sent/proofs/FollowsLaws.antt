-- Document 03, E15, of a trace, is proved: lines, pieces and the program. Assumes nothing.
use Rattle.std.specs.Prelude.{◌≡◌, Bool, true, false, ℕ, eqb}
use Rattle.std.proofs.Math.Path.{refl, ap₂}
use Rattle.std.proofs.Common.{sym, ap, ◌∙◌, arith, ne_eqb}
use Rattle.std.proofs.Math.Bool.{cond}
use mathlib.Core.List.{List, [], ◌∷◌, ◌++◌, flatten, append-nil}
use Rattle.text.specs.Text.{ascii, decimal}
use Rattle.records.specs.Records.{parts_of}
use Rattle.packet.specs.declared.Packet.{Packet}
use Rattle.tlp.specs.declared.Reading.TheVariants.{Accepted, Refused as NotRead}
use Rattle.tlp.specs.Reading.{read_of}
use Rattle.sheet.specs.Sheet.{sheet_number}
use Rattle.route_sent.specs.declared.BothEnds.TheVariants.{Refused as NotSent}
use Rattle.route_sent.specs.BothEnds.{from_sheet, both_ends_of}
use Rattle.trace.specs.Annotated.{number_after, version_line, cut_line, record_lines, annotated}
use Rattle.trace.specs.Trace.{fresh}
use Rattle.trace.proofs.TraceLaws.{state_all_lem, pieces_told}
use Rattle.trace_ends.specs.Ends.{label_ends, line_ends}
use Rattle.trace_ends.specs.EndsLaws.{line_ends_front}
use Rattle.stream_follow.specs.ProgramLaws.{follow_no_id, follow_no_length, follow_long, follow_short, follow_pieces}
use Rattle.requests.specs.Trace.{sentence, told}
use Rattle.request_sent.specs.Follows.{NamesEnds, lines_after, Follows, FollowPrints, TraceFollowed}

-- ## One line

-- a sheet that fails its checks
ends_of_sheet : (host_id : ℕ) (sheet header : List ℕ) (p : Packet) → read_of header ≡ Accepted p → ¬ (sheet_number sheet ≡ 0)
    → both_ends_of host_id header sheet ≡ NotSent (sheet_number sheet)
unfolding both_ends_of from_sheet
ends_of_sheet host_id sheet header p read fails = rw (read, ne_eqb (sheet_number sheet) 0 fails)

labels : (host_id : ℕ) (sheet : List ℕ) (n : ℕ) (header : List ℕ) (p : Packet) → read_of header ≡ Accepted p → NamesEnds host_id sheet n header p
unfolding line_ends label_ends ascii
labels host_id sheet n header p read =
    record {
      host_to_function = λ d e. rw (read, e);
      host_to_all = λ functions q e. rw (read, e);
      host_to_port = λ q e. rw (read, e);
      host_refused = λ number e. rw (read, e);
      function_to_function = λ k d e. rw (read, e);
      function_to_host = λ k bridges q e. rw (read, e);
      function_to_port = λ k q e. rw (read, e);
      function_refused = λ k number e. rw (read, e);
      sheet_refused = λ fails. rw (read, ends_of_sheet host_id sheet header p read fails);
    }

header_line : (host_id : ℕ) (sheet : List ℕ) (n : ℕ) (header : List ℕ) (number : ℕ) → read_of header ≡ NotRead number
    → line_ends host_id sheet n header ≡ sentence n (ascii "-") (ascii " refused " ++ decimal number)
unfolding line_ends label_ends both_ends_of
header_line host_id sheet n header number read = rw read

-- ## A trace

module _ (host_id : ℕ) (sheet : List ℕ) where
  -- labelled by their fronts, records have the lines of whole records
  lines_agree : (n : ℕ) (headers : List (List ℕ)) → record_lines (line_ends host_id sheet) n headers ≡ lines_after host_id sheet n headers
  unfolding record_lines lines_after
  lines_agree n [] = refl
  lines_agree n (header ∷ headers) =
      ap₂ ◌++◌ (line_ends_front host_id sheet (number_after n) header) (lines_agree (number_after n) headers)

  framed : (s : List ℕ) (w : Bool) → (parts_of s).whole ≡ w
      → annotated (line_ends host_id sheet) (1 ∷ s) ≡ lines_after host_id sheet 0 (parts_of s).parts ++ cond w [] cut_line
  unfolding annotated
  framed s w e = ap₂ (λ (x : List ℕ) (b : Bool). x ++ cond b [] cut_line) (lines_agree 0 (parts_of s).parts) e

  foreign : (v : ℕ) (s : List ℕ) → ¬ (v ≡ 1) → annotated (line_ends host_id sheet) (v ∷ s) ≡ version_line
  unfolding annotated
  foreign v s h = rw (ne_eqb v 1 h)

  empty : annotated (line_ends host_id sheet) [] ≡ ascii "refused 20\n"
  unfolding annotated
  empty = refl

  pieces_followed : (pieces : List (List ℕ)) → Follows host_id sheet pieces
  pieces_followed pieces =
      let all : (s : List ℕ) → flatten pieces ≡ s → told (line_ends host_id sheet) pieces ≡ annotated (line_ends host_id sheet) s =
      λ s e. pieces_told (line_ends host_id sheet) pieces ∙ ap (annotated (line_ends host_id sheet)) e in
      record {
        whole_trace = λ s e w. all (1 ∷ s) e ∙ framed s true w ∙ append-nil (lines_after host_id sheet 0 (parts_of s).parts);
        cut_trace = λ s e w. all (1 ∷ s) e ∙ framed s false w;
        no_trace = λ e. all [] e ∙ empty;
        other_version = λ v s e h. all (v ∷ s) e ∙ foreign v s h;
        end_state = state_all_lem fresh pieces;
      }

-- ## The program

prints : (x y a b : ℕ) → FollowPrints x y a b
prints x y a b =
    record {
      pieces_printed = λ sheet pieces l h. sym (follow_pieces x y a b sheet pieces l (omega (arith, l, h)));
      long_sheet = follow_long x y a b;
      short_sheet = follow_short x y a b;
    }

pub follows : TraceFollowed
follows =
    record {
      labels = labels;
      header_line = header_line;
      by_its_front = line_ends_front;
      follows = pieces_followed;
      prints = prints;
      no_id = follow_no_id;
      no_length = follow_no_length;
    }
