-- Document 01, "Header layout": the fields of a header, each at its place in the bytes, and the bits that the layout does not name.
-- Assumes nothing.
use Rattle.std.specs.Prelude.{ℕ, ◌+◌, ◌*◌, ◌/◌, ◌%◌, ◌^◌, Bool, cond, not, ◌&&◌, ◌||◌, List, get_or, eqb}
use Rattle.endian.specs.Endian.{be}
use Rattle.pairs.specs.declared.CompletionKind.{CompletionKind as Completing}
use Rattle.pairs.specs.declared.CompletionKind.TheVariants.{Cpl, CplD, CplLk, CplDLk}
use Rattle.pairs.specs.declared.MessageKind.{MessageKind as Messaging}
use Rattle.pairs.specs.declared.MessageKind.TheVariants.{Msg, MsgD}
use Rattle.packet.specs.declared.Head.{Head}
use Rattle.packet.specs.declared.Enables.{Enables}
use Rattle.packet.specs.declared.Target.{Target}
use Rattle.packet.specs.declared.Outcome.{Outcome}

-- bit n of a byte is set
abbrev pub is_set : ℕ → ℕ → Bool
is_set n x = eqb (x / 2 ^ n % 2) 1

abbrev pub code_at : List ℕ → ℕ
code_at s = get_or s 2 0 % 4 * 256 + get_or s 3 0

-- code 0 means 1,024
abbrev pub length_of : ℕ → ℕ
length_of code = cond (eqb code 0) 1024 code

-- Cpl and CplLk have no Length value
abbrev pub completion_length : Completing → ℕ → ℕ
completion_length Cpl code = code
completion_length CplD code = length_of code
completion_length CplLk code = code
completion_length CplDLk code = length_of code

-- nor has Msg
abbrev pub message_length : Messaging → ℕ → ℕ
message_length Msg code = code
message_length MsgD code = length_of code

-- tag bits 9 and 8 are bits 7 and 3 of byte 1; `low` is the tag's low byte, wherever it stands
abbrev pub tag_with : ℕ → List ℕ → ℕ
tag_with low s = get_or s 1 0 / 128 % 2 * 512 + get_or s 1 0 / 8 % 2 * 256 + low

unfoldable pub head_at : ℕ → ℕ → ℕ → ℕ → List ℕ → Head
head_at form dwords requester low s =
    record {
      form = form;
      tc = get_or s 1 0 / 16 % 8;
      attr = get_or s 1 0 / 4 % 2 * 4 + get_or s 2 0 / 16 % 4;
      td = is_set 7 (get_or s 2 0);
      ep = is_set 6 (get_or s 2 0);
      at = get_or s 2 0 / 4 % 4;
      length = dwords;
      requester = requester;
      tag = tag_with low s;
    }

abbrev pub request_head_at : ℕ → List ℕ → Head
request_head_at form s = head_at form (length_of (code_at s)) (be 2 s 4) (get_or s 6 0) s

abbrev pub completion_head_at : Completing → ℕ → List ℕ → Head
completion_head_at k form s = head_at form (completion_length k (code_at s)) (be 2 s 8) (get_or s 10 0) s

abbrev pub message_head_at : Messaging → ℕ → List ℕ → Head
message_head_at k form s = head_at form (message_length k (code_at s)) (be 2 s 4) (get_or s 6 0) s

abbrev pub message_code_at : List ℕ → ℕ
message_code_at s = get_or s 7 0

unfoldable pub enables_at : List ℕ → Enables
enables_at s = record { last = get_or s 7 0 / 16; first = get_or s 7 0 % 16 }

unfoldable pub address_at : ℕ → List ℕ → ℕ
address_at form s = cond (eqb form 4) (be 8 s 8) (be 4 s 8)

unfoldable pub target_at : List ℕ → Target
target_at s = record { id = be 2 s 8; register = get_or s 10 0 % 16 * 64 + get_or s 11 0 / 4 }

unfoldable pub outcome_at : List ℕ → Outcome
outcome_at s =
    record {
      completer = be 2 s 4;
      status = get_or s 6 0 / 32;
      bcm = is_set 4 (get_or s 6 0);
      count = get_or s 6 0 % 16 * 256 + get_or s 7 0;
      lower = get_or s 11 0 % 128;
    }

-- ## The bits that the layout does not name, and TH (4)

-- a posted request has no tag bits 9 and 8
unfoldable pub unnamed : Bool → List ℕ → Bool
unnamed posted s = posted && (is_set 7 (get_or s 1 0) || is_set 3 (get_or s 1 0)) || is_set 1 (get_or s 1 0) || is_set 0 (get_or s 1 0)

unfoldable pub unnamed_target : List ℕ → Bool
unnamed_target s = not (eqb (get_or s 10 0 / 16) 0) || not (eqb (get_or s 11 0 % 4) 0)

unfoldable pub unnamed_lower : List ℕ → Bool
unnamed_lower s = is_set 7 (get_or s 11 0)
