-- What the program `audit` prints: "accepted", or "refused" and the number, of an input that is the bytes of a host record and then a
-- sheet, to the end. An input of fewer bytes than a host record has is a host record not of 30 bytes. Assumes nothing.
use Rattle.std.specs.Prelude.{ℕ, cond, List, take, drop, eqb}
use Rattle.text.specs.Text.{ascii, refusal_text}
use Rattle.board_record.specs.Host.{host_length}
use Rattle.audit_rule.specs.Audit.{audit_number}

unfoldable pub input_number : List ℕ → ℕ
input_number s = audit_number (take host_length s) (drop host_length s)

unfoldable pub number_text : ℕ → List ℕ
number_text n = cond (eqb n 0) (ascii "accepted\n") (refusal_text n)

abbrev pub program_of : List ℕ → List ℕ
program_of s = number_text (input_number s)
