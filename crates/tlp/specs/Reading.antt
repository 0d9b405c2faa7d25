-- Document 01, "Reading checks, in order": what any bytes are read as. Assumes nothing.
use Rattle.std.specs.Prelude.{ℕ, ◌*◌, Bool, true, false, cond, ◌||◌, List, length, get_or, ltb, eqb}
use Rattle.pairs.specs.declared.Kind.{Kind}
use Rattle.pairs.specs.declared.Kind.TheVariants.{Memory as MemoryKind, Io as IoKind, Config as ConfigKind, Completion as CompletionKind}
use Rattle.pairs.specs.declared.Kind.TheVariants.{Message as MessageKind, FetchAdd, Swap, Cas}
use Rattle.pairs.specs.declared.Pair.{Pair}
use Rattle.pairs.specs.declared.Pair.TheVariants.{Carried, NotCarried, Unknown}
use Rattle.pairs.specs.Pairs.{kind_named, pair_of}
use Rattle.packet.specs.declared.Packet.{Packet}
use Rattle.packet.specs.declared.Packet.TheVariants.{Memory, Io, Config, Completion, Message}
use Rattle.packet.specs.Fields.{is_posted}
use Rattle.packet.specs.Rules.{rule_number}
use Rattle.tlp_fields.specs.Fields.{request_head_at, completion_head_at, message_head_at, message_code_at, enables_at, address_at, target_at}
use Rattle.tlp_fields.specs.Fields.{outcome_at, unnamed, unnamed_target, unnamed_lower}
use Rattle.tlp.specs.declared.Reading.{Reading}
use Rattle.tlp.specs.declared.Reading.TheVariants.{Accepted, Refused}

-- document 01's number of a reading
abbrev pub number_of : Reading → ℕ
number_of (Accepted p) = 0
number_of (Refused n) = n

-- 4 for a bit that the layout does not name or TH, then rules 4 to 9 of the fields
unfoldable pub judged : Bool → Packet → Reading
judged stray p = cond stray (Refused 4) (cond (eqb (rule_number p) 0) (Accepted p) (Refused (rule_number p)))

abbrev pub read_as : Kind → ℕ → List ℕ → Reading
read_as (MemoryKind k) form s =
    judged (unnamed (is_posted (MemoryKind k)) s) (Memory k (request_head_at form s) (enables_at s) (address_at form s))
read_as (IoKind k) form s = judged (unnamed false s) (Io k (request_head_at form s) (enables_at s) (address_at form s))
read_as (ConfigKind k) form s = judged (unnamed false s || unnamed_target s) (Config k (request_head_at form s) (enables_at s) (target_at s))
read_as (CompletionKind k) form s = judged (unnamed false s || unnamed_lower s) (Completion k (completion_head_at k form s) (outcome_at s))
read_as (MessageKind k routing) form s =
    judged (unnamed true s) (Message k (message_head_at k form s) routing (message_code_at s) (address_at form s))
read_as FetchAdd form s = Refused 3
read_as Swap form s = Refused 3
read_as Cas form s = Refused 3

-- pair unknown (2) or not carried (3); four-dword form under 16 bytes (1)
abbrev pub read_pair : Pair → List ℕ → Reading
read_pair Unknown s = Refused 2
read_pair NotCarried s = Refused 3
read_pair (Carried row) s = cond (ltb (length s) (4 * row.form)) (Refused 1) (read_as (kind_named row.name) row.form s)

-- under 12 bytes (1)
unfoldable pub read_of : List ℕ → Reading
read_of s = cond (ltb (length s) 12) (Refused 1) (read_pair (pair_of (get_or s 0 0)) s)
