-- Document 02, E12: what opening a request and completing one does to a ledger, on any header and any words. Assumes nothing.
use Rattle.std.specs.Prelude.{Option, Some, None, ℕ, ◌+◌, ◌*◌, ◌-◌, ◌<◌, Bool, true, false, cond, not, ◌&&◌, ◌||◌, List, length, get_or, set, eqb, ltb}
use Rattle.pairs.specs.declared.Kind.{Kind}
use Rattle.pairs.specs.declared.Kind.TheVariants.{Memory as MemoryKind, Io as IoKind, Config as ConfigKind, Completion as CompletionKind}
use Rattle.pairs.specs.declared.Kind.TheVariants.{Message as MessageKind, FetchAdd, Swap, Cas}
use Rattle.pairs.specs.declared.MemoryKind.TheVariants.{MRd, MRdLk, MWr}
use Rattle.pairs.specs.declared.IoKind.TheVariants.{IORd, IOWr}
use Rattle.pairs.specs.declared.ConfigKind.TheVariants.{CfgRd0, CfgWr0, CfgRd1, CfgWr1}
use Rattle.pairs.specs.declared.CompletionKind.{CompletionKind as Completing}
use Rattle.pairs.specs.declared.CompletionKind.TheVariants.{Cpl, CplD, CplLk, CplDLk}
use Rattle.packet.specs.declared.Head.{Head}
use Rattle.packet.specs.declared.Packet.{Packet}
use Rattle.packet.specs.declared.Packet.TheVariants.{Memory, Io, Config, Completion, Message}
use Rattle.packet.specs.Fields.{kind_of, head_of}
use Rattle.tlp.specs.declared.Reading.{Reading}
use Rattle.tlp.specs.declared.Reading.TheVariants.{Accepted, Refused as Unread}
use Rattle.tlp.specs.Reading.{read_of}
use Rattle.ledger.specs.declared.Verdict.{Verdict}
use Rattle.ledger.specs.declared.Verdict.TheVariants.{Opened, Kept, Closed, Refused}
use Rattle.ledger.specs.Words.{key_of, word_of, left_in, is_read, is_config, is_locked, place_of}

-- ## What a verdict means

-- "Numbers .. change nothing"
abbrev pub number_of : Verdict → ℕ
number_of (Opened i w) = 0
number_of (Kept i w) = 0
number_of (Closed i) = 0
number_of (Refused n) = n

abbrev pub words_after : Verdict → List ℕ → List ℕ
words_after (Opened i w) ws = set ws i w
words_after (Kept i w) ws = set ws i w
words_after (Closed i) ws = set ws i 0
words_after (Refused n) ws = ws

-- the place of a verdict is one of n
abbrev pub Inside : Verdict → ℕ → Type 0
Inside (Opened i w) n = i < n
Inside (Kept i w) n = i < n
Inside (Closed i) n = i < n
Inside (Refused m) n = Unit {0}

-- ## Opening

abbrev read : ℕ
read = 4

abbrev configuration : ℕ
configuration = 2

abbrev locked : ℕ
locked = 1

-- the non-posted requests, with what a word keeps of their kind
abbrev pub class_of : Kind → Option ℕ
class_of (MemoryKind MRd) = Some read
class_of (MemoryKind MRdLk) = Some (read + locked)
class_of (MemoryKind MWr) = None
class_of (IoKind IORd) = Some read
class_of (IoKind IOWr) = Some 0
class_of (ConfigKind CfgRd0) = Some (read + configuration)
class_of (ConfigKind CfgWr0) = Some configuration
class_of (ConfigKind CfgRd1) = Some (read + configuration)
class_of (ConfigKind CfgWr1) = Some configuration
class_of (CompletionKind k) = None
class_of (MessageKind k routing) = None
class_of FetchAdd = None
class_of Swap = None
class_of Cas = None

abbrev pub key_for : Head → ℕ
key_for h = key_of h.requester h.tag

-- "a key already open 61, with 256 open 62": else the first free place holds it
unfoldable pub on_request : ℕ → ℕ → List ℕ → Verdict
on_request key word ws =
    cond (ltb (place_of key ws) (length ws)) (Refused 61)
    (cond (ltb (place_of 0 ws) (length ws)) (Opened (place_of 0 ws) word) (Refused 62))

-- "Opening anything but a non-posted request .. is 60"
abbrev pub on_class : Option ℕ → Head → List ℕ → Verdict
on_class (Some class) h ws = on_request (key_for h) (word_of (key_for h) h.length class) ws
on_class None h ws = Refused 60

-- "the reader's number comes first"
abbrev pub opening_by : Reading → List ℕ → Verdict
opening_by (Unread n) ws = Refused n
opening_by (Accepted p) ws = on_class (class_of (kind_of p)) (head_of p) ws

unfoldable pub opening_of : List ℕ → List ℕ → Verdict
opening_of header ws = opening_by (read_of header) ws

-- ## Completing

abbrev pub has_data : Completing → Bool
has_data Cpl = false
has_data CplD = true
has_data CplLk = false
has_data CplDLk = true

abbrev pub in_locked_form : Completing → Bool
in_locked_form Cpl = false
in_locked_form CplD = false
in_locked_form CplLk = true
in_locked_form CplDLk = true

abbrev pub is_success : ℕ → Bool
is_success status = eqb status 0

abbrev pub is_retry : ℕ → Bool
is_retry status = eqb status 2

abbrev pub differ : Bool → Bool → Bool
differ a b = a && not b || not a && b

-- "64: retry status for a request that is not configuration, or success with data for a write, without data for a read, or in the locked
-- form for any but MRdLk, or the reverse"
abbrev pub mismatch : Bool → Bool → Bool → Completing → ℕ → Bool
mismatch reads configures locks k status =
    is_retry status && not configures || is_success status && (differ (has_data k) reads || differ (in_locked_form k) locks)

unfoldable pub disagrees : ℕ → Completing → ℕ → Bool
disagrees w k status = mismatch (is_read w) (is_config w) (is_locked w) k status

-- "Then 65: a success with more dwords than remain." "A read stays open until successful completions have delivered its Length in dwords; a
-- write closes at its first success."
unfoldable pub on_success : ℕ → ℕ → ℕ → Verdict
on_success i w dwords =
    cond (ltb (left_in w) dwords) (Refused 65) (cond (is_read w && ltb dwords (left_in w)) (Kept i (w - 8 * dwords)) (Closed i))

-- "An accepted status other than success closes either."
unfoldable pub settled : ℕ → ℕ → Completing → ℕ → ℕ → Verdict
settled i w k dwords status = cond (disagrees w k status) (Refused 64) (cond (is_success status) (on_success i w dwords) (Closed i))

-- "completing a key not open 63"
unfoldable pub on_completion : ℕ → Completing → ℕ → ℕ → List ℕ → Verdict
on_completion key k dwords status ws =
    cond (ltb (place_of key ws) (length ws)) (settled (place_of key ws) (get_or ws (place_of key ws) 0) k dwords status) (Refused 63)

-- "completing with anything but a completion, is 60"
abbrev pub on_packet : Packet → List ℕ → Verdict
on_packet (Memory k h e a) ws = Refused 60
on_packet (Io k h e a) ws = Refused 60
on_packet (Config k h e t) ws = Refused 60
on_packet (Completion k h o) ws = on_completion (key_for h) k h.length o.status ws
on_packet (Message k h routing code tail) ws = Refused 60

abbrev pub completing_by : Reading → List ℕ → Verdict
completing_by (Unread n) ws = Refused n
completing_by (Accepted p) ws = on_packet p ws

unfoldable pub completing_of : List ℕ → List ℕ → Verdict
completing_of header ws = completing_by (read_of header) ws

-- ## The two calls: a number, and all words afterwards

abbrev pub open_number : List ℕ → List ℕ → ℕ
open_number header ws = number_of (opening_of header ws)

abbrev pub open_after : List ℕ → List ℕ → List ℕ
open_after header ws = words_after (opening_of header ws) ws

abbrev pub complete_number : List ℕ → List ℕ → ℕ
complete_number header ws = number_of (completing_of header ws)

abbrev pub complete_after : List ℕ → List ℕ → List ℕ
complete_after header ws = words_after (completing_of header ws) ws
