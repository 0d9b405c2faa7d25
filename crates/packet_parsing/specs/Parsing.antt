-- What any numbers are taken for: fewer than twenty are 11, then a kind and form not carried, or routing 6 or 7 of a message, 2, then a
-- number too large for the packet's field, or other than 0 where the kind has no such field, 10. Widths below those of the packet's fields
-- are the packet's own check. Assumes nothing.
use Rattle.std.specs.Prelude.{ℕ, suc, ◌≤◌, Bool, false, cond, ◌||◌, List, [], ◌∷◌, ◌++◌, length, get_or, ltb, eqb}
use Rattle.pairs.specs.declared.Kind.{Kind}
use Rattle.pairs.specs.declared.Kind.TheVariants.{Memory as MemoryKind, Io as IoKind, Config as ConfigKind, Completion as CompletionKind}
use Rattle.pairs.specs.declared.Kind.TheVariants.{Message as MessageKind, FetchAdd, Swap, Cas}
use Rattle.pairs.specs.declared.MemoryKind.TheVariants.{MRd, MRdLk, MWr}
use Rattle.pairs.specs.declared.IoKind.TheVariants.{IORd, IOWr}
use Rattle.pairs.specs.declared.ConfigKind.TheVariants.{CfgRd0, CfgWr0, CfgRd1, CfgWr1}
use Rattle.pairs.specs.declared.CompletionKind.TheVariants.{Cpl, CplD, CplLk, CplDLk}
use Rattle.pairs.specs.declared.MessageKind.TheVariants.{Msg, MsgD}
use Rattle.pairs.specs.declared.MessageRouting.{MessageRouting}
use Rattle.pairs.specs.declared.MessageRouting.TheVariants.{ToRoot, ByAddress, ById, Broadcast, Local, Gathered}
use Rattle.pairs.specs.declared.Pair.{Pair}
use Rattle.pairs.specs.declared.Pair.TheVariants.{Carried, NotCarried, Unknown}
use Rattle.pairs.specs.Pairs.{row_of}
use Rattle.packet.specs.declared.Head.{Head}
use Rattle.packet.specs.declared.Enables.{Enables}
use Rattle.packet.specs.declared.Target.{Target}
use Rattle.packet.specs.declared.Outcome.{Outcome}
use Rattle.packet.specs.declared.Packet.TheVariants.{Memory, Io, Config, Completion, Message}
use Rattle.packet_parsing.specs.declared.Parsed.{Parsed}
use Rattle.packet_parsing.specs.declared.Parsed.TheVariants.{Accepted, Refused}
use Rattle.packet_numbers.specs.Numbers.{size, absent}

-- ## The kind

-- a message's routing, in the order of rrr
unfoldable pub routings : List MessageRouting
routings = ToRoot ∷ ByAddress ∷ ById ∷ Broadcast ∷ Local ∷ Gathered ∷ []

-- past the list any: 6 and 7 are refused as reserved, later numbers as too large, whatever routing is taken
unfoldable pub routing_at : ℕ → MessageRouting
routing_at n = get_or routings n ToRoot

abbrev pub is_reserved : ℕ → Bool
is_reserved n = eqb n 6 || eqb n 7

-- in the order of their numbers, messages with their routing
unfoldable pub kinds : MessageRouting → List Kind
kinds routing =
    MemoryKind MRd ∷ MemoryKind MRdLk ∷ MemoryKind MWr
    ∷ IoKind IORd ∷ IoKind IOWr
    ∷ ConfigKind CfgRd0 ∷ ConfigKind CfgWr0 ∷ ConfigKind CfgRd1 ∷ ConfigKind CfgWr1
    ∷ CompletionKind Cpl ∷ CompletionKind CplD ∷ CompletionKind CplLk ∷ CompletionKind CplDLk
    ∷ MessageKind Msg routing ∷ MessageKind MsgD routing
    ∷ []

abbrev pub last_kind : ℕ
last_kind = 14

-- by the numbers at places 0 and 10
unfoldable pub kind_at : ℕ → ℕ → Kind
kind_at n routing = get_or (kinds (routing_at routing)) n (MemoryKind MRd)

-- ## The greatest numbers that a packet's fields hold

abbrev pub flag : ℕ
flag = 1

-- rrr is three bits
abbrev pub rrr : ℕ
rrr = 7

abbrev pub byte : ℕ
byte = 255

abbrev pub word : ℕ
word = 65535

abbrev pub qword : ℕ
qword = 18446744073709551615

-- places 0 and 1, and 2 to 9
abbrev pub head_most : List ℕ
head_most = byte ∷ byte ∷ flag ∷ flag ∷ byte ∷ word ∷ word ∷ word ∷ []

-- places 10 to 14
abbrev pub request_most : ℕ → ℕ → ℕ → List ℕ
request_most address target register = byte ∷ byte ∷ address ∷ target ∷ register ∷ []

-- the same places of a message
abbrev pub message_most : List ℕ
message_most = rrr ∷ byte ∷ qword ∷ 0 ∷ 0 ∷ []

-- places 15 to 19
abbrev pub outcome_most : List ℕ
outcome_most = word ∷ byte ∷ flag ∷ word ∷ byte ∷ []

abbrev pub most_of : List ℕ → List ℕ → List ℕ
most_of request outcome = last_kind ∷ 4 ∷ head_most ++ request ++ outcome

-- a field that the kind does not have takes only 0
abbrev pub by_address : List ℕ
by_address = most_of (request_most qword 0 0) absent

abbrev pub by_target : List ℕ
by_target = most_of (request_most 0 word word) absent

abbrev pub completing : List ℕ
completing = most_of absent outcome_most

abbrev pub messaging : List ℕ
messaging = most_of message_most absent

-- some number is greater than the greatest at its place
unfoldable pub any_above : List ℕ → List ℕ → Bool
any_above [] ns = false
any_above (m ∷ ms) [] = false
any_above (m ∷ ms) (n ∷ ns) = ltb m n || any_above ms ns

-- from a place on, none is
abbrev pub Within : ℕ → List ℕ → List ℕ → Type 0
Within at [] ns = Unit
Within at (m ∷ ms) ns = (get_or ns at 0 ≤ m) × Within (suc at) ms ns

-- ## The fields, at their places

unfoldable pub head_from : List ℕ → Head
head_from ns =
    record {
      form = get_or ns 1 0;
      tc = get_or ns 2 0;
      attr = get_or ns 3 0;
      td = eqb (get_or ns 4 0) 1;
      ep = eqb (get_or ns 5 0) 1;
      at = get_or ns 6 0;
      length = get_or ns 7 0;
      requester = get_or ns 8 0;
      tag = get_or ns 9 0;
    }

unfoldable pub enables_from : List ℕ → Enables
enables_from ns = record { last = get_or ns 10 0; first = get_or ns 11 0 }

unfoldable pub target_from : List ℕ → Target
target_from ns = record { id = get_or ns 13 0; register = get_or ns 14 0 }

unfoldable pub outcome_from : List ℕ → Outcome
outcome_from ns =
    record {
      completer = get_or ns 15 0;
      status = get_or ns 16 0;
      bcm = eqb (get_or ns 17 0) 1;
      count = get_or ns 18 0;
      lower = get_or ns 19 0;
    }

-- ## In order

-- large is the answer where some number is too large
abbrev pub packet_as : Parsed → Kind → List ℕ → Parsed
packet_as large (MemoryKind k) ns = cond (any_above by_address ns) large (Accepted (Memory k (head_from ns) (enables_from ns) (get_or ns 12 0)))
packet_as large (IoKind k) ns = cond (any_above by_address ns) large (Accepted (Io k (head_from ns) (enables_from ns) (get_or ns 12 0)))
packet_as large (ConfigKind k) ns = cond (any_above by_target ns) large (Accepted (Config k (head_from ns) (enables_from ns) (target_from ns)))
packet_as large (CompletionKind k) ns = cond (any_above completing ns) large (Accepted (Completion k (head_from ns) (outcome_from ns)))
packet_as large (MessageKind k routing) ns =
    cond (is_reserved (get_or ns 10 0)) (Refused 2)
    (cond (any_above messaging ns) large (Accepted (Message k (head_from ns) routing (get_or ns 11 0) (get_or ns 12 0))))
packet_as large FetchAdd ns = Refused 2
packet_as large Swap ns = Refused 2
packet_as large Cas ns = Refused 2

abbrev pub on_pair : Pair → Parsed → Parsed
on_pair (Carried row) q = q
on_pair NotCarried q = Refused 2
on_pair Unknown q = Refused 2

unfoldable pub on_kind : List ℕ → Parsed
on_kind ns = let kind = kind_at (get_or ns 0 0) (get_or ns 10 0) in on_pair (row_of kind (get_or ns 1 0)) (packet_as (Refused 10) kind ns)

-- a kind or a form outside the list
unfoldable pub from_kind : List ℕ → Parsed
from_kind ns = cond (ltb last_kind (get_or ns 0 0) || ltb 4 (get_or ns 1 0)) (Refused 2) (on_kind ns)

unfoldable pub packet_of : List ℕ → Parsed
packet_of ns = cond (ltb (length ns) size) (Refused 11) (from_kind ns)
