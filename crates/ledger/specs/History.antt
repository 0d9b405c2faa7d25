-- Histories of a ledger: the calls made from empty on, the words after them, and what is counted from them. Assumes nothing.
use Rattle.std.specs.Prelude.{ℕ, ◌+◌, Bool, true, false, cond, ◌&&◌, List, [], ◌∷◌, eqb}
use Rattle.packet.specs.declared.Packet.{Packet}
use Rattle.packet.specs.declared.Packet.TheVariants.{Memory, Io, Config, Completion, Message}
use Rattle.packet.specs.Fields.{head_of}
use Rattle.tlp.specs.declared.Reading.{Reading}
use Rattle.tlp.specs.declared.Reading.TheVariants.{Accepted, Refused as Unread}
use Rattle.tlp.specs.Reading.{read_of}
use Rattle.ledger.specs.declared.Verdict.{Verdict}
use Rattle.ledger.specs.declared.Verdict.TheVariants.{Opened, Kept, Closed, Refused}
use Rattle.ledger.specs.Words.{empty}
use Rattle.ledger.specs.Ledger.{key_for, is_success, opening_of, completing_of, words_after}

-- a call, with its header's bytes
pub data Call : Type 0 where
  opens completes : List ℕ → Call

abbrev pub header_of : Call → List ℕ
header_of (opens s) = s
header_of (completes s) = s

abbrev pub verdict_of : Call → List ℕ → Verdict
verdict_of (opens s) ws = opening_of s ws
verdict_of (completes s) ws = completing_of s ws

-- the words after a history: a list of calls, the latest first
unfoldable pub after : List Call → List ℕ
after [] = empty
after (c ∷ cs) = let ws = after cs in words_after (verdict_of c ws) ws

-- ## "opened equal closed plus open, counted from the history"

abbrev pub is_opened : Verdict → Bool
is_opened (Opened i w) = true
is_opened (Kept i w) = false
is_opened (Closed i) = false
is_opened (Refused n) = false

abbrev pub is_closed : Verdict → Bool
is_closed (Opened i w) = false
is_closed (Kept i w) = false
is_closed (Closed i) = true
is_closed (Refused n) = false

unfoldable pub opened : List Call → ℕ
opened [] = 0
opened (c ∷ cs) = cond (is_opened (verdict_of c (after cs))) 1 0 + opened cs

unfoldable pub closed : List Call → ℕ
closed [] = 0
closed (c ∷ cs) = cond (is_closed (verdict_of c (after cs))) 1 0 + closed cs

-- ## What was opened under a key, and what was delivered since

abbrev pub key_is : Packet → ℕ
key_is p = key_for (head_of p)

-- 0 is no key
abbrev pub key_by : Reading → ℕ
key_by (Unread n) = 0
key_by (Accepted p) = key_is p

abbrev pub dwords_by : Reading → ℕ
dwords_by (Unread n) = 0
dwords_by (Accepted p) = (head_of p).length

abbrev pub succeeds : Packet → Bool
succeeds (Memory k h e a) = false
succeeds (Io k h e a) = false
succeeds (Config k h e t) = false
succeeds (Completion k h o) = is_success o.status
succeeds (Message k h routing code tail) = false

abbrev pub succeeds_by : Reading → Bool
succeeds_by (Unread n) = false
succeeds_by (Accepted p) = succeeds p

abbrev pub is_taken : Verdict → Bool
is_taken (Opened i w) = true
is_taken (Kept i w) = true
is_taken (Closed i) = true
is_taken (Refused n) = false

-- the call opened a request under the key
abbrev pub opens_under : ℕ → Call → Verdict → Bool
opens_under key c v = is_opened v && eqb (key_by (read_of (header_of c))) key

-- the call was a successful completion under the key, and was taken
abbrev pub delivers_under : ℕ → Call → Verdict → Bool
delivers_under key c v = is_taken v && (eqb (key_by (read_of (header_of c))) key && succeeds_by (read_of (header_of c)))

abbrev pub opener_by : ℕ → Call → Verdict → List ℕ → List ℕ
opener_by key c v before = cond (opens_under key c v) (header_of c) before

abbrev pub delivered_by : ℕ → Call → Verdict → ℕ → ℕ
delivered_by key c v before =
    cond (opens_under key c v) 0 (cond (delivers_under key c v) (dwords_by (read_of (header_of c)) + before) before)

-- the header by which a request was opened last under the key
unfoldable pub opener_of : ℕ → List Call → List ℕ
opener_of key [] = []
opener_of key (c ∷ cs) = opener_by key c (verdict_of c (after cs)) (opener_of key cs)

-- the dwords of successful completions under the key since then
unfoldable pub delivered : ℕ → List Call → ℕ
delivered key [] = 0
delivered key (c ∷ cs) = delivered_by key c (verdict_of c (after cs)) (delivered key cs)
