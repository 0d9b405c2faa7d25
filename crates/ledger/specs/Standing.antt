-- What stands open after a history, in the words that E12's sentences are said in: keys open and new, what a word holds of the header that
-- opened it, requests and completions by their headers. Assumes nothing.
use Rattle.std.specs.Prelude.{Some, ◌≡◌, Bool, List, ℕ, ◌+◌, ◌≤◌, get_or}
use Rattle.endian.specs.Endian.{Bytes}
use Rattle.lists.specs.Lists.{All}
use Rattle.pairs.specs.declared.Kind.{Kind}
use Rattle.pairs.specs.declared.CompletionKind.{CompletionKind as Completing}
use Rattle.packet.specs.declared.Head.{Head}
use Rattle.packet.specs.declared.Outcome.{Outcome}
use Rattle.packet.specs.declared.Packet.{Packet}
use Rattle.packet.specs.declared.Packet.TheVariants.{Completion}
use Rattle.packet.specs.Fields.{kind_of, head_of}
use Rattle.tlp.specs.declared.Reading.TheVariants.{Accepted}
use Rattle.tlp.specs.Reading.{read_of}
use Rattle.ledger.specs.declared.Verdict.TheVariants.{Closed}
use Rattle.ledger.specs.Kinds.{kind_reads, kind_configures, kind_locks}
use Rattle.ledger.specs.Words.{key_in, left_in, is_read, is_config, is_locked, place_of}
use Rattle.ledger.specs.Ledger.{class_of, key_for, mismatch, completing_of}
use Rattle.ledger.specs.History.{Call, header_of, after, opener_of, key_is}

abbrev pub Headers : List Call → Type 0
Headers cs = All (λ c. Bytes (header_of c)) cs

abbrev pub IsUsed : List ℕ → ℕ → Type 0
IsUsed ws i = ¬ (key_in (get_or ws i 0) ≡ 0)

-- some place holds the key
abbrev pub IsOpen : ℕ → List ℕ → Type 0
IsOpen key ws = (i : ℕ) × (key_in (get_or ws i 0) ≡ key)

abbrev pub IsNew : ℕ → List ℕ → Type 0
IsNew key ws = ¬ IsOpen key ws

-- the header is a non-posted request
pub record Asks (s : List ℕ) (p : Packet) : Type 0 where
  pub class : ℕ
  pub read : read_of s ≡ Accepted p
  pub non_posted : class_of (kind_of p) ≡ Some class

-- the header is a completion
abbrev pub Answers : List ℕ → Completing → Head → Outcome → Type 0
Answers s k h o = read_of s ≡ Accepted (Completion k h o)

-- an open request's word: it says what the header asked for by which it was opened, and of its Length what has not been delivered since
pub record Holds (w : ℕ) (opener : List ℕ) (given : ℕ) : Type 0 where
  pub packet : Packet
  pub read : read_of opener ≡ Accepted packet
  pub key : key_in w ≡ key_is packet
  pub reads : is_read w ≡ kind_reads (kind_of packet)
  pub configures : is_config w ≡ kind_configures (kind_of packet)
  pub locks : is_locked w ≡ kind_locks (kind_of packet)
  pub left : left_in w + given ≡ (head_of packet).length
  pub some : 1 ≤ left_in w

-- after the history the key is open, for the packet
pub record OpenFor (key : ℕ) (p : Packet) (cs : List Call) : Type 0 where
  pub is_open : IsOpen key (after cs)
  pub opener : read_of (opener_of key cs) ≡ Accepted p

-- 64, by the kind of the request
abbrev pub mismatch_for : Kind → Completing → ℕ → Bool
mismatch_for kind k status = mismatch (kind_reads kind) (kind_configures kind) (kind_locks kind) k status

-- the completion closes the request of its key: the place is free afterwards
abbrev pub Closes : List ℕ → Head → List ℕ → Type 0
Closes s h ws = completing_of s ws ≡ Closed (place_of (key_for h) ws)
