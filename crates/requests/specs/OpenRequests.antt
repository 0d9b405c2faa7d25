-- Document 02, E12, "Open request ledger", in the request's sentences, over the numbers and the words of the two calls. A history is a list
-- of calls from empty on, the latest first; bytes are what a slice of u8 holds. That the numbers are "tried in that order" is the text of
-- ledger's Ledger.antt, and that the two calls do what it says on any words their contracts. `open_requests` of OpenRequestsLaws proves the
-- rest. Assumes nothing.
use Rattle.std.specs.Prelude.{None, ◌≡◌, ◌↔◌, true, false, List, ◌∷◌, ℕ, ◌+◌, ◌≤◌, ◌<◌, get_or}
use Rattle.endian.specs.Endian.{Bytes}
use Rattle.pairs.specs.declared.CompletionKind.{CompletionKind as Completing}
use Rattle.packet.specs.declared.Head.{Head}
use Rattle.packet.specs.declared.Outcome.{Outcome}
use Rattle.packet.specs.declared.Packet.{Packet}
use Rattle.packet.specs.Fields.{kind_of, head_of}
use Rattle.tlp.specs.declared.Reading.TheVariants.{Accepted, Refused as NotRead}
use Rattle.tlp.specs.Reading.{read_of}
use Rattle.ledger.specs.declared.Verdict.TheVariants.{Opened, Closed}
use Rattle.ledger.specs.Kinds.{kind_completes, kind_reads}
use Rattle.ledger.specs.Words.{key_in, left_in, in_use}
use Rattle.ledger.specs.Ledger.{number_of, words_after, class_of, key_for, opening_of, completing_of}
use Rattle.ledger.specs.Ledger.{open_number, complete_number, complete_after}
use Rattle.ledger.specs.History.{Call, completes, header_of, verdict_of, after, opened, closed, opener_of, delivered, key_is, dwords_by}
use Rattle.ledger.specs.Standing.{Headers, IsUsed, IsOpen, IsNew, Asks, Answers, Holds, OpenFor, mismatch_for, Closes}

pub record OpenRequests : Type 0 where
  -- "holds up to 256 open non-posted requests"
  pub at_most_256 : (cs : List Call) → in_use (after cs) ≤ 256
  pub each_as_opened : (cs : List Call) → Headers cs → (i : ℕ) → IsUsed (after cs) i
      → let w = get_or (after cs) i 0 in Holds w (opener_of (key_in w) cs) (delivered (key_in w) cs)
  -- what is left of it, and what was delivered since it was opened, are its Length
  pub left_and_delivered : (cs : List Call) → Headers cs → (i : ℕ) → IsUsed (after cs) i
      → let w = get_or (after cs) i 0 in left_in w + delivered (key_in w) cs ≡ dwords_by (read_of (opener_of (key_in w) cs))
  -- ", keyed by requester ID and tag"
  pub keys_apart : (s t : List ℕ) (p q : Packet) → Bytes s → Bytes t → read_of s ≡ Accepted p → read_of t ≡ Accepted q
      → key_is p ≡ key_is q → ((head_of p).requester ≡ (head_of q).requester) × ((head_of p).tag ≡ (head_of q).tag)
  pub one_place_a_key : (cs : List Call) → Headers cs → (i j : ℕ) → IsUsed (after cs) i
      → key_in (get_or (after cs) i 0) ≡ key_in (get_or (after cs) j 0) → i ≡ j
  -- "the reader's number comes first"
  pub reader_first : (c : Call) (ws : List ℕ) (n : ℕ) → read_of (header_of c) ≡ NotRead n → number_of (verdict_of c ws) ≡ n
  -- "Opening anything but a non-posted request, or completing with anything but a completion, is 60"
  pub no_request_exactly : (ws s : List ℕ) (p : Packet) → read_of s ≡ Accepted p → (open_number s ws ≡ 60) ↔ (class_of (kind_of p) ≡ None)
  pub no_completion_exactly : (ws s : List ℕ) (p : Packet) → read_of s ≡ Accepted p
      → (complete_number s ws ≡ 60) ↔ (kind_completes (kind_of p) ≡ false)
  -- "a key already open 61, with 256 open 62"; else it is opened
  pub held_exactly : (cs : List Call) (s : List ℕ) (p : Packet) → Asks s p → (open_number s (after cs) ≡ 61) ↔ IsOpen (key_is p) (after cs)
  pub full_exactly : (cs : List Call) (s : List ℕ) (p : Packet) → Asks s p
      → (open_number s (after cs) ≡ 62) ↔ (IsNew (key_is p) (after cs) × (in_use (after cs) ≡ 256))
  pub else_opened : (cs : List Call) (s : List ℕ) (p : Packet) → Asks s p → IsNew (key_is p) (after cs) → in_use (after cs) < 256
      → open_number s (after cs) ≡ 0
  -- "completing a key not open 63"
  pub missing_exactly : (cs : List Call) (s : List ℕ) (k : Completing) (h : Head) (o : Outcome) → Answers s k h o
      → (complete_number s (after cs) ≡ 63) ↔ IsNew (key_for h) (after cs)
  -- "Then 64: retry status for a request that is not configuration, or success with data for a write, without data for a read, or in the
  -- locked form for any but MRdLk, or the reverse."
  pub mismatch_exactly : (cs : List Call) → Headers cs → (s : List ℕ) (k : Completing) (h : Head) (o : Outcome) (p : Packet)
      → Answers s k h o → OpenFor (key_for h) p cs → (complete_number s (after cs) ≡ 64) ↔ (mismatch_for (kind_of p) k o.status ≡ true)
  -- "Then 65: a success with more dwords than remain."
  pub more_exactly : (cs : List Call) → Headers cs → (s : List ℕ) (k : Completing) (h : Head) (o : Outcome) (p : Packet)
      → Answers s k h o → OpenFor (key_for h) p cs → mismatch_for (kind_of p) k o.status ≡ false
      → (complete_number s (after cs) ≡ 65) ↔ ((o.status ≡ 0) × ((head_of p).length < delivered (key_for h) cs + h.length))
  -- "Numbers .. change nothing."
  pub refused_changes_nothing : (c : Call) (ws : List ℕ) → ¬ (number_of (verdict_of c ws) ≡ 0) → words_after (verdict_of c ws) ws ≡ ws
  -- "A read stays open until successful completions have delivered its Length in dwords"
  pub read_closes_exactly : (cs : List Call) → Headers cs → (s : List ℕ) (k : Completing) (h : Head) (o : Outcome) (p : Packet)
      → Answers s k h o → OpenFor (key_for h) p cs → kind_reads (kind_of p) ≡ true → o.status ≡ 0 → complete_number s (after cs) ≡ 0
      → Closes s h (after cs) ↔ (delivered (key_for h) (completes s ∷ cs) ≡ (head_of p).length)
  -- "a write closes at its first success"
  pub write_closes_at_first_success : (cs : List Call) → Headers cs → (s : List ℕ) (k : Completing) (h : Head) (o : Outcome) (p : Packet)
      → Answers s k h o → OpenFor (key_for h) p cs → kind_reads (kind_of p) ≡ false → o.status ≡ 0 → complete_number s (after cs) ≡ 0
      → Closes s h (after cs)
  -- "An accepted status other than success closes either."
  pub other_status_closes : (ws s : List ℕ) (k : Completing) (h : Head) (o : Outcome)
      → Answers s k h o → ¬ (o.status ≡ 0) → complete_number s ws ≡ 0 → Closes s h ws
  -- to close is that the key is open no more
  pub closes_exactly : (cs : List Call) → Headers cs → (s : List ℕ) (k : Completing) (h : Head) (o : Outcome) → Answers s k h o
      → complete_number s (after cs) ≡ 0 → Closes s h (after cs) ↔ IsNew (key_for h) (after (completes s ∷ cs))
  -- "After any sequence from empty, opened equal closed plus open, counted from the history"
  pub counted : (cs : List Call) → opened cs ≡ closed cs + in_use (after cs)
  -- ", and freed places are used again": after a place is freed no request finds the ledger full, and the next is put there, or before it
  pub freed_has_room : (ws s t : List ℕ) (i : ℕ) (p : Packet) → completing_of s ws ≡ Closed i → Asks t p
      → ¬ (open_number t (complete_after s ws) ≡ 62)
  pub freed_used_again : (ws s t : List ℕ) (i j w : ℕ) → completing_of s ws ≡ Closed i → opening_of t (complete_after s ws) ≡ Opened j w
      → j ≤ i
