-- A header that a ledger refuses, to open or to complete, has a number from 1 to 99. Assumes nothing.
use Rattle.std.specs.Prelude.{Option, Some, None, refl, cond, ◌&&◌, List, ℕ, ◌*◌, ◌-◌, length, get_or, ltb}
use Rattle.refusals.specs.Refusals.{IsRefusal}
use Rattle.refusals.specs.RefusalsLaws.{refusal, either}
use Rattle.pairs.specs.declared.CompletionKind.{CompletionKind as Completing}
use Rattle.packet.specs.declared.Head.{Head}
use Rattle.packet.specs.declared.Packet.{Packet}
use Rattle.packet.specs.declared.Packet.TheVariants.{Memory, Io, Config, Completion, Message}
use Rattle.packet.specs.Fields.{kind_of, head_of}
use Rattle.tlp.specs.declared.Reading.{Reading}
use Rattle.tlp.specs.declared.Reading.TheVariants.{Accepted, Refused as Unread}
use Rattle.tlp.specs.Reading.{read_of}
use Rattle.tlp.specs.NumberLaws.{NumberedReading, numbered_read}
use Rattle.ledger.specs.declared.Verdict.{Verdict}
use Rattle.ledger.specs.declared.Verdict.TheVariants.{Opened, Kept, Closed, Refused}
use Rattle.ledger.specs.Words.{word_of, left_in, is_read, place_of}
use Rattle.ledger.specs.Ledger.{class_of, key_for, on_request, on_class, opening_by, opening_of, is_success, disagrees, on_success, settled}
use Rattle.ledger.specs.Ledger.{on_completion, on_packet, completing_by, completing_of}

abbrev pub Numbered : Verdict → Type 0
Numbered (Opened i w) = Unit {0}
Numbered (Kept i w) = Unit {0}
Numbered (Closed i) = Unit {0}
Numbered (Refused n) = IsRefusal n

-- ## Opening

numbered_request : (key word : ℕ) (ws : List ℕ) → Numbered (on_request key word ws)
unfolding on_request
numbered_request key word ws =
    let free = cond (ltb (place_of 0 ws) (length ws)) (Opened (place_of 0 ws) word) (Refused 62) in
    either Numbered (ltb (place_of key ws) (length ws)) (Refused 61) free (refusal 61 refl)
    (either Numbered (ltb (place_of 0 ws) (length ws)) (Opened (place_of 0 ws) word) (Refused 62) tt (refusal 62 refl))

numbered_class : (class : Option ℕ) (h : Head) (ws : List ℕ) → Numbered (on_class class h ws)
numbered_class (Some class) h ws = numbered_request (key_for h) (word_of (key_for h) h.length class) ws
numbered_class None h ws = refusal 60 refl

pub numbered_opening : (header ws : List ℕ) → Numbered (opening_of header ws)
unfolding opening_of
numbered_opening header ws = go (read_of header) (numbered_read header)
  where
    go : (r : Reading) → NumberedReading r → Numbered (opening_by r ws)
    go (Unread n) h = h
    go (Accepted p) h = numbered_class (class_of (kind_of p)) (head_of p) ws

-- ## Completing

numbered_success : (i w dwords : ℕ) → Numbered (on_success i w dwords)
unfolding on_success
numbered_success i w dwords =
    let more = is_read w && ltb dwords (left_in w) in
    let kept = Kept i (w - 8 * dwords) in
    either Numbered (ltb (left_in w) dwords) (Refused 65) (cond more kept (Closed i)) (refusal 65 refl)
    (either Numbered more kept (Closed i) tt tt)

numbered_settled : (i w : ℕ) (k : Completing) (dwords status : ℕ) → Numbered (settled i w k dwords status)
unfolding settled
numbered_settled i w k dwords status =
    either Numbered (disagrees w k status) (Refused 64) (cond (is_success status) (on_success i w dwords) (Closed i)) (refusal 64 refl)
    (either Numbered (is_success status) (on_success i w dwords) (Closed i) (numbered_success i w dwords) tt)

numbered_completion : (key : ℕ) (k : Completing) (dwords status : ℕ) (ws : List ℕ) → Numbered (on_completion key k dwords status ws)
unfolding on_completion
numbered_completion key k dwords status ws =
    let i = place_of key ws in
    let w = get_or ws i 0 in
    either Numbered (ltb i (length ws)) (settled i w k dwords status) (Refused 63) (numbered_settled i w k dwords status) (refusal 63 refl)

numbered_packet : (p : Packet) (ws : List ℕ) → Numbered (on_packet p ws)
numbered_packet (Memory k h e a) ws = refusal 60 refl
numbered_packet (Io k h e a) ws = refusal 60 refl
numbered_packet (Config k h e t) ws = refusal 60 refl
numbered_packet (Completion k h o) ws = numbered_completion (key_for h) k h.length o.status ws
numbered_packet (Message k h routing code tail) ws = refusal 60 refl

pub numbered_completing : (header ws : List ℕ) → Numbered (completing_of header ws)
unfolding completing_of
numbered_completing header ws = go (read_of header) (numbered_read header)
  where
    go : (r : Reading) → NumberedReading r → Numbered (completing_by r ws)
    go (Unread n) h = h
    go (Accepted p) h = numbered_packet p ws
