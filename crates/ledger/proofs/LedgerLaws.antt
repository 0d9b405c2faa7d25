-- Verdicts in the words of the code. Assumes nothing.
use Rattle.std.specs.Prelude.{Option, ◌≡◌, refl, Bool, true, false, not, ◌&&◌, List, ℕ, ◌*◌, ◌-◌, ◌≤◌, ◌<◌, length, get_or, ltb}
use Rattle.std.proofs.Math.Path.{ap}
use Rattle.std.proofs.Common.{◌∙◌}
use borrow.Author.Tests.{lt-ltb, le-ltb}
use Rattle.pairs.specs.declared.Kind.{Kind}
use Rattle.pairs.specs.declared.CompletionKind.{CompletionKind as Completing}
use Rattle.packet.specs.declared.Head.{Head}
use Rattle.packet.specs.declared.Packet.{Packet}
use Rattle.packet.specs.Fields.{kind_of, head_of}
use Rattle.tlp.specs.declared.Reading.{Reading}
use Rattle.tlp.specs.declared.Reading.TheVariants.{Accepted, Refused as Unread}
use Rattle.tlp.specs.Reading.{read_of, number_of as reading_number}
use Rattle.ledger.specs.declared.Verdict.{Verdict}
use Rattle.ledger.specs.declared.Verdict.TheVariants.{Opened, Kept, Closed, Refused}
use Rattle.ledger.specs.Words.{left_in, is_read, place_of}
use Rattle.ledger.specs.Ledger.{class_of, on_request, on_class, opening_of, on_packet, on_completion, completing_of}
use Rattle.ledger.specs.Ledger.{differ, settled, on_success}
use mathlib.Core.Bool.{beq}

-- two flags that are not equal
pub differ_not : (a b : Bool) → not (beq a b) ≡ differ a b
differ_not true true = refl
differ_not true false = refl
differ_not false true = refl
differ_not false false = refl

-- ## The reader's number comes first

module _ (s ws : List ℕ) (r : Reading) (read : r ≡ read_of s) where
  pub opening_unread : (n m : ℕ) → r ≡ Unread n → m ≡ reading_number r → Refused m ≡ opening_of s ws
  unfolding opening_of
  opening_unread n m told e = rw (← read, told) (ap Refused (e ∙ ap reading_number told))

  pub completing_unread : (n m : ℕ) → r ≡ Unread n → m ≡ reading_number r → Refused m ≡ completing_of s ws
  unfolding completing_of
  completing_unread n m told e = rw (← read, told) (ap Refused (e ∙ ap reading_number told))

  module _ (p : Packet) (told : r ≡ Accepted p) where
    pub opening_accepted : (h : Head) (kind : Kind) (class : Option ℕ) (v : Verdict) → h ≡ head_of p → kind ≡ kind_of p → class ≡ class_of kind
        → v ≡ on_class class h ws → v ≡ opening_of s ws
    unfolding opening_of
    opening_accepted h kind class v eh ek ec ev = rw (← read, told, ← eh, ← ek, ← ec) ev

    pub completing_accepted : (v : Verdict) → v ≡ on_packet p ws → v ≡ completing_of s ws
    unfolding completing_of
    completing_accepted v ev = rw (← read, told) ev

-- ## What the search finds

module _ (key : ℕ) (ws : List ℕ) (i : ℕ) (found : i ≡ place_of key ws) where
  pub request_held : (word : ℕ) → i < length ws → Refused 61 ≡ on_request key word ws
  unfolding on_request
  request_held word h = rw (← found, lt-ltb i (length ws) h)

  module _ (word j : ℕ) (free : j ≡ place_of 0 ws) (none : length ws ≤ i) where
    pub request_placed : j < length ws → Opened j word ≡ on_request key word ws
    unfolding on_request
    request_placed h = rw (← found, ← free, le-ltb i (length ws) none, lt-ltb j (length ws) h)

    pub request_full : length ws ≤ j → Refused 62 ≡ on_request key word ws
    unfolding on_request
    request_full h = rw (← found, ← free, le-ltb i (length ws) none, le-ltb j (length ws) h)

  module _ (k : Completing) (dwords status : ℕ) where
    pub completion_held : i < length ws → (v : Verdict) → v ≡ settled i (get_or ws i 0) k dwords status
        → v ≡ on_completion key k dwords status ws
    unfolding on_completion
    completion_held h v e = rw (← found, lt-ltb i (length ws) h) e

    pub completion_missing : length ws ≤ i → Refused 63 ≡ on_completion key k dwords status ws
    unfolding on_completion
    completion_missing h = rw (← found, le-ltb i (length ws) h)

-- ## A success

module _ (i w dwords left : ℕ) (e : left ≡ left_in w) where
  pub success_more : left < dwords → Refused 65 ≡ on_success i w dwords
  unfolding on_success
  success_more h = rw (← e, lt-ltb left dwords h)

  module _ (enough : dwords ≤ left) (reads : Bool) (f : reads ≡ is_read w) where
    pub success_part : reads && ltb dwords left ≡ true → Kept i (w - 8 * dwords) ≡ on_success i w dwords
    unfolding on_success
    success_part t = rw (← e, ← f, le-ltb left dwords enough, t)

    pub success_whole : reads && ltb dwords left ≡ false → Closed i ≡ on_success i w dwords
    unfolding on_success
    success_whole t = rw (← e, ← f, le-ltb left dwords enough, t)
