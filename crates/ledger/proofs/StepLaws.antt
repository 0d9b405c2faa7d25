-- What is known of a call by its verdict. Assumes nothing.
use Rattle.std.specs.Prelude.{Option, Some, None, ◌≡◌, refl, Bool, true, false, cond, ◌&&◌, List, ℕ, ◌*◌, ◌-◌, ◌≤◌, ◌<◌, length, get_or, ltb}
use Rattle.std.proofs.Common.{ltb-true, ltb-false}
use Rattle.arith.specs.BoolLaws.{both_of_and}
use Rattle.pairs.specs.declared.CompletionKind.{CompletionKind as Completing}
use Rattle.packet.specs.declared.Head.{Head}
use Rattle.packet.specs.declared.Outcome.{Outcome}
use Rattle.packet.specs.declared.Packet.{Packet}
use Rattle.packet.specs.declared.Packet.TheVariants.{Memory, Io, Config, Completion, Message}
use Rattle.packet.specs.Fields.{kind_of, head_of}
use Rattle.tlp.specs.declared.Reading.{Reading}
use Rattle.tlp.specs.declared.Reading.TheVariants.{Accepted, Refused as Unread}
use Rattle.tlp.specs.Reading.{read_of}
use Rattle.ledger.specs.declared.Verdict.{Verdict}
use Rattle.ledger.specs.declared.Verdict.TheVariants.{Opened, Kept, Closed, Refused}
use Rattle.ledger.specs.Words.{word_of, left_in, is_read, place_of}
use Rattle.ledger.specs.Ledger.{class_of, key_for, on_request, on_class, opening_by, opening_of}
use Rattle.ledger.specs.Ledger.{on_completion, on_packet, completing_by, completing_of}
use Rattle.ledger.specs.Ledger.{settled, on_success, disagrees, is_success, Inside}
use Rattle.ledger.specs.History.{Call, opens, completes, verdict_of, key_is}

-- ## The cases of a verdict

pub data Requested (key word : ℕ) (ws : List ℕ) : Verdict → Type 0 where
  held : place_of key ws < length ws → Requested key word ws (Refused 61)
  full : length ws ≤ place_of key ws → length ws ≤ place_of 0 ws → Requested key word ws (Refused 62)
  placed : length ws ≤ place_of key ws → place_of 0 ws < length ws → Requested key word ws (Opened (place_of 0 ws) word)

pub requested : (key word : ℕ) (ws : List ℕ) → Requested key word ws (on_request key word ws)
unfolding on_request
requested key word ws = go (ltb (place_of key ws) (length ws)) (ltb (place_of 0 ws) (length ws)) refl refl
  where
    go : (there free : Bool) → ltb (place_of key ws) (length ws) ≡ there → ltb (place_of 0 ws) (length ws) ≡ free
        → Requested key word ws (cond there (Refused 61) (cond free (Opened (place_of 0 ws) word) (Refused 62)))
    go true free h f = held (ltb-true _ _ h)
    go false true h f = placed (ltb-false _ _ h) (ltb-true _ _ f)
    go false false h f = full (ltb-false _ _ h) (ltb-false _ _ f)

-- the word at the place of a key
abbrev pub word_at : ℕ → List ℕ → ℕ
word_at key ws = get_or ws (place_of key ws) 0

pub data Completed (key : ℕ) (k : Completing) (dwords status : ℕ) (ws : List ℕ) : Verdict → Type 0 where
  missing : length ws ≤ place_of key ws → Completed key k dwords status ws (Refused 63)
  wrong : place_of key ws < length ws → disagrees (word_at key ws) k status ≡ true → Completed key k dwords status ws (Refused 64)
  more : place_of key ws < length ws → disagrees (word_at key ws) k status ≡ false → is_success status ≡ true
      → left_in (word_at key ws) < dwords → Completed key k dwords status ws (Refused 65)
  part : place_of key ws < length ws → disagrees (word_at key ws) k status ≡ false → is_success status ≡ true
      → is_read (word_at key ws) ≡ true → dwords < left_in (word_at key ws)
      → Completed key k dwords status ws (Kept (place_of key ws) (word_at key ws - 8 * dwords))
  whole : place_of key ws < length ws → disagrees (word_at key ws) k status ≡ false → is_success status ≡ true
      → dwords ≤ left_in (word_at key ws) → (is_read (word_at key ws) ≡ true → left_in (word_at key ws) ≤ dwords)
      → Completed key k dwords status ws (Closed (place_of key ws))
  other : place_of key ws < length ws → disagrees (word_at key ws) k status ≡ false → is_success status ≡ false
      → Completed key k dwords status ws (Closed (place_of key ws))

pub completed : (key : ℕ) (k : Completing) (dwords status : ℕ) (ws : List ℕ)
    → Completed key k dwords status ws (on_completion key k dwords status ws)
unfolding on_completion settled on_success
completed key k dwords status ws = by_place (ltb (place_of key ws) (length ws)) refl
  where
    by_part : place_of key ws < length ws → disagrees (word_at key ws) k status ≡ false → (success exceeds less : Bool)
        → is_success status ≡ success → ltb (left_in (word_at key ws)) dwords ≡ exceeds
        → is_read (word_at key ws) && ltb dwords (left_in (word_at key ws)) ≡ less
        → Completed key k dwords status ws
        (cond success
        (cond exceeds (Refused 65) (cond less (Kept (place_of key ws) (word_at key ws - 8 * dwords)) (Closed (place_of key ws))))
        (Closed (place_of key ws)))
    by_part i a false exceeds less s m p = other i a s
    by_part i a true true less s m p = more i a s (ltb-true _ _ m)
    by_part i a true false true s m p = let e = both_of_and _ _ p in part i a s e.0 (ltb-true _ _ e.1)
    by_part i a true false false s m p = whole i a s (ltb-false _ _ m) (λ r. ltb-false _ _ (rw r at p))

    by_form : place_of key ws < length ws → (disagree : Bool) → disagrees (word_at key ws) k status ≡ disagree
        → Completed key k dwords status ws
        (cond disagree (Refused 64) (cond (is_success status) (on_success (place_of key ws) (word_at key ws) dwords) (Closed (place_of key ws))))
    by_form i true a = wrong i a
    by_form i false a = by_part i a (is_success status) _ _ refl refl refl

    by_place : (there : Bool) → ltb (place_of key ws) (length ws) ≡ there
        → Completed key k dwords status ws (cond there (settled (place_of key ws) (word_at key ws) k dwords status) (Refused 63))
    by_place true h = by_form (ltb-true _ _ h) (disagrees (word_at key ws) k status) refl
    by_place false h = missing (ltb-false _ _ h)

-- ## What is known of a call by its verdict

-- a request opened at place i
pub record Opens (s ws : List ℕ) (i w : ℕ) : Type 0 where
  pub packet : Packet
  pub class : ℕ
  pub read : read_of s ≡ Accepted packet
  pub non_posted : class_of (kind_of packet) ≡ Some class
  pub word : w ≡ word_of (key_is packet) (head_of packet).length class
  pub new : length ws ≤ place_of (key_is packet) ws
  pub first : i ≡ place_of 0 ws
  pub inside : i < length ws

-- a completion taken at place i
pub record Completes (s ws : List ℕ) (i : ℕ) : Type 0 where
  pub kind : Completing
  pub head : Head
  pub outcome : Outcome
  pub read : read_of s ≡ Accepted (Completion kind head outcome)
  pub found : i ≡ place_of (key_for head) ws
  pub inside : i < length ws

-- a part of a read
pub record Keeps (s ws : List ℕ) (i w : ℕ) : Type 0 where
  pub completes : Completes s ws i
  pub success : is_success completes.outcome.status ≡ true
  pub reads : is_read (get_or ws i 0) ≡ true
  pub part : completes.head.length < left_in (get_or ws i 0)
  pub word : w ≡ get_or ws i 0 - 8 * completes.head.length

pub data Step (ws : List ℕ) : Call → Verdict → Type 0 where
  opening : {s : List ℕ} {i w : ℕ} → Opens s ws i w → Step ws (opens s) (Opened i w)
  keeping : {s : List ℕ} {i w : ℕ} → Keeps s ws i w → Step ws (completes s) (Kept i w)
  closing : {s : List ℕ} {i : ℕ} → Completes s ws i → Step ws (completes s) (Closed i)
  refusing : {c : Call} {n : ℕ} → Step ws c (Refused n)

-- ## An opening

opening_step : (s ws : List ℕ) → Step ws (opens s) (opening_of s ws)
unfolding opening_of
opening_step s ws = by_reading (read_of s) refl
  where
    by_place : (p : Packet) (class : ℕ) → read_of s ≡ Accepted p → class_of (kind_of p) ≡ Some class → (v : Verdict)
        → Requested (key_is p) (word_of (key_is p) (head_of p).length class) ws v → Step ws (opens s) v
    by_place p class r c v (held h) = refusing
    by_place p class r c v (full n f) = refusing
    by_place p class r c v (placed n f) =
        opening
        (record { packet = p; class = class; read = r; non_posted = c; word = refl; new = n; first = refl; inside = f })

    by_class : (p : Packet) → read_of s ≡ Accepted p → (class : Option ℕ) → class_of (kind_of p) ≡ class
        → Step ws (opens s) (on_class class (head_of p) ws)
    by_class p r (Some n) c = by_place p n r c _ (requested (key_is p) (word_of (key_is p) (head_of p).length n) ws)
    by_class p r None c = refusing

    by_reading : (r : Reading) → read_of s ≡ r → Step ws (opens s) (opening_by r ws)
    by_reading (Unread n) r = refusing
    by_reading (Accepted p) r = by_class p r (class_of (kind_of p)) refl

-- ## A completion

completing_step : (s ws : List ℕ) → Step ws (completes s) (completing_of s ws)
unfolding completing_of
completing_step s ws = by_reading (read_of s) refl
  where
    taken : (k : Completing) (h : Head) (o : Outcome) → read_of s ≡ Accepted (Completion k h o)
        → place_of (key_for h) ws < length ws → Completes s ws (place_of (key_for h) ws)
    taken k h o r i = record { kind = k; head = h; outcome = o; read = r; found = refl; inside = i }

    by_place : (k : Completing) (h : Head) (o : Outcome) → read_of s ≡ Accepted (Completion k h o) → (v : Verdict)
        → Completed (key_for h) k h.length o.status ws v → Step ws (completes s) v
    by_place k h o r v (missing n) = refusing
    by_place k h o r v (wrong i a) = refusing
    by_place k h o r v (more i a e m) = refusing
    by_place k h o r v (part i a success reads less) =
        keeping (record { completes = taken k h o r i; success = success; reads = reads; part = less; word = refl })
    by_place k h o r v (whole i a e enough all) = closing (taken k h o r i)
    by_place k h o r v (other i a e) = closing (taken k h o r i)

    by_packet : (p : Packet) → read_of s ≡ Accepted p → Step ws (completes s) (on_packet p ws)
    by_packet (Memory k h e a) r = refusing
    by_packet (Io k h e a) r = refusing
    by_packet (Config k h e t) r = refusing
    by_packet (Completion k h o) r = by_place k h o r _ (completed (key_for h) k h.length o.status ws)
    by_packet (Message k h routing code tail) r = refusing

    by_reading : (r : Reading) → read_of s ≡ r → Step ws (completes s) (completing_by r ws)
    by_reading (Unread n) r = refusing
    by_reading (Accepted p) r = by_packet p r

pub step_of : (c : Call) (ws : List ℕ) → Step ws c (verdict_of c ws)
step_of (opens s) ws = opening_step s ws
step_of (completes s) ws = completing_step s ws

-- a verdict's place is one of the ledger's
step_inside : (c : Call) (ws : List ℕ) (v : Verdict) → Step ws c v → Inside v (length ws)
step_inside c ws v (opening o) = o.inside
step_inside c ws v (keeping k) = k.completes.inside
step_inside c ws v (closing t) = t.inside
step_inside c ws v refusing = tt

pub opening_inside : (s ws : List ℕ) → Inside (opening_of s ws) (length ws)
opening_inside s ws = step_inside (opens s) ws (opening_of s ws) (step_of (opens s) ws)

pub completing_inside : (s ws : List ℕ) → Inside (completing_of s ws) (length ws)
completing_inside s ws = step_inside (completes s) ws (completing_of s ws) (step_of (completes s) ws)
