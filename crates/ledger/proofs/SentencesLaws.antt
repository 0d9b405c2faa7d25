-- The numbers of the two calls and what they close, by the keys that are open and the headers that opened them. Assumes nothing.
use Rattle.std.specs.Prelude.{Option, Some, None, ◌≡◌, refl, ◌↔◌, Bool, false, List, ◌∷◌, ℕ, ◌+◌, ◌*◌, ◌-◌, ◌≤◌, ◌<◌, length, get_or, set, ltb}
use Rattle.std.proofs.Common.{sym, ap, ◌∙◌, true≢false, arith, length-set, get_or-set_same, get_or-set_other}
use Rattle.std.proofs.Math.Bool.{true}
use Rattle.std.proofs.Math.Dec.{eqb}
use borrow.Author.Tests.{eq-eqb, eqb-true, eqb-false, ltb-true, ltb-false}
use Rattle.endian.specs.Endian.{Bytes}
use Rattle.pairs.specs.declared.CompletionKind.{CompletionKind as Completing}
use Rattle.packet.specs.declared.Head.{Head}
use Rattle.packet.specs.declared.Outcome.{Outcome}
use Rattle.packet.specs.declared.Packet.{Packet}
use Rattle.packet.specs.declared.Packet.TheVariants.{Memory, Io, Config, Completion, Message}
use Rattle.packet.specs.Fields.{kind_of, head_of}
use Rattle.packet.proofs.VerdictLaws.{head_of_lawful}
use Rattle.tlp.specs.declared.Reading.TheVariants.{Accepted, Refused as Unread}
use Rattle.tlp.specs.Reading.{read_of}
use Rattle.tlp.specs.RoundTrip.{read_lawful}
use Rattle.ledger.specs.declared.Verdict.{Verdict}
use Rattle.ledger.specs.declared.Verdict.TheVariants.{Opened, Kept, Closed, Refused}
use Rattle.ledger.specs.Kinds.{kind_completes, kind_reads, kind_configures, kind_locks}
use Rattle.ledger.specs.Words.{word_of, key_in, left_in, is_read, is_config, is_locked, place_of, in_use}
use Rattle.ledger.proofs.PlacesLaws.{place_holds, place_before, place_none, place_of_key, full_of_none, none_of_full, key_in_less}
use Rattle.ledger.specs.Ledger.{class_of, key_for, on_request, on_class, opening_of, on_packet, disagrees, on_completion, completing_of}
use Rattle.ledger.specs.Ledger.{open_number, complete_number, complete_after, number_of, words_after}
use Rattle.ledger.proofs.LedgerLaws.{opening_unread, completing_unread, opening_accepted, completing_accepted}
use Rattle.ledger.specs.History.{Call, opens, completes, header_of, verdict_of, after, key_is, key_by, dwords_by, succeeds_by}
use Rattle.ledger.specs.History.{delivered_by, opener_of, delivered}
use Rattle.ledger.specs.Standing.{Headers, IsOpen, IsNew, Asks, Answers, OpenFor, mismatch_for, Closes}
use Rattle.ledger.proofs.StepLaws.{Requested, held, full, placed, requested}
use Rattle.ledger.proofs.StepLaws.{Completed, missing, wrong, more, part, whole, other, completed, word_at}
use Rattle.ledger.proofs.StepLaws.{Opens, Completes, Step, opening, closing, step_of}
use Rattle.ledger.proofs.HistoryLaws.{key_not_zero}
use Rattle.ledger.proofs.StandingLaws.{standing}

class_not_other : {n : ℕ} → Some n ≡ None → ⊥
class_not_other e = let z : ◌≡◌ {A = ℕ} 0 1 = cc in omega arith

-- ## The reader's number, and 60

pub unread_first : (c : Call) (ws : List ℕ) (n : ℕ) → read_of (header_of c) ≡ Unread n → number_of (verdict_of c ws) ≡ n
unread_first (opens s) ws n e = sym (ap number_of (opening_unread s ws (Unread n) (sym e) n n refl refl))
unread_first (completes s) ws n e = sym (ap number_of (completing_unread s ws (Unread n) (sym e) n n refl refl))

module _ (ws s : List ℕ) (p : Packet) (read : read_of s ≡ Accepted p) where
  opening_read : opening_of s ws ≡ on_class (class_of (kind_of p)) (head_of p) ws
  opening_read = sym (opening_accepted s ws (read_of s) refl p read (head_of p) (kind_of p) (class_of (kind_of p)) _ refl refl refl refl)

  pub no_request : (open_number s ws ≡ 60) ↔ (class_of (kind_of p) ≡ None)
  no_request = rw opening_read (by_class (class_of (kind_of p)))
    where
      by_place : (key word n : ℕ) (v : Verdict) → Requested key word ws v → (number_of v ≡ 60) ↔ (Some n ≡ None)
      by_place key word n v (held h) = (λ e. absurd (omega arith), λ e. absurd (class_not_other e))
      by_place key word n v (full x y) = (λ e. absurd (omega arith), λ e. absurd (class_not_other e))
      by_place key word n v (placed x y) = (λ e. absurd (omega arith), λ e. absurd (class_not_other e))

      by_class : (class : Option ℕ) → (number_of (on_class class (head_of p) ws) ≡ 60) ↔ (class ≡ None)
      by_class (Some n) = by_place (key_is p) _ n _ (requested (key_is p) (word_of (key_is p) (head_of p).length n) ws)
      by_class None = (λ e. refl, λ e. refl)

  pub no_completion : (complete_number s ws ≡ 60) ↔ (kind_completes (kind_of p) ≡ false)
  no_completion = rw (sym (completing_accepted s ws (read_of s) refl p read _ refl)) (by_packet p)
    where
      by_place : (key : ℕ) (k : Completing) (dwords status : ℕ) (v : Verdict) → Completed key k dwords status ws v
          → (number_of v ≡ 60) ↔ (true ≡ false)
      by_place key k dwords status v (missing n) = (λ e. absurd (omega arith), λ e. absurd (true≢false e))
      by_place key k dwords status v (wrong i d) = (λ e. absurd (omega arith), λ e. absurd (true≢false e))
      by_place key k dwords status v (more i d t m) = (λ e. absurd (omega arith), λ e. absurd (true≢false e))
      by_place key k dwords status v (part i d t r m) = (λ e. absurd (omega arith), λ e. absurd (true≢false e))
      by_place key k dwords status v (whole i d t m r) = (λ e. absurd (omega arith), λ e. absurd (true≢false e))
      by_place key k dwords status v (other i d t) = (λ e. absurd (omega arith), λ e. absurd (true≢false e))

      by_packet : (q : Packet) → (number_of (on_packet q ws) ≡ 60) ↔ (kind_completes (kind_of q) ≡ false)
      by_packet (Memory k h e a) = (λ x. refl, λ x. refl)
      by_packet (Io k h e a) = (λ x. refl, λ x. refl)
      by_packet (Config k h e t) = (λ x. refl, λ x. refl)
      by_packet (Completion k h o) = by_place (key_for h) k h.length o.status _ (completed (key_for h) k h.length o.status ws)
      by_packet (Message k h routing code tail) = (λ x. refl, λ x. refl)

-- ## Openings

module _ (ws s : List ℕ) (p : Packet) (a : Asks s p) where
  abbrev word : ℕ
  word = word_of (key_is p) (head_of p).length a.class

  opening_asks : opening_of s ws ≡ on_request (key_is p) word ws
  opening_asks =
      sym (opening_accepted s ws (read_of s) refl p a.read (head_of p) (kind_of p) _ _ refl refl (sym a.non_posted) refl)

  pub held_iff : (open_number s ws ≡ 61) ↔ IsOpen (key_is p) ws
  held_iff = rw opening_asks (go _ (requested (key_is p) word ws))
    where
      go : (v : Verdict) → Requested (key_is p) word ws v → (number_of v ≡ 61) ↔ IsOpen (key_is p) ws
      go v (held h) = (λ e. (place_of (key_is p) ws, place_holds (key_is p) ws h), λ i. refl)
      go v (full n f) = (λ e. absurd (omega arith), λ i. absurd (place_none (key_is p) ws n (key_not_zero p) i.0 i.1))
      go v (placed n f) = (λ e. absurd (omega arith), λ i. absurd (place_none (key_is p) ws n (key_not_zero p) i.0 i.1))

  pub full_iff : (open_number s ws ≡ 62) ↔ (IsNew (key_is p) ws × (in_use ws ≡ length ws))
  full_iff = rw opening_asks (go _ (requested (key_is p) word ws))
    where
      go : (v : Verdict) → Requested (key_is p) word ws v
          → (number_of v ≡ 62) ↔ (IsNew (key_is p) ws × (in_use ws ≡ length ws))
      go v (held h) = (λ e. absurd (omega arith), λ n. absurd (n.0 (place_of (key_is p) ws, place_holds (key_is p) ws h)))
      go v (full n f) =
          (λ e. (λ i. place_none (key_is p) ws n (key_not_zero p) i.0 i.1, full_of_none ws f), λ i. refl)
      go v (placed n f) = (λ e. absurd (omega arith), λ i. absurd (omega (arith, none_of_full ws i.1, f)))

  pub opened_else : IsNew (key_is p) ws → in_use ws < length ws → open_number s ws ≡ 0
  opened_else new room = rw opening_asks (go _ (requested (key_is p) word ws))
    where
      go : (v : Verdict) → Requested (key_is p) word ws v → number_of v ≡ 0
      go v (held h) = absurd (new (place_of (key_is p) ws, place_holds (key_is p) ws h))
      go v (full n f) = absurd (omega (arith, full_of_none ws f))
      go v (placed n f) = refl

-- ## Completions

key_some : (h : Head) → key_for h ≡ 0 → ⊥
key_some h e = omega (arith, e)

kept_not_closed : {i w j : ℕ} → Kept i w ≡ Closed j → ⊥
kept_not_closed e = let z : ◌≡◌ {A = ℕ} 0 1 = cc in omega arith

accepted_same : {p q : Packet} → Accepted p ≡ Accepted q → p ≡ q
accepted_same e = cc

-- what the place of an open key holds
record HeldFor (w : ℕ) (p : Packet) (given : ℕ) : Type 0 where
  pub reads : is_read w ≡ kind_reads (kind_of p)
  pub configures : is_config w ≡ kind_configures (kind_of p)
  pub locks : is_locked w ≡ kind_locks (kind_of p)
  pub left : left_in w + given ≡ (head_of p).length

held_for : (cs : List Call) → Headers cs → (h : Head) (p : Packet) → OpenFor (key_for h) p cs
    → HeldFor (word_at (key_for h) (after cs)) p (delivered (key_for h) cs)
held_for cs headers h p o =
    let ws = after cs in
    let w = word_at (key_for h) ws in
    let inside = place_of_key (key_for h) ws o.is_open.0 o.is_open.1 (key_some h) in
    let key : key_in w ≡ key_for h = place_holds (key_for h) ws inside in
    let holds = (standing cs headers).each (place_of (key_for h) ws) (λ e. key_some h (sym key ∙ e)) in
    let opener : read_of (opener_of (key_in w) cs) ≡ Accepted p = ap (λ (k : ℕ). read_of (opener_of k cs)) key ∙ o.opener in
    let same = accepted_same (sym holds.read ∙ opener) in
    let given : delivered (key_in w) cs ≡ delivered (key_for h) cs = ap (λ (k : ℕ). delivered k cs) key in
    record {
      reads = holds.reads ∙ ap (λ (q : Packet). kind_reads (kind_of q)) same;
      configures = holds.configures ∙ ap (λ (q : Packet). kind_configures (kind_of q)) same;
      locks = holds.locks ∙ ap (λ (q : Packet). kind_locks (kind_of q)) same;
      left = omega (arith, holds.left, given, ap (λ (q : Packet). (head_of q).length) same);
    }

module _ (ws s : List ℕ) (k : Completing) (h : Head) (o : Outcome) (a : Answers s k h o) where
  completing_answers : completing_of s ws ≡ on_completion (key_for h) k h.length o.status ws
  completing_answers = sym (completing_accepted s ws (read_of s) refl (Completion k h o) a _ refl)

  pub missing_iff : (complete_number s ws ≡ 63) ↔ IsNew (key_for h) ws
  missing_iff = rw completing_answers (go _ (completed (key_for h) k h.length o.status ws))
    where
      there : {X : Type 0} → place_of (key_for h) ws < length ws → IsNew (key_for h) ws → X
      there i new = absurd (new (place_of (key_for h) ws, place_holds (key_for h) ws i))

      go : (v : Verdict) → Completed (key_for h) k h.length o.status ws v → (number_of v ≡ 63) ↔ IsNew (key_for h) ws
      go v (missing n) = (λ e i. place_none (key_for h) ws n (key_some h) i.0 i.1, λ i. refl)
      go v (wrong i d) = (λ e. absurd (omega arith), there i)
      go v (more i d t m) = (λ e. absurd (omega arith), there i)
      go v (part i d t r m) = (λ e. absurd (omega arith), there i)
      go v (whole i d t m r) = (λ e. absurd (omega arith), there i)
      go v (other i d t) = (λ e. absurd (omega arith), there i)

  pub other_closes : (o.status ≡ 0 → ⊥) → complete_number s ws ≡ 0 → Closes s h ws
  other_closes failed = rw completing_answers (go _ (completed (key_for h) k h.length o.status ws))
    where
      go : (v : Verdict) → Completed (key_for h) k h.length o.status ws v → number_of v ≡ 0 → v ≡ Closed (place_of (key_for h) ws)
      go v (missing n) e = absurd (omega arith)
      go v (wrong i d) e = absurd (omega arith)
      go v (more i d t m) e = absurd (omega arith)
      go v (part i d t r m) e = absurd (failed (eqb-true o.status 0 t))
      go v (whole i d t m r) e = refl
      go v (other i d t) e = refl

-- ## Completions of an open key, by the header that opened it

module _ (cs : List Call) (headers : Headers cs) (s : List ℕ) (k : Completing) (h : Head) (o : Outcome) (p : Packet) (a : Answers s k h o)
    (f : OpenFor (key_for h) p cs) where
  abbrev ws : List ℕ
  ws = after cs

  holds : HeldFor (word_at (key_for h) ws) p (delivered (key_for h) cs)
  holds = held_for cs headers h p f

  disagrees_for : disagrees (word_at (key_for h) ws) k o.status ≡ mismatch_for (kind_of p) k o.status
  unfolding disagrees
  disagrees_for = rw (holds.reads, holds.configures, holds.locks)

  -- the key is open
  not_missing : {X : Type 0} → length ws ≤ place_of (key_for h) ws → X
  not_missing n = absurd (place_none (key_for h) ws n (key_some h) f.is_open.0 f.is_open.1)

  pub mismatch_iff : (complete_number s ws ≡ 64) ↔ (mismatch_for (kind_of p) k o.status ≡ true)
  mismatch_iff = rw (completing_answers ws s k h o a, ← disagrees_for) (go _ (completed (key_for h) k h.length o.status ws))
    where
      agreed : {X : Type 0} → disagrees (word_at (key_for h) ws) k o.status ≡ false
          → disagrees (word_at (key_for h) ws) k o.status ≡ true → X
      agreed d e = absurd (true≢false (sym e ∙ d))

      go : (v : Verdict) → Completed (key_for h) k h.length o.status ws v
          → (number_of v ≡ 64) ↔ (disagrees (word_at (key_for h) ws) k o.status ≡ true)
      go v (missing n) = not_missing n
      go v (wrong i d) = (λ e. d, λ e. refl)
      go v (more i d t m) = (λ e. absurd (omega arith), agreed d)
      go v (part i d t r m) = (λ e. absurd (omega arith), agreed d)
      go v (whole i d t m r) = (λ e. absurd (omega arith), agreed d)
      go v (other i d t) = (λ e. absurd (omega arith), agreed d)

  pub more_iff : mismatch_for (kind_of p) k o.status ≡ false
      → (complete_number s ws ≡ 65) ↔ ((o.status ≡ 0) × ((head_of p).length < delivered (key_for h) cs + h.length))
  more_iff agrees = rw (completing_answers ws s k h o a) (go _ (completed (key_for h) k h.length o.status ws))
    where
      go : (v : Verdict) → Completed (key_for h) k h.length o.status ws v
          → (number_of v ≡ 65) ↔ ((o.status ≡ 0) × ((head_of p).length < delivered (key_for h) cs + h.length))
      go v (missing n) = not_missing n
      go v (wrong i d) = absurd (true≢false (sym d ∙ disagrees_for ∙ agrees))
      go v (more i d t m) = (λ e. (eqb-true o.status 0 t, omega (arith, m, holds.left)), λ e. refl)
      go v (part i d t r m) = (λ e. absurd (omega arith), λ e. absurd (omega (arith, e.1, m, holds.left)))
      go v (whole i d t m r) = (λ e. absurd (omega arith), λ e. absurd (omega (arith, e.1, m, holds.left)))
      go v (other i d t) = (λ e. absurd (omega arith), λ e. absurd (true≢false (sym (eq-eqb o.status 0 e.0) ∙ t)))

  pub write_closes : kind_reads (kind_of p) ≡ false → o.status ≡ 0 → complete_number s ws ≡ 0 → Closes s h ws
  write_closes write success = rw (completing_answers ws s k h o a) (go _ (completed (key_for h) k h.length o.status ws))
    where
      go : (v : Verdict) → Completed (key_for h) k h.length o.status ws v → number_of v ≡ 0 → v ≡ Closed (place_of (key_for h) ws)
      go v (missing n) e = absurd (omega arith)
      go v (wrong i d) e = absurd (omega arith)
      go v (more i d t m) e = absurd (omega arith)
      go v (part i d t r m) e = absurd (true≢false (sym r ∙ holds.reads ∙ write))
      go v (whole i d t m r) e = refl
      go v (other i d t) e = refl

  pub read_closes : kind_reads (kind_of p) ≡ true → o.status ≡ 0 → complete_number s ws ≡ 0
      → Closes s h ws ↔ (delivered (key_for h) (completes s ∷ cs) ≡ (head_of p).length)
  unfolding delivered
  read_closes reads success = rw (completing_answers ws s k h o a) (go _ (completed (key_for h) k h.length o.status ws))
    where
      here : eqb (key_by (read_of s)) (key_for h) ≡ true
      here = eq-eqb (key_by (read_of s)) (key_for h) (ap key_by a)

      taken : succeeds_by (read_of s) ≡ true
      taken = ap succeeds_by a ∙ eq-eqb o.status 0 success

      dwords : dwords_by (read_of s) ≡ h.length
      dwords = ap dwords_by a

      go : (v : Verdict) → Completed (key_for h) k h.length o.status ws v → number_of v ≡ 0
          → (v ≡ Closed (place_of (key_for h) ws)) ↔ (delivered_by (key_for h) (completes s) v (delivered (key_for h) cs) ≡ (head_of p).length)
      go v (missing n) e = absurd (omega arith)
      go v (wrong i d) e = absurd (omega arith)
      go v (more i d t m) e = absurd (omega arith)
      go v (part i d t r m) e =
          rw (here, taken) (λ q. absurd (kept_not_closed q), λ q. absurd (omega (arith, q, m, holds.left, dwords)))
      go v (whole i d t m r) e = rw (here, taken) (λ q. omega (arith, m, r (holds.reads ∙ reads), holds.left, dwords), λ q. refl)
      go v (other i d t) e = absurd (true≢false (sym (eq-eqb o.status 0 success) ∙ t))

-- ## What a completion closes

module _ (cs : List Call) (headers : Headers cs) (h : Head) (inside : place_of (key_for h) (after cs) < length (after cs)) where
  abbrev there : ℕ
  there = place_of (key_for h) (after cs)

  key_there : key_in (get_or (after cs) there 0) ≡ key_for h
  key_there = place_holds (key_for h) (after cs) inside

  -- the place freed, its key is open no more: it had no other
  freed_new : IsNew (key_for h) (set (after cs) there 0)
  freed_new (j, e) = go (eqb j there) refl
    where
      go : (b : Bool) → eqb j there ≡ b → ⊥
      go true x =
          let same : get_or (set (after cs) there 0) j 0 ≡ get_or (set (after cs) there 0) there 0 =
          ap (λ (n : ℕ). get_or (set (after cs) there 0) n 0) (eqb-true j there x) in
          key_some h (sym e ∙ ap key_in (same ∙ get_or-set_same (after cs) there 0 0 inside))
      go false x =
          let key : key_in (get_or (after cs) j 0) ≡ key_for h =
          sym (ap key_in (get_or-set_other (after cs) there j 0 0 (eqb-false j there x))) ∙ e in
          eqb-false j there x (sym ((standing cs headers).one there j (λ z. key_some h (sym key_there ∙ z)) (key_there ∙ sym key)))

  -- a part of a read taken, its key is still open
  kept_open : (dwords : ℕ) → dwords ≤ left_in (get_or (after cs) there 0)
      → IsOpen (key_for h) (set (after cs) there (get_or (after cs) there 0 - 8 * dwords))
  kept_open dwords enough =
      let w = get_or (after cs) there 0 in
      (there, ap key_in (get_or-set_same (after cs) there (w - 8 * dwords) 0 inside) ∙ key_in_less w dwords enough ∙ key_there)

pub closes_iff : (cs : List Call) → Headers cs → (s : List ℕ) (k : Completing) (h : Head) (o : Outcome) → Answers s k h o
    → complete_number s (after cs) ≡ 0 → Closes s h (after cs) ↔ IsNew (key_for h) (after (completes s ∷ cs))
unfolding after
closes_iff cs headers s k h o a =
    rw (completing_answers (after cs) s k h o a) (go _ (completed (key_for h) k h.length o.status (after cs)))
  where
    go : (v : Verdict) → Completed (key_for h) k h.length o.status (after cs) v → number_of v ≡ 0
        → (v ≡ Closed (place_of (key_for h) (after cs))) ↔ IsNew (key_for h) (words_after v (after cs))
    go v (missing n) e = absurd (omega arith)
    go v (wrong i d) e = absurd (omega arith)
    go v (more i d t m) e = absurd (omega arith)
    go v (part i d t r m) e =
        (λ q. absurd (kept_not_closed q), λ new. absurd (new (kept_open cs headers h i h.length (omega (arith, m)))))
    go v (whole i d t m r) e = (λ q. freed_new cs headers h i, λ q. refl)
    go v (other i d t) e = (λ q. freed_new cs headers h i, λ q. refl)

-- ## Places that were freed

completes_of : {s ws : List ℕ} {i : ℕ} → Step ws (completes s) (Closed i) → Completes s ws i
completes_of (closing t) = t

opens_of : {s ws : List ℕ} {i w : ℕ} → Step ws (opens s) (Opened i w) → Opens s ws i w
opens_of (opening o) = o

module _ (ws s t : List ℕ) (i : ℕ) (e : completing_of s ws ≡ Closed i) where
  freed : complete_after s ws ≡ set ws i 0
  freed = rw e

  freed_inside : i < length ws
  freed_inside = (completes_of (rw e at (step_of (completes s) ws))).inside

  free_there : key_in (get_or (set ws i 0) i 0) ≡ 0
  free_there = ap key_in (get_or-set_same ws i 0 0 freed_inside)

  pub freed_room : (p : Packet) → Asks t p → open_number t (complete_after s ws) ≡ 62 → ⊥
  freed_room p a q =
      let full = none_of_full (set ws i 0) ((full_iff (set ws i 0) t p a).0 (rw freed at q)).1 in
      place_before 0 (set ws i 0) i (omega (arith, full, freed_inside, length-set ws i 0)) free_there

  pub freed_again : (j w : ℕ) → opening_of t (complete_after s ws) ≡ Opened j w → j ≤ i
  freed_again j w q =
      let o = opens_of (rw (rw freed at q) at (step_of (opens t) (set ws i 0))) in
      go (ltb i j) refl o.first
    where
      go : (b : Bool) → ltb i j ≡ b → j ≡ place_of 0 (set ws i 0) → j ≤ i
      go true h first = absurd (place_before 0 (set ws i 0) i (omega (arith, ltb-true i j h, first)) free_there)
      go false h first = ltb-false i j h

-- ## Keys, and what a refused call leaves

pub keys_differ : (s t : List ℕ) (p q : Packet) → Bytes s → Bytes t → read_of s ≡ Accepted p → read_of t ≡ Accepted q
    → key_is p ≡ key_is q → ((head_of p).requester ≡ (head_of q).requester) × ((head_of p).tag ≡ (head_of q).tag)
keys_differ s t p q bs bt rs rt same =
    let l = read_lawful s p bs rs in
    let m = read_lawful t q bt rt in
    let a = head_of_lawful l.0 p l.1 in
    let b = head_of_lawful m.0 q m.1 in
    (omega (arith, a.tag, b.tag, same), omega (arith, a.tag, b.tag, same))

pub refused_same : (v : Verdict) (ws : List ℕ) → (number_of v ≡ 0 → ⊥) → words_after v ws ≡ ws
refused_same (Opened i w) ws h = absurd (h refl)
refused_same (Kept i w) ws h = absurd (h refl)
refused_same (Closed i) ws h = absurd (h refl)
refused_same (Refused n) ws h = refl
