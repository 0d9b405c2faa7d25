-- A refusal of a packet by ID, or of one that only travels up, is one of 1 to 99. Assumes nothing.
use Rattle.std.proofs.Math.Path.{refl}
use Rattle.std.specs.Prelude.{Bool, true, false, cond, List, [], ◌∷◌, eqb}
use Prim.Native.Nat.{ℕ, zero, suc, ◌+◌, ◌/◌, ◌%◌}
use Rattle.refusals.specs.Refusals.{IsRefusal}
use Rattle.refusals.specs.RefusalsLaws.{refusal, either}
use Rattle.walk.specs.Registers.{Node, bar, window}
use Rattle.walk.specs.Tally.{Tally, none, one, several}
use Rattle.walk.specs.Walk.{no_owner, walk_from}
use Rattle.walk.specs.Above.{bridges_to}
use Rattle.walk.specs.Ids.{tally_by_id}
use Rattle.walk.specs.Climb.{Up, to_host, across, halts, Sent, stops, settle_up, go_up, climb_over, climb_from, climb_beside}
use Rattle.walk.proofs.NumberLaws.{NumberedSent, numbered_walk}
use Rattle.climb_ids.specs.ById.{tally_beside_by_id, up_past, up_unless, buses_hold, never, nothing, climb_by_id, sent_to_other, sent_up, sent_by_id}

abbrev NumberedUp : Up → Type 0
NumberedUp to_host = Unit {0}
NumberedUp (across number bus) = Unit {0}
NumberedUp (halts n) = IsRefusal n

numbered_unless : (stays : Node → Bool) (ns : List Node) (root bus : ℕ) → NumberedUp (up_unless stays ns root bus)
unfolding up_unless
numbered_unless stays ns root bus = go (eqb bus root) (bridges_to bus ns)
  where
    go : (t : Bool) (bs : List Node) → NumberedUp (cond t to_host (up_past stays bs))
    go true bs = tt
    go false [] = refusal 40 refl
    go false (b ∷ []) = either NumberedUp (stays b) (halts no_owner) (across b.number b.bus) (refusal 40 refl) tt
    go false (b ∷ c ∷ bs) = refusal 41 refl

-- one bus, whatever it is looked for by
module _ (tally : ℕ → Tally) (crossed : ℕ) (next : ℕ → ℕ → Sent) (later : (number b : ℕ) → NumberedSent (next number b)) where
  numbered_onward : (u : Up) → NumberedUp u → NumberedSent (go_up u crossed next)
  numbered_onward to_host h = tt
  numbered_onward (across number b) h = later number b
  numbered_onward (halts k) h = h

  numbered_bus : (t : Tally) (u : Up) → NumberedUp u
      → NumberedSent (settle_up t crossed (λ b. walk_from tally b (crossed + 1)) (go_up u crossed next))
  numbered_bus none u h = numbered_onward u h
  numbered_bus several u h = refusal 41 refl
  numbered_bus (one (bar k)) u h = tt
  numbered_bus (one (window k secondary)) u h = numbered_walk tally secondary (crossed + 1)

module _ (tally : ℕ → Tally) (up : ℕ → Up) (numbered : (bus : ℕ) → NumberedUp (up bus)) where
  numbered_beside : (beside : ℕ → ℕ → Tally) (n came bus crossed : ℕ) → NumberedSent (climb_beside tally up beside n came bus crossed)
  unfolding climb_beside
  numbered_beside beside zero came bus crossed = refusal 40 refl
  numbered_beside beside (suc n) came bus crossed =
      numbered_bus tally crossed (λ number b. climb_beside tally up beside n number b (crossed + 1))
      (λ number b. numbered_beside beside n number b (crossed + 1)) (beside came bus) (up bus) (numbered bus)

  numbered_over : (n bus crossed : ℕ) → NumberedSent (climb_over tally up n bus crossed)
  unfolding climb_over
  numbered_over zero bus crossed = refusal 40 refl
  numbered_over (suc n) bus crossed =
      numbered_bus tally crossed (λ number b. climb_over tally up n b (crossed + 1)) (λ number b. numbered_over n b (crossed + 1)) (tally bus)
      (up bus) (numbered bus)

numbered_to_other : (ns : List Node) (root number own id : ℕ) → NumberedSent (sent_to_other ns root number own id)
unfolding sent_to_other climb_by_id
numbered_to_other ns root number own id =
    let tally = tally_by_id ns (id / 256) (id % 256) in
    let up = up_unless (buses_hold (id / 256)) ns root in
    let beside = tally_beside_by_id ns (id / 256) (id % 256) number in
    either NumberedSent (eqb id own) (stops no_owner) (climb_beside tally up beside (suc (own / 256)) 0 (own / 256) 0) (refusal 40 refl)
    (numbered_beside tally up (numbered_unless (buses_hold (id / 256)) ns root) beside (suc (own / 256)) 0 (own / 256) 0)

pub numbered_up : (ns : List Node) (root own : ℕ) → NumberedSent (sent_up ns root own)
unfolding sent_up climb_from
numbered_up ns root own =
    numbered_over nothing (up_unless never ns root) (numbered_unless never ns root) (suc (own / 256)) (own / 256) 0

pub numbered_by_id : (host_id : ℕ) (ns : List Node) (root number own id : ℕ) → NumberedSent (sent_by_id host_id ns root number own id)
unfolding sent_by_id
numbered_by_id host_id ns root number own id =
    either NumberedSent (eqb id host_id) (sent_up ns root own) (sent_to_other ns root number own id) (numbered_up ns root own)
    (numbered_to_other ns root number own id)
