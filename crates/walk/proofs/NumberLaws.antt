-- What a walk comes to: refused with 40 or 41, or delivered where a bus has one claim and it is a BAR's; and a request from a function that
-- is refused, with 1 to 99. Assumes nothing.
use Rattle.std.specs.Prelude.{◌≡◌, Bool, true, false, cond, List, [], ◌∷◌, eqb}
use Rattle.std.proofs.Math.Path.{refl}
use Prim.Native.Nat.{ℕ, zero, suc, ◌+◌}
use Rattle.refusals.specs.Refusals.{IsRefusal}
use Rattle.refusals.specs.RefusalsLaws.{refusal, either}
use Rattle.walk.specs.Registers.{Registers, bar, window}
use Rattle.walk.specs.Tally.{Tally, none, one, several, tally_on}
use Rattle.walk.specs.Walk.{Outcome, delivered, refused, no_owner, contested, settle, walk_over, walk_from}
use Rattle.walk.specs.Climb.{Up, to_host, across, halts, not_master, leading_to, bar_holds, window_holds, up_through, up_from}
use Rattle.walk.specs.Climb.{Sent, arrives, leaves, stops, sent_of, settle_up, go_up, climb_beside, tally_beside, from_bus, send_from}

-- ## The walk

-- what holds of both refusals and of each such delivery holds of the walk
module _ (P : Outcome → Type 0) (tally : ℕ → Tally) (nobody : P (refused no_owner)) (two : P (refused contested))
    (owned : (bus number crossed : ℕ) → tally bus ≡ one (bar number) → P (delivered number crossed)) where
  over_elim : (n bus crossed : ℕ) → P (walk_over n tally bus crossed)
  unfolding walk_over
  over_elim zero bus crossed = nobody
  over_elim (suc n) bus crossed = go (tally bus) refl (λ b. over_elim n b (crossed + 1))
    where
      go : (t : Tally) → tally bus ≡ t → ((b : ℕ) → P (walk_over n tally b (crossed + 1)))
          → P (settle t crossed (λ b. walk_over n tally b (crossed + 1)))
      go none e next = nobody
      go several e next = two
      go (one (bar number)) e next = owned bus number crossed e
      go (one (window number secondary)) e next = next secondary

  pub walk_elim : (bus crossed : ℕ) → P (walk_from tally bus crossed)
  unfolding walk_from
  walk_elim bus crossed = over_elim 256 bus crossed

abbrev pub NumberedSent : Sent → Type 0
NumberedSent (arrives number count) = Unit {0}
NumberedSent (leaves count) = Unit {0}
NumberedSent (stops n) = IsRefusal n

abbrev pub NumberedOutcome : Outcome → Type 0
NumberedOutcome o = NumberedSent (sent_of o)

pub numbered_walk : (tally : ℕ → Tally) (bus crossed : ℕ) → NumberedOutcome (walk_from tally bus crossed)
numbered_walk tally = walk_elim NumberedOutcome tally (refusal 40 refl) (refusal 41 refl) (λ bus number crossed e. tt)

-- ## A request from a function

abbrev NumberedUp : Up → Type 0
NumberedUp to_host = Unit {0}
NumberedUp (across number bus) = Unit {0}
NumberedUp (halts n) = IsRefusal n

numbered_up : (master : ℕ → Bool) (fs : List Registers) (address root bus : ℕ) → NumberedUp (up_from master fs address root bus)
unfolding up_from
numbered_up master fs address root bus = go (eqb bus root) (leading_to bus fs)
  where
    through : (w m : Bool) (number own : ℕ) → NumberedUp (cond w (halts 40) (cond m (across number own) (halts not_master)))
    through true m number own = refusal 40 refl
    through false true number own = tt
    through false false number own = refusal 44 refl

    go : (t : Bool) (bs : List Registers) → NumberedUp (cond t to_host (up_through master address bs))
    go true bs = tt
    go false [] = refusal 40 refl
    go false (b ∷ []) = through (window_holds address b) (master b.node.number) b.node.number b.node.bus
    go false (b ∷ c ∷ bs) = refusal 41 refl

module _ (tally : ℕ → Tally) (up : ℕ → Up) (beside : ℕ → ℕ → Tally) (numbered : (bus : ℕ) → NumberedUp (up bus)) where
  numbered_climb : (n came bus crossed : ℕ) → NumberedSent (climb_beside tally up beside n came bus crossed)
  unfolding climb_beside
  numbered_climb zero came bus crossed = refusal 40 refl
  numbered_climb (suc n) came bus crossed =
      go (beside came bus) (up bus) (numbered bus) (λ number b. numbered_climb n number b (crossed + 1))
    where
      next : ℕ → ℕ → Sent
      next number b = climb_beside tally up beside n number b (crossed + 1)

      onward : (u : Up) → NumberedUp u → ((number b : ℕ) → NumberedSent (next number b)) → NumberedSent (go_up u crossed next)
      onward to_host h later = tt
      onward (across number b) h later = later number b
      onward (halts k) h later = h

      go : (t : Tally) (u : Up) → NumberedUp u → ((number b : ℕ) → NumberedSent (next number b))
          → NumberedSent (settle_up t crossed (λ b. walk_from tally b (crossed + 1)) (go_up u crossed next))
      go none u h later = onward u h later
      go several u h later = refusal 41 refl
      go (one (bar k)) u h later = tt
      go (one (window k secondary)) u h later = numbered_walk tally secondary (crossed + 1)

pub numbered_send : (enabled master : ℕ → Bool) (fs : List Registers) (address root : ℕ) (f : Registers)
    → NumberedSent (send_from enabled master fs address root f)
unfolding send_from from_bus
numbered_send enabled master fs address root f =
    let tally = tally_on enabled fs address in
    let beside = tally_beside enabled fs address f.node.number in
    let up = up_from master fs address root in
    let climb = climb_beside tally up beside (suc f.node.bus) 0 f.node.bus 0 in
    let held = cond (bar_holds address f) (stops no_owner) climb in
    either NumberedSent (master f.node.number) held (stops not_master)
    (either NumberedSent (bar_holds address f) (stops no_owner) climb (refusal 40 refl)
    (numbered_climb tally up beside (numbered_up master fs address root) (suc f.node.bus) 0 f.node.bus 0))
    (refusal 44 refl)
