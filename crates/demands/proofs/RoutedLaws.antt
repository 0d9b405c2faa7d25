-- From what the walk over a sheet comes to, what the router answers for a request: over a planned sheet (Demand3Laws) and over an accepted
-- one (AuditLaws). Assumes nothing.
use Rattle.std.specs.Prelude.{◌≡◌, refl, ◌⊎◌, ◌↔◌, Bool, List, [], ◌∷◌, reverse, ℕ, ◌≤◌, ◌<◌, length}
use Rattle.std.proofs.Common.{sym, ap, subst, ◌∙◌, inl, inr, suc-ne-zero, arith}
use Rattle.std.proofs.Math.Logic.Iff.{trans}
use Rattle.pairs.specs.declared.MessageRouting.TheVariants.{ToRoot, ByAddress, ById, Broadcast, Local, Gathered}
use Rattle.packet.specs.declared.Packet.{Packet}
use Rattle.packet.specs.declared.Packet.TheVariants.{Memory, Io, Config, Completion, Message}
use Rattle.tlp.specs.declared.Reading.TheVariants.{Accepted}
use Rattle.tlp.specs.Reading.{read_of}
use Rattle.pools.specs.declared.Space.{Space}
use Rattle.walk.specs.Registers.{Registers, nodes, root_of}
use Rattle.walk.specs.Tally.{tally_on}
use Rattle.walk.proofs.TallyLaws.{tally_nil}
use Rattle.walk.specs.Walk.{Outcome, delivered, refused, Trail}
use Rattle.walk.proofs.WalkLaws.{trail_unique}
use Rattle.walk.specs.Good.{FirstOn}
use Rattle.sheet.specs.Sheet.{sheet_number}
use Rattle.claims.specs.declared.Aim.TheVariants.{Address}
use Rattle.route_arrival.specs.declared.Heading.TheVariants.{Aimed}
use Rattle.route_arrival.specs.Arrival.{heading_of}
use Rattle.route_answer.specs.declared.Delivery.{Delivery}
use Rattle.route_answer.specs.declared.Routing.TheVariants.{Delivered}
use Rattle.route_answer.specs.Routing.{number_of as routing_number, answer}
use Rattle.route.specs.Route.{walked, root, route_of}
use Rattle.route.proofs.RequestLaws.{route_request, request_delivered_iff}
use Rattle.demands.specs.Demand3.{IsRequest, route_number, DeliveredTo, Crosses, Routed}

-- the router's aim of a request is its space and start address
pub aim_of_request : (p : Packet) (sp : Space) (address : ℕ) → IsRequest p sp address → heading_of p ≡ Aimed (Address sp address)
aim_of_request (Memory k h e a) sp address (in_memory, starts) = rw (in_memory, starts)
aim_of_request (Io k h e a) sp address (in_io, starts) = rw (in_io, starts)
aim_of_request (Config k h e t) sp address is = absurd is
aim_of_request (Completion k h o) sp address is = absurd is
aim_of_request (Message k h ToRoot code tail) sp address is = absurd is
aim_of_request (Message k h ByAddress code tail) sp address (in_memory, starts) = rw (in_memory, starts)
aim_of_request (Message k h ById code tail) sp address is = absurd is
aim_of_request (Message k h Broadcast code tail) sp address is = absurd is
aim_of_request (Message k h Local code tail) sp address is = absurd is
aim_of_request (Message k h Gathered code tail) sp address is = absurd is

-- a trail from the first bus is one from the bus of the first record: where there is no record, there is none
pub trail_from_root : (enabled : ℕ → Bool) (address first : ℕ) (rs : List Registers) → FirstOn first (nodes rs) → (ns : List ℕ) (k : ℕ)
    → Trail (tally_on enabled rs address) first ns k → Trail (tally_on enabled rs address) (root_of (nodes rs)) ns k
unfolding Trail
trail_from_root enabled address first [] on [] k e = let n = tally_nil enabled address first in absurd (suc-ne-zero 0 (cc))
trail_from_root enabled address first [] on (m ∷ ns) k (s, e, rest) = let n = tally_nil enabled address first in absurd (suc-ne-zero 0 (cc))
trail_from_root enabled address first (r ∷ rs) on ns k trail =
    subst (λ (bus : ℕ). Trail (tally_on enabled (r ∷ rs) address) bus ns k) (sym on) trail

-- what the walk over a sheet comes to
abbrev comes_to : List ℕ → Space → ℕ → Outcome
comes_to t sp address = walked (Address sp address) t (root t) 0

pub record Comes (Owner : ℕ → Type 0) (above : ℕ → List ℕ) (most : ℕ) (t : List ℕ) (sp : Space) (address : ℕ) : Type 0 where
  pub delivered_exactly : (k count : ℕ) → (comes_to t sp address ≡ delivered k count) ↔ (Owner k × (count ≡ length (above k)))
  pub else_no_owner : (comes_to t sp address ≡ refused 40) ↔ ((k : ℕ) → Owner k → ⊥)
  pub one_owner : (j k : ℕ) → Owner j → Owner k → j ≡ k
  pub crosses : (k : ℕ) → Owner k → Crosses (Address sp address) t (reverse (above k)) k
  pub few : (k : ℕ) → Owner k → length (above k) ≤ most

module _ (Owner : ℕ → Type 0) (above : ℕ → List ℕ) (most : ℕ) (t : List ℕ) (sp : Space) (address : ℕ) (passes : sheet_number t ≡ 0)
    (comes : Comes Owner above most t sp address) (header : List ℕ) (p : Packet) (read : read_of header ≡ Accepted p)
    (is : IsRequest p sp address) where
  abbrev outcome : Outcome
  outcome = comes_to t sp address

  aim : heading_of p ≡ Aimed (Address sp address)
  aim = aim_of_request p sp address is

  -- and so what the router answers
  route_is : route_of header t ≡ answer p outcome
  route_is = route_request sp address header t p read aim passes

  delivered_iff : (d : Delivery) → (route_of header t ≡ Delivered d) ↔ ((outcome ≡ delivered d.owner d.bridges) × (d.packet ≡ p))
  delivered_iff = request_delivered_iff sp address header t p read aim passes

  delivered_to : (k count : ℕ) → outcome ≡ delivered k count → DeliveredTo header t k
  delivered_to k count e =
      let d : Delivery = record { owner = k; bridges = count; packet = p } in (d, (delivered_iff d).1 (e, refl), refl)

  -- a number that is not 0 is the walk's
  number_iff_refused : (m : ℕ) → 0 < m → (route_number header t ≡ m) ↔ (outcome ≡ refused m)
  number_iff_refused m pos = (λ e. go outcome (sym (ap routing_number route_is) ∙ e), λ e. ap routing_number (route_is ∙ ap (answer p) e))
    where
      go : (o : Outcome) → routing_number (answer p o) ≡ m → o ≡ refused m
      go (delivered j c) e = absurd (omega arith)
      go (refused i) e = ap refused e

  owner_of : (d : Delivery) → route_of header t ≡ Delivered d → Owner d.owner × (d.bridges ≡ length (above d.owner))
  owner_of d e = (comes.delivered_exactly d.owner d.bridges).0 ((delivered_iff d).0 e).0

  delivered_of_owner : (k : ℕ) → Owner k → outcome ≡ delivered k (length (above k))
  delivered_of_owner k o = (comes.delivered_exactly k (length (above k))).1 (o, refl)

  -- a refused walk has no owner, and so the number 40
  owner_or_40 : (o : Outcome) → outcome ≡ o → ((k : ℕ) × DeliveredTo header t k) ⊎ (route_number header t ≡ 40)
  owner_or_40 (delivered k count) e = inl (k, delivered_to k count e)
  owner_or_40 (refused m) e = inr ((number_iff_refused 40 (omega arith)).1 (comes.else_no_owner.1 nobody))
    where
      nobody : (k : ℕ) → Owner k → ⊥
      nobody k o = let d = delivered_of_owner k o in suc-ne-zero 0 (cc)

  crosses : (d : Delivery) → route_of header t ≡ Delivered d → Crosses (Address sp address) t (reverse (above d.owner)) d.owner
  crosses d e = comes.crosses d.owner (owner_of d e).0

  pub routed : Routed Owner above most t header p sp address
  routed =
      record {
        delivered_exactly = λ k. (
          λ (d, e, is_k). subst Owner is_k (owner_of d e).0,
          λ o. delivered_to k (length (above k)) (delivered_of_owner k o),
        );
        else_no_owner = trans (number_iff_refused 40 (omega arith)) comes.else_no_owner;
        delivered_or_40 = owner_or_40 outcome refl;
        one_owner = comes.one_owner;
        arrives_unchanged = λ d e. ((delivered_iff d).0 e).1;
        crosses_exactly = λ d e bridges. (
          λ trail. (trail_unique _ _ _ _ _ _ trail (crosses d e)).0,
          λ those. rw those (crosses d e),
        );
        count_reported = λ d e. let o = owner_of d e in (o.1, omega (arith, o.1, comes.few d.owner o.0));
      }
