-- The checks before a packet is looked for, one step each in the words of the code; what an engine answers by them; and that two who look
-- for it alike answer alike. Assumes nothing.
use Rattle.std.specs.Prelude.{◌≡◌, refl, Bool, true, false, cond, ℕ, ◌<◌, eqb}
use Rattle.std.proofs.Common.{sym, ap, ◌∙◌, arith, eq-eqb, ne_eqb}
use Rattle.std.proofs.lemmas.Bool.{eqb-false}
use Rattle.packet.specs.declared.Packet.{Packet}
use Rattle.walk.specs.Walk.{Outcome, delivered, no_owner}
use Rattle.claims.specs.declared.Aim.{Aim}
use Rattle.route_arrival.specs.declared.Heading.{Heading}
use Rattle.route_arrival.specs.declared.Heading.TheVariants.{Aimed, Up, Every, Port as ToPort}
use Rattle.route_arrival.specs.Arrival.{heading_of, type_wrong, arrived}
use Rattle.route_answer.specs.declared.Routing.{Routing}
use Rattle.route_answer.specs.declared.Routing.TheVariants.{Delivered, Refused}
use Rattle.route_answer.specs.declared.Next.{Next}
use Rattle.route_answer.specs.declared.Next.TheVariants.{Aimed as LookedFor, Answered}
use Rattle.route_answer.specs.Routing.{number_of, wrong_type, arrives, answer, headed_over, typed_over, route_over, answer_by, Goes}

-- ## The checks

module _ (p : Packet) (functions bus : ℕ) where
  pub no_functions : functions ≡ 0 → Goes p functions bus (Answered (Refused 40))
  no_functions z outcome = rw (eq-eqb functions 0 z)

  -- b is the test of the packet's type
  module _ (some : ¬ (functions ≡ 0)) (b : Bool) (t : b ≡ type_wrong bus p) where
    pub wrong_type_lem : b ≡ true → Goes p functions bus (Answered (Refused 42))
    wrong_type_lem y outcome = rw (ne_eqb functions 0 some, ← t, y)

    -- h is where it is headed
    pub headed_as : b ≡ false → (h : Heading) → h ≡ heading_of p → (x : Heading) → h ≡ x → (outcome : Aim → Outcome)
        → headed_over functions outcome x p ≡ route_over functions bus outcome p
    headed_as right h headed x e outcome =
        ap (λ (y : Heading). headed_over functions outcome y p) (sym e ∙ headed) ∙ rw (ne_eqb functions 0 some, ← t, right)

-- ## An engine's answer

-- a packet with no functions is not looked for
pub some_functions : (p : Packet) (functions bus : ℕ) (aim : Aim) → Goes p functions bus (LookedFor aim) → ¬ (functions ≡ 0)
some_functions p functions bus aim goes z =
    let found = goes (λ a. delivered 0 0) ∙ sym (no_functions p functions bus z (λ a. delivered 0 0)) in
    omega (arith, ap number_of found)

-- o is what is left of the packet, and `whole` what the engine answers
module _ (p : Packet) (functions bus : ℕ) (o : Next) (goes : Goes p functions bus o) (outcome : Aim → Outcome) {whole : Routing}
    (over : route_over functions bus outcome p ≡ whole) where
  left_as : (x : Next) → o ≡ x → answer_by outcome p x ≡ whole
  left_as x e = ap (answer_by outcome p) (sym e) ∙ goes outcome ∙ over

  pub answered : (r : Routing) → o ≡ Answered r → r ≡ whole
  answered r e = left_as (Answered r) e

  -- r is the answer for what it is looked for by
  pub looked_for : (aim : Aim) → o ≡ LookedFor aim → (r : Routing) → r ≡ answer p (outcome aim) → r ≡ whole
  looked_for aim e r f = f ∙ left_as (LookedFor aim) e

pub delivered_as : (p q : Packet) (owner bridges : ℕ) → q ≡ arrived p
    → Delivered (record { owner = owner; bridges = bridges; packet = q }) ≡ Delivered (arrives p owner bridges)
delivered_as p q owner bridges e = ap (λ (x : Packet). Delivered (record { owner = owner; bridges = bridges; packet = x })) e

-- ## Two who route alike: as many functions, the same root bus if there are any, and the same outcomes

module _ (functions bus bus₂ : ℕ) (outcome outcome₂ : Aim → Outcome) (same_bus : 0 < functions → bus ≡ bus₂)
    (same_outcome : (aim : Aim) → outcome aim ≡ outcome₂ aim) (p : Packet) where
  headed_agree : (h : Heading) → headed_over functions outcome h p ≡ headed_over functions outcome₂ h p
  headed_agree (Aimed aim) = ap (answer p) (same_outcome aim)
  headed_agree Up = refl
  headed_agree Every = refl
  headed_agree ToPort = refl

  typed_agree : 0 < functions → typed_over functions bus outcome p ≡ typed_over functions bus₂ outcome₂ p
  typed_agree some =
      ap (λ (b : ℕ). cond (type_wrong b p) (Refused wrong_type) (headed_over functions outcome (heading_of p) p)) (same_bus some)
      ∙ ap (cond (type_wrong bus₂ p) (Refused wrong_type)) (headed_agree (heading_of p))

  pub route_agree : route_over functions bus outcome p ≡ route_over functions bus₂ outcome₂ p
  route_agree = go (eqb functions 0) refl
    where
      go : (b : Bool) → eqb functions 0 ≡ b
          → cond b (Refused no_owner) (typed_over functions bus outcome p) ≡ cond b (Refused no_owner) (typed_over functions bus₂ outcome₂ p)
      go true e = refl
      go false e = typed_agree (let n = eqb-false functions 0 e in omega (arith, n))
