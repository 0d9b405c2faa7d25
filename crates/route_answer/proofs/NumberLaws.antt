-- What a packet comes to, whatever it is looked for in: 40, 42 or 43, every function, the port, or the outcome. A refusal is then one of 1
-- to 99 where every outcome's is. Assumes nothing.
use Rattle.std.specs.Prelude.{refl, ℕ, eqb}
use Rattle.refusals.specs.Refusals.{IsRefusal}
use Rattle.refusals.specs.RefusalsLaws.{refusal, either}
use Rattle.packet.specs.declared.Packet.{Packet}
use Rattle.walk.specs.Walk.{Outcome, delivered, refused, no_owner}
use Rattle.walk.proofs.NumberLaws.{NumberedOutcome}
use Rattle.claims.specs.declared.Aim.{Aim}
use Rattle.route_arrival.specs.declared.Heading.{Heading}
use Rattle.route_arrival.specs.declared.Heading.TheVariants.{Aimed, Up, Every, Port as ToPort}
use Rattle.route_arrival.specs.Arrival.{heading_of, type_wrong}
use Rattle.route_answer.specs.declared.Routing.{Routing}
use Rattle.route_answer.specs.declared.Routing.TheVariants.{Delivered, Broadcast, Port, Refused}
use Rattle.route_answer.specs.Routing.{wrong_type, answer, headed_over, typed_over, route_over}

module _ (P : Routing → Type 0) (functions bus : ℕ) (outcome : Aim → Outcome) (p : Packet)
    (refuses : (n : ℕ) → IsRefusal n → P (Refused n)) (to_every : P (Broadcast functions p)) (to_port : P (Port p))
    (looked_for : (aim : Aim) → P (answer p (outcome aim))) where
  headed : (h : Heading) → P (headed_over functions outcome h p)
  headed (Aimed aim) = looked_for aim
  headed Up = refuses 43 (refusal 43 refl)
  headed Every = to_every
  headed ToPort = to_port

  pub over_elim : P (route_over functions bus outcome p)
  over_elim =
      let onward = headed_over functions outcome (heading_of p) p in
      either P (eqb functions 0) (Refused no_owner) (typed_over functions bus outcome p) (refuses 40 (refusal 40 refl))
      (either P (type_wrong bus p) (Refused wrong_type) onward (refuses 42 (refusal 42 refl)) (headed (heading_of p)))

abbrev pub Numbered : Routing → Type 0
Numbered (Delivered d) = Unit {0}
Numbered (Broadcast functions p) = Unit {0}
Numbered (Port p) = Unit {0}
Numbered (Refused n) = IsRefusal n

numbered_answer : (p : Packet) (o : Outcome) → NumberedOutcome o → Numbered (answer p o)
numbered_answer p (delivered number crossed) h = tt
numbered_answer p (refused n) h = h

pub numbered_over : (functions bus : ℕ) (outcome : Aim → Outcome) → ((aim : Aim) → NumberedOutcome (outcome aim)) → (p : Packet)
    → Numbered (route_over functions bus outcome p)
numbered_over functions bus outcome numbered p =
    over_elim Numbered functions bus outcome p (λ n h. h) tt tt (λ aim. numbered_answer p (outcome aim) (numbered aim))
