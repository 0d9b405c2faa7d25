-- The rule of configuration types, and what becomes of them on the last bus, are of configuration requests alone. Assumes nothing.
use Rattle.std.specs.Prelude.{◌≡◌, refl, false, ℕ}
use Rattle.std.proofs.Common.{suc-ne-zero}
use Rattle.packet.specs.declared.Packet.{Packet}
use Rattle.packet.specs.declared.Packet.TheVariants.{Memory, Io, Config, Completion, Message}
use Rattle.pools.specs.declared.Space.{Space}
use Rattle.claims.specs.declared.Aim.TheVariants.{Address, Id}
use Rattle.route_arrival.specs.declared.Heading.TheVariants.{Aimed, Up, Every, Port}
use Rattle.route_arrival.specs.Arrival.{heading_of, type_wrong, arrived}

-- looked for by no ID
abbrev pub NotById : Packet → Type 0
NotById p = (id : ℕ) → ¬ (heading_of p ≡ Aimed (Id id))

pub right_of_not_by_id : (p : Packet) → NotById p → (root : ℕ) → type_wrong root p ≡ false
right_of_not_by_id (Memory k h e a) other root = refl
right_of_not_by_id (Io k h e a) other root = refl
right_of_not_by_id (Config k h e t) other root = absurd (other t.id refl)
right_of_not_by_id (Completion k h o) other root = refl
right_of_not_by_id (Message k h routing code tail) other root = refl

pub unchanged_of_not_by_id : (p : Packet) → NotById p → arrived p ≡ p
unchanged_of_not_by_id (Memory k h e a) other = refl
unchanged_of_not_by_id (Io k h e a) other = refl
unchanged_of_not_by_id (Config k h e t) other = absurd (other t.id refl)
unchanged_of_not_by_id (Completion k h o) other = refl
unchanged_of_not_by_id (Message k h routing code tail) other = refl

-- ## What is looked for otherwise

module _ (p : Packet) where
  pub not_by_id_of_address : (space : Space) (address : ℕ) → heading_of p ≡ Aimed (Address space address) → NotById p
  not_by_id_of_address space address e id f = suc-ne-zero 0 (cc)

  pub not_by_id_of_up : heading_of p ≡ Up → NotById p
  not_by_id_of_up e id f = suc-ne-zero 0 (cc)

  pub not_by_id_of_every : heading_of p ≡ Every → NotById p
  not_by_id_of_every e id f = suc-ne-zero 0 (cc)

  pub not_by_id_of_port : heading_of p ≡ Port → NotById p
  not_by_id_of_port e id f = suc-ne-zero 0 (cc)
