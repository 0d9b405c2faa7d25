-- Who sends a packet, one step each in the words of the code. Assumes nothing.
use Rattle.std.specs.Prelude.{◌≡◌, refl, Bool, true, false, cond, ◌||◌, List, [], ◌∷◌, ℕ, ◌/◌, ◌%◌, eqb}
use Rattle.std.proofs.Common.{sym, ◌∙◌, suc-ne-zero}
use Rattle.std.proofs.Math.Path.{ap}
use mathlib.Core.List.Memᴰ
use borrow.Author.Tests.{eq-eqb, ne_eqb}
use Rattle.lists.specs.Lists.{◌∈◌, keep}
use Rattle.lists.specs.KeepLaws.{keep_elim}
use Rattle.packet.specs.declared.Packet.{Packet}
use Rattle.tlp.specs.declared.Reading.{Reading}
use Rattle.tlp.specs.declared.Reading.TheVariants.{Accepted, Refused as NotRead}
use Rattle.tlp.specs.Reading.{number_of as reading_number, read_of}
use Rattle.walk.specs.Registers as registers
use Rattle.walk.specs.Registers.{Node}
use Rattle.walk.specs.Tally as tallies
use Rattle.walk.specs.Ids.{has_id, first_of, tally_by_id}
use Rattle.sheet.specs.Sheet.{sheet_number}
use Rattle.sheet.specs.Spaces.{nodes_of}
use Rattle.claims.specs.declared.Aim.TheVariants.{Id}
use Rattle.claims.specs.declared.Claim.TheVariants.{Bar, Window}
use Rattle.claims.specs.declared.Tally.{Tally}
use Rattle.claims.specs.declared.Tally.TheVariants.{Nothing, One, Several}
use Rattle.claims.specs.Claims.{tally_of, tally_for}
use Rattle.route_sender.specs.declared.Sender.{Sender}
use Rattle.route_sender.specs.declared.Sender.TheVariants.{Host, Function}
use Rattle.route_sender.specs.declared.SentBy.TheVariants.{Told, Refused}
use Rattle.route_sender.specs.Sender.{named_by, starts_at_host, first_named, named_in, sender_of, from_sheet, from_reading, sent_by_of}

-- ## By the tally of the ID's own bus

abbrev by_tally : Tally → Sender
by_tally Nothing = Host
by_tally (One (Bar number)) = Function number
by_tally (One (Window number secondary)) = Host
by_tally Several = Host

abbrev by_claims : tallies.Tally → Sender
by_claims tallies.none = Host
by_claims (tallies.one (registers.bar number)) = Function number
by_claims (tallies.one (registers.window number secondary)) = Host
by_claims tallies.several = Host

by_tally_lem : (t : Tally) → by_tally t ≡ by_claims (tally_of t)
by_tally_lem Nothing = refl
by_tally_lem (One (Bar number)) = refl
by_tally_lem (One (Window number secondary)) = refl
by_tally_lem Several = refl

by_first : (ns : List Node) → by_claims (first_of ns) ≡ first_named ns
by_first [] = refl
by_first (n ∷ ns) = refl

module _ (s : List ℕ) (id bus : ℕ) (at : bus ≡ id / 256) (t : Tally) (e : tally_of t ≡ tally_for (Id id) s bus) where
  own_bus_lem : tally_by_id (nodes_of s) (id / 256) (id % 256) bus ≡ first_of (keep (has_id (id / 256) (id % 256)) (nodes_of s))
  unfolding tally_by_id
  own_bus_lem = rw (eq-eqb bus (id / 256) at)

  pub named_as : (x : Tally) → t ≡ x → by_tally x ≡ named_in s id
  named_as x q =
      ap by_tally (sym q) ∙ by_tally_lem t ∙ ap by_claims (e ∙ own_bus_lem) ∙ by_first (keep (has_id (id / 256) (id % 256)) (nodes_of s))

-- ## The host's own

module _ (host_id : ℕ) (p : Packet) (s : List ℕ) (id : ℕ) (named : id ≡ named_by p) (b : Bool) (own : b ≡ starts_at_host p) where
  pub sender_host : (b || eqb id host_id) ≡ true → Host ≡ sender_of host_id p s
  unfolding sender_of
  sender_host t = rw (← named, ← own, t)

  pub sender_named : (b || eqb id host_id) ≡ false → (r : Sender) → r ≡ named_in s id → r ≡ sender_of host_id p s
  unfolding sender_of
  sender_named t r q = q ∙ rw (← named, ← own, t)

-- a sender that is a function is in the sheet and has the ID that the packet names
pub record Named (s : List ℕ) (number id : ℕ) : Type 0 where
  pub function : Node
  pub in_sheet : function ∈ nodes_of s
  pub number_is : function.number ≡ number
  pub has_id_lem : has_id (id / 256) (id % 256) function ≡ true

pub named_elim : (host_id : ℕ) (p : Packet) (s : List ℕ) (number : ℕ) → sender_of host_id p s ≡ Function number → Named s number (named_by p)
unfolding sender_of
named_elim host_id p s number e =
    go (starts_at_host p || eqb (named_by p) host_id) (keep (has_id (named_by p / 256) (named_by p % 256)) (nodes_of s)) refl e
  where
    go : (t : Bool) (ns : List Node) → keep (has_id (named_by p / 256) (named_by p % 256)) (nodes_of s) ≡ ns
        → cond t Host (first_named ns) ≡ Function number → Named s number (named_by p)
    go true ns is e = absurd (suc-ne-zero 0 (cc))
    go false [] is e = absurd (suc-ne-zero 0 (cc))
    go false (n ∷ ns) is e =
        let there : n ∈ keep (has_id (named_by p / 256) (named_by p % 256)) (nodes_of s) = rw is (Memᴰ.head refl) in
        let (inside, has) = keep_elim (has_id (named_by p / 256) (named_by p % 256)) (nodes_of s) there in
        let number_is : n.number ≡ number = cc in
        record { function = n; in_sheet = inside; number_is = number_is; has_id_lem = has }

-- ## A header over a sheet

module _ (host_id : ℕ) (header s : List ℕ) (reading : Reading) (e : reading ≡ read_of header) where
  pub header_refused : (n m : ℕ) → reading ≡ NotRead n → m ≡ reading_number reading → Refused m ≡ sent_by_of host_id header s
  unfolding sent_by_of
  header_refused n m f g = ap Refused (g ∙ ap reading_number f) ∙ ap (λ (r : Reading). from_reading host_id r s) (sym f ∙ e)

  -- n is the sheet's number
  module _ (p : Packet) (f : reading ≡ Accepted p) (n : ℕ) (g : n ≡ sheet_number s) where
    header_accepted : from_sheet host_id p s ≡ sent_by_of host_id header s
    unfolding sent_by_of
    header_accepted = ap (λ (x : Reading). from_reading host_id x s) (sym f ∙ e)

    refused_by_sheet : ¬ (n ≡ 0) → Refused n ≡ from_sheet host_id p s
    unfolding from_sheet
    refused_by_sheet h = rw (← g, ne_eqb n 0 h)

    passed_by_sheet : n ≡ 0 → Told (sender_of host_id p s) ≡ from_sheet host_id p s
    unfolding from_sheet
    passed_by_sheet z = rw (← g, eq-eqb n 0 z)

    pub sheet_refused : ¬ (n ≡ 0) → Refused n ≡ sent_by_of host_id header s
    sheet_refused h = refused_by_sheet h ∙ header_accepted

    pub sender_told : n ≡ 0 → (x : Sender) → x ≡ sender_of host_id p s → Told x ≡ sent_by_of host_id header s
    sender_told z x q = ap Told q ∙ passed_by_sheet z ∙ header_accepted
