-- Who sends a packet, from each sentence of "The sender"; and that a refusal is one of 1 to 99. Assumes nothing.
use Rattle.std.specs.Prelude.{◌≡◌, Bool, ◌||◌, List, ℕ, ◌/◌, ◌%◌}
use Rattle.std.proofs.Math.Path.{refl}
use Rattle.std.proofs.Math.Bool.{true, false, cond}
use mathlib.Mathlib.Data.Bool.Basic.{eq-false_of_not-eq-true}
use Rattle.std.proofs.Math.Dec.{eqb}
use borrow.Author.Tests.{eq-eqb, ne_eqb}
use Rattle.lists.specs.Lists.{◌∈◌}
use Rattle.lists.specs.ListLaws.{all_intro}
use Rattle.lists.specs.KeepLaws.{keep_none, keep_only}
use Rattle.refusals.specs.Refusals.{IsRefusal}
use Rattle.refusals.specs.RefusalsLaws.{unless_zero}
use Rattle.packet.specs.declared.Packet.{Packet}
use Rattle.tlp.specs.declared.Reading.{Reading}
use Rattle.tlp.specs.declared.Reading.TheVariants.{Accepted, Refused as NotRead}
use Rattle.tlp.specs.Reading.{read_of}
use Rattle.tlp.specs.NumberLaws.{NumberedReading, numbered_read}
use Rattle.walk.specs.Registers.{Node}
use Rattle.walk.specs.Ids.{has_id, DistinctIds, HasId}
use Rattle.walk.proofs.IdsLaws.{has_id_elim, never_both_ids}
use Rattle.sheet.specs.Sheet.{sheet_number}
use Rattle.sheet.specs.Spaces.{nodes_of}
use Rattle.sheet.proofs.NumberLaws.{sheet_number_lem}
use Rattle.route_sender.specs.declared.Sender.TheVariants.{Host, Function}
use Rattle.route_sender.specs.declared.SentBy.{SentBy}
use Rattle.route_sender.specs.declared.SentBy.TheVariants.{Told, Refused}
use Rattle.route_sender.specs.Sender.{named_by, starts_at_host, named_in, sender_of, from_sheet, from_reading, sent_by_of}

-- ## The sender

module _ (host_id : ℕ) (p : Packet) (s : List ℕ) where
  pub host_only : starts_at_host p ≡ true → sender_of host_id p s ≡ Host
  unfolding sender_of
  host_only e = rw e

  pub host_named : named_by p ≡ host_id → sender_of host_id p s ≡ Host
  unfolding sender_of
  host_named e = go (starts_at_host p)
    where
      go : (b : Bool) → cond (b || eqb (named_by p) host_id) Host (named_in s (named_by p)) ≡ Host
      go true = refl
      go false = rw (eq-eqb (named_by p) host_id e)

  pub nobody_named : ((n : Node) → ¬ HasId (named_by p / 256) (named_by p % 256) (nodes_of s) n) → sender_of host_id p s ≡ Host
  unfolding sender_of
  nobody_named none =
      rw (keep_none (has_id (named_by p / 256) (named_by p % 256)) (nodes_of s) (all_intro _ (nodes_of s) lacks))
      (go (starts_at_host p || eqb (named_by p) host_id))
    where
      lacks : (n : Node) → n ∈ nodes_of s → has_id (named_by p / 256) (named_by p % 256) n ≡ false
      lacks n m =
          eq-false_of_not-eq-true (λ h.
          let (at, same) = has_id_elim (named_by p / 256) (named_by p % 256) n h in
          none n (record { in_sheet = m; bus_is = at; devfn_is = same }))

      go : (b : Bool) → cond b Host Host ≡ Host
      go true = refl
      go false = refl

  pub function_named : DistinctIds (nodes_of s) → starts_at_host p ≡ false → ¬ (named_by p ≡ host_id)
      → (n : Node) → HasId (named_by p / 256) (named_by p % 256) (nodes_of s) n → sender_of host_id p s ≡ Function n.number
  unfolding sender_of
  function_named distinct e other n h =
      rw (
        e,
        ne_eqb (named_by p) host_id other,
        keep_only (has_id (named_by p / 256) (named_by p % 256)) (never_both_ids (named_by p / 256) (named_by p % 256)) (nodes_of s) distinct
            h.in_sheet (has n h.bus_is h.devfn_is),
      )
    where
      has : (n : Node) → n.bus ≡ named_by p / 256 → n.devfn ≡ named_by p % 256 → has_id (named_by p / 256) (named_by p % 256) n ≡ true
      has n at same = rw (eq-eqb n.bus (named_by p / 256) at, eq-eqb n.devfn (named_by p % 256) same)

-- ## A header over a sheet

module _ (host_id : ℕ) (header s : List ℕ) where
  pub header_first : (n : ℕ) → read_of header ≡ NotRead n → sent_by_of host_id header s ≡ Refused n
  unfolding sent_by_of
  header_first n e = rw e

  module _ (p : Packet) (read : read_of header ≡ Accepted p) where
    pub sheet_next : ¬ (sheet_number s ≡ 0) → sent_by_of host_id header s ≡ Refused (sheet_number s)
    unfolding sent_by_of from_sheet
    sheet_next h = rw (read, ne_eqb (sheet_number s) 0 h)

    pub told : sheet_number s ≡ 0 → sent_by_of host_id header s ≡ Told (sender_of host_id p s)
    unfolding sent_by_of from_sheet
    told z = rw (read, eq-eqb (sheet_number s) 0 z)

-- ## A refusal's number

abbrev pub Numbered : SentBy → Type 0
Numbered (Told x) = Unit {0}
Numbered (Refused n) = IsRefusal n

pub numbered_sender : (host_id : ℕ) (header s : List ℕ) → Numbered (sent_by_of host_id header s)
unfolding sent_by_of from_sheet
numbered_sender host_id header s = go (read_of header) (numbered_read header)
  where
    go : (r : Reading) → NumberedReading r → Numbered (from_reading host_id r s)
    go (Accepted p) h =
        unless_zero Numbered (sheet_number s) (Told (sender_of host_id p s)) (Refused (sheet_number s)) (sheet_number_lem s) tt (λ h. h)
    go (NotRead n) h = h
