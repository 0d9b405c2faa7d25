-- What becomes of a header over a sheet, check by check: the header's number, the sheet's, 45, and then the climb from the record's
-- function. Assumes nothing.
use Rattle.std.specs.Prelude.{◌≡◌, refl, ◌⊎◌, Bool, true, false, Option, Some, None, List, ℕ, eqb, leb, length}
use Rattle.std.proofs.Common.{sym, ap, ◌∙◌, inl, inr, arith}
use borrow.Author.Tests.{eq-eqb, ne_eqb, eqb-true, eqb-false, leb-true, leb-false}
use Rattle.packet.specs.declared.Packet.{Packet}
use Rattle.tlp.specs.declared.Reading.TheVariants.{Accepted, Refused as NotRead}
use Rattle.tlp.specs.Reading.{read_of}
use Rattle.pools.specs.declared.Space.{Space}
use Rattle.walk.specs.Climb.{nowhere, start_at, send_from}
use Rattle.sheet_record.specs.Entry.{header_of, is_bridge}
use Rattle.sheet.specs.Sheet.{entries_of, sheet_number}
use Rattle.sheet.specs.Spaces.{registers_of, enabled_of, master_of}
use Rattle.sheet.proofs.SheetLaws.{Checked, checked_of_zero}
use Rattle.route.specs.Route.{root}
use Rattle.route_cards.specs.declared.Sending.TheVariants.{Refused}
use Rattle.route_cards.specs.Sending.{request_of, answer, no_start, send_request, on_request, send_packet, from_sheet, sending_of}
use Rattle.route_cards.specs.Search.{part_of, function_at, IsRecord, IsType0}
use Rattle.route_cards.specs.RecordLaws.{start_of_type_0, told_0, told_past, told}

-- a record is a type 0 function of the sheet, or nothing starts there
pub type_0_or_nowhere : (s : List ℕ) → Checked s → (k : ℕ) → IsType0 s k ⊎ ((space : Space) → start_at (registers_of space s) k ≡ nowhere)
type_0_or_nowhere s c k = go (eqb k 0) refl (leb k (length (entries_of s))) refl (is_bridge (header_of (part_of s k))) refl
  where
    go : (z : Bool) → eqb k 0 ≡ z → (l : Bool) → leb k (length (entries_of s)) ≡ l → (b : Bool) → is_bridge (header_of (part_of s k)) ≡ b
        → IsType0 s k ⊎ ((space : Space) → start_at (registers_of space s) k ≡ nowhere)
    go true e l f b g = inr ((told_0 s c k (eqb-true k 0 e)).no refl)
    go false e false f b g = inr ((told_past s c k (length (entries_of s)) refl (leb-false k (length (entries_of s)) f)).no refl)
    go false e true f b g =
        let some : k ≡ 0 → ⊥ = eqb-false k 0 e in
        let here : IsRecord s k = record { from_1 = omega (arith, some); in_sheet = leb-true k (length (entries_of s)) f } in
        by_type here b g
      where
        by_type : IsRecord s k → (b : Bool) → is_bridge (header_of (part_of s k)) ≡ b
            → IsType0 s k ⊎ ((space : Space) → start_at (registers_of space s) k ≡ nowhere)
        by_type here false g = inl (record { is_record = here; no_bridge = g })
        by_type here true g = inr ((told s c k here (part_of s k) refl true (sym g)).no refl)

module _ (k : ℕ) (header s : List ℕ) where
  pub header_first : (n : ℕ) → read_of header ≡ NotRead n → sending_of k header s ≡ Refused n
  unfolding sending_of
  header_first n e = rw e

  module _ (p : Packet) (read : read_of header ≡ Accepted p) where
    pub sheet_next : ¬ (sheet_number s ≡ 0) → sending_of k header s ≡ Refused (sheet_number s)
    unfolding sending_of from_sheet
    sheet_next h = rw (read, ne_eqb (sheet_number s) 0 h)

    module _ (passes : sheet_number s ≡ 0) where
      packet_next : sending_of k header s ≡ on_request k p s (request_of p)
      unfolding sending_of from_sheet send_packet
      packet_next = rw (read, eq-eqb (sheet_number s) 0 passes)

      pub other_45 : request_of p ≡ None → sending_of k header s ≡ Refused no_start
      other_45 e = packet_next ∙ ap (on_request k p s) e

      pub no_start_45 : ¬ IsType0 s k → sending_of k header s ≡ Refused no_start
      no_start_45 h = packet_next ∙ by_request (request_of p)
        where
          by_request : (r : Option (Space × ℕ)) → on_request k p s r ≡ Refused no_start
          by_request None = refl
          by_request (Some (space, address)) = go (type_0_or_nowhere s (checked_of_zero s passes) k)
            where
              go : IsType0 s k ⊎ ((space : Space) → start_at (registers_of space s) k ≡ nowhere)
                  → send_request p s space address (start_at (registers_of space s) k) ≡ Refused no_start
              go (inl type_0) = absurd (h type_0)
              go (inr none_there) = ap (send_request p s space address) (none_there space)

      -- from the function on
      pub request_sent : (space : Space) (address : ℕ) → request_of p ≡ Some (space, address) → IsType0 s k
          → sending_of k header s
          ≡ answer p (send_from (enabled_of space s) (master_of s) (registers_of space s) address (root s) (function_at space s k))
      request_sent space address e type_0 =
          packet_next ∙ ap (on_request k p s) e
          ∙ ap (send_request p s space address) (start_of_type_0 s (checked_of_zero s passes) space k type_0)
