-- A header over a sheet: refused with 1 to 99, or a packet over a sheet that passes its checks. Assumes nothing.
use Rattle.std.specs.Prelude.{◌≡◌, refl, Bool, true, false, cond, List, ℕ, length, eqb}
use Rattle.std.proofs.Common.{arith, eqb-true}
use Rattle.std.proofs.lemmas.Bool.{eqb-false}
use Rattle.refusals.specs.Refusals.{IsRefusal}
use Rattle.packet.specs.declared.Packet.{Packet}
use Rattle.tlp.specs.declared.Reading.{Reading}
use Rattle.tlp.specs.declared.Reading.TheVariants.{Accepted, Refused as NotRead}
use Rattle.tlp.specs.Reading.{read_of}
use Rattle.tlp.specs.NumberLaws.{NumberedReading, numbered_read}
use Rattle.walk.proofs.NumberLaws.{numbered_walk}
use Rattle.sheet.specs.Sheet.{sheet_number}
use Rattle.sheet.proofs.SheetLaws.{Checked, checked_of_zero}
use Rattle.sheet.proofs.NumberLaws.{sheet_number_lem}
use Rattle.sheet.specs.Spaces.{nodes_of}
use Rattle.claims.specs.Claims.{tally_for}
use Rattle.route_answer.specs.declared.Routing.{Routing}
use Rattle.route_answer.specs.declared.Routing.TheVariants.{Refused}
use Rattle.route_answer.proofs.NumberLaws.{Numbered, numbered_over}
use Rattle.route.specs.Route.{walked, root, from42, route_packet, from_sheet, from_reading, route_of}

-- what holds of every refusal, and of each packet over a sheet that passes, holds of a header over it
pub route_elim : (P : Routing → Type 0) (header s : List ℕ) → ((n : ℕ) → IsRefusal n → P (Refused n))
    → ((p : Packet) → Checked s → P (route_packet p s)) → P (route_of header s)
unfolding route_of from_sheet
route_elim P header s refuses routes = by_reading (read_of header) (numbered_read header)
  where
    by_sheet : (p : Packet) (b : Bool) → eqb (sheet_number s) 0 ≡ b → P (cond b (route_packet p s) (Refused (sheet_number s)))
    by_sheet p true e = routes p (checked_of_zero s (eqb-true (sheet_number s) 0 e))
    by_sheet p false e = refuses (sheet_number s) (omega (arith, eqb-false (sheet_number s) 0 e), sheet_number_lem s)

    by_reading : (r : Reading) → NumberedReading r → P (from_reading r s)
    by_reading (Accepted p) h = by_sheet p (eqb (sheet_number s) 0) refl
    by_reading (NotRead n) h = refuses n h

numbered_packet : (p : Packet) (s : List ℕ) → Numbered (route_packet p s)
unfolding route_packet from42
numbered_packet p s =
    numbered_over (length (nodes_of s)) (root s) (λ aim. walked aim s (root s) 0) (λ aim. numbered_walk (tally_for aim s) (root s) 0) p

pub numbered_route : (header s : List ℕ) → Numbered (route_of header s)
numbered_route header s = route_elim Numbered header s (λ n h. h) (λ p c. numbered_packet p s)
