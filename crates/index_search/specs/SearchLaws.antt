-- Where an index finds what the router's walk over a sheet comes to, the search answers as the router does, and so are its lists. Assumes
-- nothing.
use Rattle.std.specs.Prelude.{◌≡◌, List, ℕ, ◌<◌, length}
use Rattle.std.proofs.Math.Path.{refl, sym, ap}
use Rattle.std.proofs.Common.{◌∙◌, eq-eqb}
use Rattle.packet.specs.declared.Packet.{Packet}
use Rattle.tlp.specs.declared.Reading.{Reading}
use Rattle.tlp.specs.declared.Reading.TheVariants.{Accepted, Refused as NotRead}
use Rattle.tlp.specs.Reading.{read_of}
use Rattle.sheet.specs.Sheet.{sheet_number}
use Rattle.sheet.specs.Spaces.{nodes_of}
use Rattle.claims.specs.declared.Aim.{Aim}
use Rattle.route_answer.specs.declared.Routing.{Routing}
use Rattle.route_answer.specs.Routing.{route_over}
use Rattle.route_answer.specs.Listed.{on_room, listed_after}
use Rattle.route_answer.proofs.OnwardLaws.{route_agree}
use Rattle.route.specs.Route.{walked, root, route_packet, from_sheet, route_of, from_reading as from_reading_over}
use Rattle.route.proofs.RouteLaws.{packet_over}
use Rattle.route.specs.Listed.{list_after}
use Rattle.route.proofs.ListedLaws.{listed_over_sheet}
use Rattle.index_search.specs.Search.{functions_in, root_in, outcome_in, search_packet, from_reading, search_of}

-- an index of a sheet: as many functions, the same root bus if there are any, and what the walk from it comes to
pub record IndexOf (ix s : List ℕ) : Type 0 where
  pub functions_are : functions_in ix ≡ length (nodes_of s)
  pub root_is : 0 < functions_in ix → root_in ix ≡ root s
  pub outcomes_are : (aim : Aim) → outcome_in ix aim ≡ walked aim s (root s) 0

module _ (ix s : List ℕ) (of : IndexOf ix s) where
  -- a packet over a sheet that passes its checks
  pub search_packet_agrees : (p : Packet) → search_packet p ix ≡ route_packet p s
  unfolding search_packet
  search_packet_agrees p =
      route_agree (functions_in ix) (root_in ix) (root s) (λ aim. outcome_in ix aim) (λ aim. walked aim s (root s) 0) of.root_is
      of.outcomes_are p
      ∙ ap (λ (n : ℕ). route_over n (root s) (λ aim. walked aim s (root s) 0) p) of.functions_are
      ∙ sym (packet_over p s)

  -- a header over it
  module _ (passes : sheet_number s ≡ 0) where
    pub search_agrees : (header : List ℕ) → search_of header ix ≡ route_of header s
    unfolding search_of route_of from_sheet
    search_agrees header = go (read_of header)
      where
        go : (r : Reading) → from_reading r ix ≡ from_reading_over r s
        go (Accepted p) = search_packet_agrees p ∙ rw (eq-eqb (sheet_number s) 0 passes)
        go (NotRead n) = refl

    module _ (header list : List ℕ) where
      abbrev found : Routing
      found = on_room (search_of header ix) (length list)

      abbrev routed : Routing
      routed = on_room (route_of header s) (length list)

      -- with a lent slice: the answer, and what the slice holds after
      pub search_listed_agrees : (found ≡ routed) × (listed_after found list ≡ list_after routed s list)
      search_listed_agrees =
          let same : found ≡ routed = ap (λ (r : Routing). on_room r (length list)) (search_agrees header) in
          (same, ap (λ (r : Routing). listed_after r list) same ∙ listed_over_sheet header s list)
