-- From C: by an index that cartsundial_index or cartsundial_index_sound left, cartsundial_find answers what cartsundial_route does over the
-- sheet. Assumes nothing.
use Rattle.std.specs.Prelude.{ℕ, ◌≡◌, List, length}
use Rattle.std.proofs.Common.{ap, ◌∙◌}
use Rattle.endian.specs.Endian.{Bytes}
use Rattle.route_list.specs.Counted.{counted}
use Rattle.route_answer.specs.declared.Routing.{Routing}
use Rattle.route.specs.Route.{route_of}
use Rattle.index_search.specs.Search.{search_of}
use Rattle.index_build.specs.Build.{build_number, sound_build_number, index_after, sound_index_after}
use Rattle.index_build.proofs.BuiltLaws.{search_is_route, sound_search_is_route}
use Rattle.capi_routing.specs.Routing.{on_routing}
use Rattle.capi_find.specs.Calls.{find_answer}
use Rattle.capi_route.specs.Calls.{route_answer}
use Rattle.capi_route.specs.CallsLaws.{answer_over_sheet}

-- where an index finds what the router answers over a sheet, the two calls answer the same
find_agrees : (header ix s : List ℕ) → search_of header ix ≡ route_of header s → find_answer header ix ≡ route_answer header s
find_agrees header ix s e = ap (λ (r : Routing). on_routing r (counted 1)) e ∙ answer_over_sheet header s

-- the index that a build left finds every header as the router does over its sheet: number, record, bridges, packet and list
pub find_is_route : (host s slice header : List ℕ) → Bytes host → Bytes s → build_number host s (length slice) ≡ 0
    → find_answer header (index_after host s slice) ≡ route_answer header s
find_is_route host s slice header host_bytes_lem bytes done =
    find_agrees header (index_after host s slice) s (search_is_route host s slice host_bytes_lem bytes done header)

pub sound_find_is_route : (host s slice header : List ℕ) → Bytes host → Bytes s → sound_build_number host s (length slice) ≡ 0
    → find_answer header (sound_index_after host s slice) ≡ route_answer header s
sound_find_is_route host s slice header host_bytes_lem bytes done =
    find_agrees header (sound_index_after host s slice) s (sound_search_is_route host s slice host_bytes_lem bytes done header)
