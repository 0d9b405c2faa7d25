-- Document 02, E8, "Fast labels", in the request's sentences, over the number and the bytes of the build and the answers of search and
-- router. Bytes are what a slice of u8 holds. "On a slice the build did not leave, the search still ends, its answer fixed by the bytes" is
-- the contract of `index_search::search`, `search_of` for any bytes; that speed is "measured", docs/BENCHMARK.md. `fast_labels` of
-- FastLabelsLaws proves the rest. Assumes nothing.
use Rattle.std.specs.Prelude.{◌≡◌, ◌↔◌, List, ℕ, ◌<◌, ◌≤◌, length, get_or}
use Rattle.endian.specs.Endian.{Bytes}
use Rattle.sheet.specs.Sheet.{entries_of}
use Rattle.route.specs.Route.{route_of}
use Rattle.route_answer.specs.Listed.{on_room, listed_after}
use Rattle.route.specs.Listed.{list_after}
use Rattle.audit_rule.specs.Audit.{audit_number}
use Rattle.audit_rule.specs.Accepted.{Accepted}
use Rattle.index_layout.specs.Places.{index_size}
use Rattle.index_search.specs.Search.{search_of}
use Rattle.index_build.specs.Build.{build_number, index_after}
use Rattle.trace.specs.declared.Trace.{Trace}
use Rattle.trace.specs.Feed.{fed_of, fed_put}
use Rattle.trace_line.specs.declared.Finder.TheVariants.{Index}
use Rattle.trace_line.specs.Line.{line_over}
use Rattle.trace_line.specs.Finder.{line_by}
use Rattle.requests.specs.Trace.{told}

-- "The index takes 1,024 bytes and 256 a function"
abbrev pub index_bytes : List ℕ → ℕ
index_bytes s = index_size (length (entries_of s))

-- an index was built, in a slice that held `room`
abbrev pub IsBuilt : List ℕ → List ℕ → List ℕ → Type 0
IsBuilt host s room = build_number host s (length room) ≡ 0

-- A lent slice for a broadcast's list, after the search and after the router: the same answer, and the same numbers in the slice
abbrev pub ListedAlike : List ℕ → List ℕ → List ℕ → List ℕ → Type 0
ListedAlike header index s list =
    let found = on_room (search_of header index) (length list) in
    let routed = on_room (route_of header s) (length list) in
    (found ≡ routed) × (listed_after found list ≡ list_after routed s list)

-- a piece of a trace fed by an index and over a sheet: the same number, bytes of lines and state after it, and the same bytes in the room
abbrev pub FedAlike : List ℕ → List ℕ → Trace → List ℕ → List ℕ → Type 0
FedAlike index s t piece out =
    (fed_of (line_by Index index) t piece (length out) ≡ fed_of (line_over s) t piece (length out))
    × (fed_put (line_by Index index) t piece out ≡ fed_put (line_over s) t piece out)

-- The sentences, over what an index is built by: a verdict's number, what its 0 says, the number of the build and the bytes that it leaves
pub record LabelsBy (verdict : List ℕ → List ℕ → ℕ) (Yes : List ℕ → List ℕ → Type 0) (number : List ℕ → List ℕ → ℕ → ℕ)
    (after : List ℕ → List ℕ → List ℕ → List ℕ) : Type 0 where
  -- "an index in a lent slice, built once from a host record and a sheet that E6 accepts": exactly then, in room enough
  pub built_exactly : (host s room : List ℕ) → Bytes s → (number host s (length room) ≡ 0) ↔ (Yes host s × (index_bytes s ≤ length room))
  -- "For such a sheet and every header its whole answer equals the router's, number, record, bridge count, packet ..": one equation
  pub answers_equal : (host s room : List ℕ) → Bytes host → Bytes s → number host s (length room) ≡ 0
      → (header : List ℕ) → search_of header (after host s room) ≡ route_of header s
  -- ".. and list together."
  pub lists_equal : (host s room : List ℕ) → Bytes host → Bytes s → number host s (length room) ≡ 0
      → (header list : List ℕ) → ListedAlike header (after host s room) s list
  -- So a trace is labelled alike, E4's sentences and all: from a fresh state, "wherever the cuts fall", with the end's line ..
  pub traces_equal : (host s room : List ℕ) → Bytes host → Bytes s → number host s (length room) ≡ 0
      → (pieces : List (List ℕ)) → told (line_by Index (after host s room)) pieces ≡ told (line_over s) pieces
  -- .. and each piece, fed in any state and any room
  pub pieces_equal : (host s room : List ℕ) → Bytes host → Bytes s → number host s (length room) ≡ 0
      → (t : Trace) (piece out : List ℕ) → FedAlike (after host s room) s t piece out
  -- "A sheet that E6 refuses gets E6's number and no index."
  pub refused_by_verdict : (host s room : List ℕ) → ¬ (verdict host s ≡ 0)
      → (number host s (length room) ≡ verdict host s) × (after host s room ≡ room)
  -- "only a shorter slice gets 11, tried last", and stays as it was
  pub short_exactly : (host s room : List ℕ) → verdict host s ≡ 0
      → (number host s (length room) ≡ 11) ↔ (length room < index_bytes s)
  pub short_stays : (host s room : List ℕ) → number host s (length room) ≡ 11 → after host s room ≡ room
  -- what is past the index stays, and the slice is as long as before
  pub past_stays : (host s room : List ℕ) → Bytes host → Bytes s
      → (length (after host s room) ≡ length room)
      × ((k : ℕ) → index_bytes s ≤ k → get_or (after host s room) k 0 ≡ get_or room k 0)

-- by the audit
abbrev pub FastLabels : Type 0
FastLabels = LabelsBy audit_number Accepted build_number index_after
