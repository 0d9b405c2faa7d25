-- Fast labels for every sheet that the second verdict lets through: E8's sentences with that verdict in the audit's place, over the number
-- and the bytes of `index_build::build_sound`; and of a sheet alone, over those of `index_alone::build_alone`. `sound_labels` of
-- SoundLabelsLaws proves it. Assumes nothing.
use Rattle.std.specs.Prelude.{◌≡◌, ◌↔◌, List, ℕ, ◌<◌, ◌≤◌, length, get_or}
use Rattle.endian.specs.Endian.{Bytes}
use Rattle.audit_rule.specs.Audit.{audit_number, sound_number}
use Rattle.audit_rule.specs.Accepted.{OneOwner}
use Rattle.route.specs.Route.{route_of}
use Rattle.index_search.specs.Search.{search_of}
use Rattle.index_build.specs.Build.{build_number, sound_build_number, index_after, sound_index_after}
use Rattle.index_alone.specs.Alone.{alone_number, alone_build_number, alone_index_after}
use Rattle.trace.specs.declared.Trace.{Trace}
use Rattle.trace_line.specs.declared.Finder.TheVariants.{Index}
use Rattle.trace_line.specs.Line.{line_over}
use Rattle.trace_line.specs.Finder.{line_by}
use Rattle.requests.specs.Trace.{told}
use Rattle.requests.specs.FastLabels.{index_bytes, ListedAlike, FedAlike, LabelsBy}

-- an index was built, in a slice that held `room`: of a sheet under a host record, and of a sheet alone
abbrev pub IsBuiltSound : List ℕ → List ℕ → List ℕ → Type 0
IsBuiltSound host s room = sound_build_number host s (length room) ≡ 0

abbrev pub IsBuiltAlone : List ℕ → List ℕ → Type 0
IsBuiltAlone s room = alone_build_number s (length room) ≡ 0

-- some host record has one owner for every address of the sheet
abbrev pub OwnedBySome : List ℕ → Type 0
OwnedBySome s = (host : List ℕ) × Bytes host × OneOwner host s

pub record SoundLabels : Type 0 where
  -- "refused by the second verdict's number; .. for every sheet that passes it and every header its whole answer is the router's"
  pub labels : LabelsBy sound_number OneOwner sound_build_number sound_index_after
  -- "for an accepted sheet the very same bytes, as a theorem", and the same number
  pub accepted_same : (host s room : List ℕ) → Bytes s → audit_number host s ≡ 0
      → (sound_build_number host s (length room) ≡ build_number host s (length room))
      × (sound_index_after host s room ≡ index_after host s room)
  -- "so that the second verdict and the index can be had for a sheet alone": 0 exactly where some host record has it
  pub alone_exactly : (s : List ℕ) → Bytes s → (alone_number s ≡ 0) ↔ ((host : List ℕ) × Bytes host × OneOwner host s)
  -- The same sentences of a sheet alone. An index, exactly then, in room enough
  pub alone_built_exactly : (s room : List ℕ) → Bytes s → IsBuiltAlone s room ↔ (OwnedBySome s × (index_bytes s ≤ length room))
  pub alone_answers : (s room : List ℕ) → Bytes s → alone_build_number s (length room) ≡ 0
      → (header : List ℕ) → search_of header (alone_index_after s room) ≡ route_of header s
  pub alone_lists : (s room : List ℕ) → Bytes s → IsBuiltAlone s room
      → (header list : List ℕ) → ListedAlike header (alone_index_after s room) s list
  -- "label SHEET TRACE takes this way by itself where the verdict is yes: same lines": of a whole trace, in whatever pieces it comes ..
  pub alone_traces : (s room : List ℕ) → Bytes s → IsBuiltAlone s room
      → (pieces : List (List ℕ)) → told (line_by Index (alone_index_after s room)) pieces ≡ told (line_over s) pieces
  -- .. and of each piece, fed in any state and any room
  pub alone_pieces : (s room : List ℕ) → Bytes s → IsBuiltAlone s room
      → (t : Trace) (piece out : List ℕ) → FedAlike (alone_index_after s room) s t piece out
  -- refused by the verdict's number, and no index
  pub alone_refused : (s room : List ℕ) → ¬ (alone_number s ≡ 0)
      → (alone_build_number s (length room) ≡ alone_number s) × (alone_index_after s room ≡ room)
  -- a shorter slice gets 11, last, and stays as it was
  pub alone_short_exactly : (s room : List ℕ) → alone_number s ≡ 0
      → (alone_build_number s (length room) ≡ 11) ↔ (length room < index_bytes s)
  pub alone_short_stays : (s room : List ℕ) → alone_build_number s (length room) ≡ 11 → alone_index_after s room ≡ room
  -- what is past the index stays, and the slice is as long as before
  pub alone_past_stays : (s room : List ℕ) → Bytes s
      → (length (alone_index_after s room) ≡ length room)
      × ((k : ℕ) → index_bytes s ≤ k → get_or (alone_index_after s room) k 0 ≡ get_or room k 0)
