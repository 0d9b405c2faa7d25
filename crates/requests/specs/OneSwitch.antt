-- Document 02, E13, "One card's switch", in the request's sentences, over what router, card-to-card router, annotator and index answer on
-- bytes. `one_switch` of OneSwitchLaws proves it. Assumes nothing.
use Rattle.std.specs.Prelude.{◌≡◌, ◌⊎◌, true, ℕ, suc, get_or}
use mathlib.Core.List.{List, ◌∷◌, flatten}
use Rattle.endian.specs.Endian.{Bytes}
use Rattle.packet.specs.declared.Packet.{Packet}
use Rattle.tlp.specs.declared.Reading.TheVariants.{Accepted as Read}
use Rattle.tlp.specs.Reading.{read_of}
use Rattle.lists.specs.Lists.{◌∈◌, All, Some}
use Rattle.records.specs.Records.{parts_of}
use Rattle.pools.specs.declared.Space.{Space}
use Rattle.walk.specs.Ranges.{Holds}
use Rattle.walk.specs.Registers.{Registers}
use Rattle.walk.specs.Switch.{gone_up}
use Rattle.sheet.specs.Sheet.{commands_of, sheet_number}
use Rattle.sheet.specs.Spaces.{registers_of, enabled_of, master_of}
use Rattle.sheet.specs.Commands.{SameButCommands}
use Rattle.route.specs.Route.{root, route_of}
use Rattle.route_cards.specs.Sending.{sending_of}
use Rattle.route_cards.specs.Search.{function_at}
use Rattle.index_search.specs.Search.{search_of}
use Rattle.index_build.specs.Build.{index_after, sound_index_after}
use Rattle.index_alone.specs.Alone.{alone_index_after}
use Rattle.trace_line.specs.Line.{line_over}
use Rattle.demands.specs.Demand3.{IsRequest}
use Rattle.demands.specs.ById.{GoesById}
use Rattle.requests.specs.Trace.{told}
use Rattle.requests.specs.FastLabels.{IsBuilt}
use Rattle.requests.specs.SoundLabels.{IsBuiltSound, IsBuiltAlone}
use Rattle.requests.specs.CardToCard.{IsCardRequest}

-- "any two sheets that pass checks 20 to 29 and differ only in one function's command word": function k's, numbered from 1
pub record DifferAt (k : ℕ) (s t : List ℕ) : Type 0 where
  pub passes : sheet_number s ≡ 0
  pub same_but_commands : SameButCommands s t
  pub same_elsewhere : (i : ℕ) → ¬ (suc i ≡ k) → get_or (commands_of s) i 0 ≡ get_or (commands_of t) i 0

-- the address "lies in that function's BARs or, if it is a bridge, in its windows", of the request's own space, enabled or not
pub record LiesIn (s : List ℕ) (sp : Space) (address k : ℕ) : Type 0 where
  pub function : Registers
  pub in_sheet : function ∈ registers_of sp s
  pub number_is : function.node.number ≡ k
  pub holds_it : Some (λ r. Holds r address) function.bars
      ⊎ ((function.node.bridge ≡ true) × Some (λ r. Holds r address) function.windows)

-- a header stays clear of function k: it is no host request, a memory or I/O request or a message by address, for such an address
abbrev pub StaysClear : List ℕ → ℕ → List ℕ → Type 0
StaysClear s k header =
    (p : Packet) (sp : Space) (address : ℕ) → read_of header ≡ Read p → IsRequest p sp address → ¬ LiesIn s sp address k

-- the bridges that a request from function j goes up through on a sheet
abbrev pub went_up : List ℕ → Space → ℕ → ℕ → List ℕ
went_up s sp address j = gone_up (enabled_of sp s) (master_of s) (registers_of sp s) address (root s) (function_at sp s j)

-- "For E11, also exclude requests that start at that function or go up through it under either sheet": a request from function j
pub record CardStaysClear (k : ℕ) (s t : List ℕ) (sp : Space) (address j : ℕ) : Type 0 where
  pub lies_elsewhere : ¬ LiesIn s sp address k
  pub starts_elsewhere_lem : ¬ (j ≡ k)
  pub goes_beside : ¬ (k ∈ went_up s sp address j)
  pub goes_beside_too : ¬ (k ∈ went_up t sp address j)

pub record OneSwitch : Type 0 where
  -- no check looks at a command word, so that one of the two passes where the other does
  pub pass_alike : (k : ℕ) (s t : List ℕ) → DifferAt k s t → sheet_number t ≡ 0
  -- "give a host request the same answer unless its address lies in that function's BARs or, if it is a bridge, in its windows"
  pub host_agrees : (k : ℕ) (s t : List ℕ) → DifferAt k s t
      → (header : List ℕ) (p : Packet) → read_of header ≡ Read p → (sp : Space) (address : ℕ) → IsRequest p sp address
      → ¬ LiesIn s sp address k → route_of header t ≡ route_of header s
  -- "Configuration requests, completions and messages by ID always agree."
  pub ids_agree : (k : ℕ) (s t : List ℕ) → DifferAt k s t
      → (header : List ℕ) (p : Packet) → read_of header ≡ Read p → (id : ℕ) → GoesById p id → route_of header t ≡ route_of header s
  -- and so does whatever goes by no address: a header that is not read, a broadcast, what ends at the port or only travels up
  pub others_agree : (k : ℕ) (s t : List ℕ) → DifferAt k s t
      → (header : List ℕ) → ((p : Packet) (sp : Space) (address : ℕ) → read_of header ≡ Read p → ¬ IsRequest p sp address)
      → route_of header t ≡ route_of header s
  -- so the annotator's lines agree for a trace whose headers all stay clear, in whatever pieces it comes
  pub lines_agree : (k : ℕ) (s t : List ℕ) → DifferAt k s t
      → (pieces : List (List ℕ)) → ((records : List ℕ) → flatten pieces ≡ 1 ∷ records → All (StaysClear s k) (parts_of records).parts)
      → told (line_over t) pieces ≡ told (line_over s) pieces
  -- and so do the searches by an index of each, for two sheets that the audit accepts
  pub searches_agree : (k : ℕ) (s t : List ℕ) → DifferAt k s t → Bytes s → Bytes t
      → (host host' room room' : List ℕ) → Bytes host → Bytes host' → IsBuilt host s room → IsBuilt host' t room'
      → (header : List ℕ) → StaysClear s k header
      → search_of header (index_after host' t room') ≡ search_of header (index_after host s room)
  -- or that have one owner for every address, under a host record each ..
  pub sound_searches_agree : (k : ℕ) (s t : List ℕ) → DifferAt k s t → Bytes s → Bytes t
      → (host host' room room' : List ℕ) → Bytes host → Bytes host' → IsBuiltSound host s room → IsBuiltSound host' t room'
      → (header : List ℕ) → StaysClear s k header
      → search_of header (sound_index_after host' t room') ≡ search_of header (sound_index_after host s room)
  -- .. or alone
  pub alone_searches_agree : (k : ℕ) (s t : List ℕ) → DifferAt k s t → Bytes s → Bytes t
      → (room room' : List ℕ) → IsBuiltAlone s room → IsBuiltAlone t room'
      → (header : List ℕ) → StaysClear s k header
      → search_of header (alone_index_after t room') ≡ search_of header (alone_index_after s room)
  -- from card to card every header agrees but such a request that does not stay clear, whatever record it starts at
  pub cards_agree : (k : ℕ) (s t : List ℕ) → DifferAt k s t
      → (j : ℕ) (header : List ℕ)
      → ((p : Packet) (sp : Space) (address : ℕ) → read_of header ≡ Read p → IsCardRequest p sp address → CardStaysClear k s t sp address j)
      → sending_of j header t ≡ sending_of j header s
