-- Document 02, E6, "Check another firmware's sheet", in the request's sentences, over the audit's number and the router's answers on bytes.
-- Bytes are what a slice of u8 holds. `audits` of AuditLaws proves it. Assumes nothing.
use Rattle.std.specs.Prelude.{◌≡◌, true, ◌↔◌, List, map, ℕ, pred, ◌/◌, ◌%◌, length, get_or, take, drop}
use Rattle.endian.specs.Endian.{Bytes}
use Rattle.packet.specs.declared.Packet.{Packet}
use Rattle.tlp.specs.declared.Reading.TheVariants.{Accepted as Read}
use Rattle.tlp.specs.Reading.{read_of}
use Rattle.lists.specs.Lists.{◌∈◌, All, Some}
use Rattle.pools.specs.declared.Space.{Space}
use Rattle.board_record.specs.Host.{host_length, host_of_part}
use Rattle.walk.specs.Ranges.{Holds}
use Rattle.walk.specs.Registers.{Node, Registers}
use Rattle.walk.specs.Ids.{HasId}
use Rattle.walk.specs.Above.{above}
use Rattle.walk.proofs.Reach.{numbers_of}
use Rattle.sheet.specs.Spaces.{registers_of, nodes_of, enabled_of}
use Rattle.sheet.specs.Commands.{SameButCommands}
use Rattle.plan_answer.specs.declared.Planning.TheVariants.{Planned}
use Rattle.plan_answer.specs.Plan.{planning, sheet_after}
use Rattle.audit_rule.specs.Accepted.{Accepted, ByNumber}
use Rattle.audit_rule.specs.declared.Nesting.TheVariants.{OfKind}
use Rattle.audit_rule.specs.Audit.{audit_number}
use Rattle.demands.specs.Demand3.{IsRequest, route_number, Routed}
use Rattle.demands.specs.ById.{GoesById, RoutedById}

-- ## A sheet over a host record

-- the bus of the record with this number, from 1
abbrev pub bus_of : List ℕ → ℕ → ℕ
bus_of s k = get_or (map (λ (n : Node). n.bus) (nodes_of s)) (pred k) 0

-- "the bridges above told by bus numbers": none on the host's first bus, else the bridge whose secondary bus it is, then those above that
-- bridge, as record numbers
abbrev pub bridges_above : List ℕ → List ℕ → ℕ → List ℕ
bridges_above host s k = numbers_of (above (host_of_part host).first_bus (nodes_of s) (bus_of s k))

-- one of function k's BARs in the space holds the address, "with each BAR placed where its value says"
pub record HasBarOver (s : List ℕ) (sp : Space) (address k : ℕ) : Type 0 where
  pub function : Registers
  pub in_sheet : function ∈ registers_of sp s
  pub number_is : function.node.number ≡ k
  pub bar_holds_lem : Some (λ r. Holds r address) function.bars

-- and k and each bridge above it have the space enabled by the command words of t, which is s as it was accepted or rewritten since
pub record Owns (host s t : List ℕ) (sp : Space) (address k : ℕ) : Type 0 where
  pub has_bar : HasBarOver s sp address k
  pub is_enabled : enabled_of sp t k ≡ true
  pub bridges_enabled : All (λ b. enabled_of sp t b ≡ true) (bridges_above host s k)

-- function k has this ID: "An ID is bus 8, device 5, function 3 bits."
pub record HasIdOver (s : List ℕ) (id k : ℕ) : Type 0 where
  pub function : Node
  pub has_id_lem : HasId (id / 256) (id % 256) (nodes_of s) function
  pub number_is : function.number ≡ k

-- "with more than 16 bridges in a row the count is still exact, at most 255"
abbrev pub most_in_row : ℕ
most_in_row = 255

-- a board's own host record: its record 0, after the version byte and the record's own length
abbrev pub host_record : List ℕ → List ℕ
host_record b = take host_length (drop 3 b)

-- ## The request

pub record Audits : Type 0 where
  -- "Given a host record .. and a sheet, say yes exactly when .."
  pub yes_exactly : (host s : List ℕ) → Bytes s → (audit_number host s ≡ 0) ↔ Accepted host s
  -- and else the number of the first part that fails
  pub by_number : (host s : List ℕ) → Bytes s → ByNumber OfKind host s (audit_number host s)
  -- what was accepted stays so when command words are rewritten
  pub stays_accepted : (host s : List ℕ) → Accepted host s → (t : List ℕ) → SameButCommands s t → Accepted host t
  -- "An accepted sheet has demand 3's delivery, ..": "whatever the sheet's command words say", as accepted "or rewritten since"
  pub accepted_routed : (host s : List ℕ) → Bytes s → Accepted host s
      → (t : List ℕ) → SameButCommands s t
      → (header : List ℕ) (p : Packet) → read_of header ≡ Read p
      → (sp : Space) (address : ℕ) → IsRequest p sp address
      → Routed (Owns host s t sp address) (bridges_above host s) most_in_row t header p sp address
  -- and a packet by ID that of a planned sheet (`RoutedById`)
  pub accepted_by_id : (host s : List ℕ) → Bytes s → Accepted host s
      → (t : List ℕ) → SameButCommands s t
      → (header : List ℕ) (p : Packet) → read_of header ≡ Read p
      → (id : ℕ) → GoesById p id
      → RoutedById (length (nodes_of s)) (host_of_part host).first_bus (HasIdOver s id) (bridges_above host s) most_in_row t header p id
  -- so that no accepted packet is contested: by address, by ID or any other way, an accepted sheet never has 41
  pub never_contested : (host s : List ℕ) → Bytes s → Accepted host s
      → (t : List ℕ) → SameButCommands s t
      → (header : List ℕ) (p : Packet) → read_of header ≡ Read p → ¬ (route_number header t ≡ 41)
  -- no two functions have BARs over one address, enabled or not
  pub one_holder : (host s : List ℕ) → Bytes s → Accepted host s
      → (sp : Space) (address j k : ℕ) → HasBarOver s sp address j → HasBarOver s sp address k → j ≡ k
  -- "Every sheet from our planner is accepted for its own host record.", as planned or with its command words rewritten since
  pub planned_accepted : (b room : List ℕ) (n : ℕ) → Bytes b → planning b (length room) ≡ Planned n
      → (t : List ℕ) → SameButCommands (take n (sheet_after b room)) t → Accepted (host_record b) t
  -- so that the audit says yes
  pub planned_yes : (b room : List ℕ) (n : ℕ) → Bytes b → planning b (length room) ≡ Planned n
      → (t : List ℕ) → SameButCommands (take n (sheet_after b room)) t → Bytes t → audit_number (host_record b) t ≡ 0
