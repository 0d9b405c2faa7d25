-- Document 03, E15, "Both ends", in the request's sentences, over what `both_ends_of` answers on bytes. Bytes are what a slice of u8 holds.
-- `both_ends` of BothEndsLaws proves it. Assumes nothing.
use Rattle.std.specs.Prelude.{◌≡◌, ◌⊎◌, ◌↔◌, true, false, List, reverse, ℕ, ◌+◌, ◌/◌, ◌≤◌, length, take}
use Rattle.refusals.specs.Refusals.{IsRefusal}
use Rattle.endian.specs.Endian.{Bytes}
use Rattle.pairs.specs.declared.MessageKind.{MessageKind}
use Rattle.pairs.specs.declared.MessageRouting.TheVariants.{ByAddress}
use Rattle.packet.specs.declared.Head.{Head}
use Rattle.packet.specs.declared.Packet.{Packet}
use Rattle.packet.specs.declared.Packet.TheVariants.{Message}
use Rattle.tlp.specs.declared.Reading.TheVariants.{Accepted as Read, Refused as NotRead}
use Rattle.tlp.specs.Reading.{read_of}
use Rattle.pools.specs.declared.Space.{Space}
use Rattle.walk.specs.Climb.{CardTrail}
use Rattle.climb_ids.specs.ById.{up_unless, buses_hold}
use Rattle.climb_ids.specs.Promise as promise
use Rattle.climb_ids.specs.Promise.{RootLeads}
use Rattle.sheet.specs.Sheet.{sheet_number}
use Rattle.sheet.specs.Spaces.{nodes_of}
use Rattle.sheet.specs.Commands.{SameButCommands}
use Rattle.plan_answer.specs.declared.Planning.TheVariants.{Planned}
use Rattle.plan_answer.specs.Plan.{planning, sheet_after}
use Rattle.audit_rule.specs.Accepted.{Accepted, OneOwner}
use Rattle.claims.specs.declared.Aim.TheVariants.{Id}
use Rattle.claims.specs.Claims.{tally_for}
use Rattle.route_arrival.specs.declared.Heading.TheVariants.{Up, Every, Port as ToPort}
use Rattle.route_arrival.specs.Arrival.{heading_of}
use Rattle.route_answer.specs.declared.Routing.TheVariants.{Delivered as Routed, Broadcast, Port as RoutedPort, Refused as NotRouted}
use Rattle.route.specs.Route.{root, route_of}
use Rattle.route_cards.specs.declared.Arrival.{Arrival}
use Rattle.route_cards.specs.Sending.{sending_of}
use Rattle.route_cards.specs.Search.{IsType0}
use Rattle.route_sent.specs.declared.Fate.{Fate}
use Rattle.route_sent.specs.declared.Fate.TheVariants.{Delivered, Host, Port, Refused}
use Rattle.route_sent.specs.declared.BothEnds.TheVariants.{FromHost, FromFunction, Refused as NotSent}
use Rattle.route_sent.specs.declared.BothEnds as answered
use Rattle.route_sender.specs.declared.Sender.{Sender}
use Rattle.route_sender.specs.declared.Sender.TheVariants.{Host as HostSends, Function}
use Rattle.route_sender.specs.declared.SentBy.TheVariants.{Told}
use Rattle.route_sender.specs.Sender.{named_by, starts_at_host, sent_by_of}
use Rattle.route_sent.specs.BothEnds.{fate_of, both_ends_of, named_in, number_of}
use Rattle.demands.specs.Demand3 as planned
use Rattle.demands.specs.ById as planned_ids
use Rattle.demands.specs.ById.{GoesById}
use Rattle.requests.specs.Audit as audited
use Rattle.requests.specs.Audit.{HasIdOver}
use Rattle.requests.specs.CardToCard.{IsCardRequest}

-- ## The sender

-- "Configuration requests and messages 011 (broadcast) start at the host, whoever they name. A header that names the host's own ID, or an ID
-- that no function of the sheet has, starts at the host."
abbrev pub StartsAtHost : ℕ → Packet → List ℕ → Type 0
StartsAtHost host_id p t = (starts_at_host p ≡ true) ⊎ ((named_by p ≡ host_id) ⊎ ((k : ℕ) → ¬ HasIdOver t (named_by p) k))

-- "Any other starts at the function with that ID"
pub record StartsAt (host_id : ℕ) (p : Packet) (t : List ℕ) (k : ℕ) : Type 0 where
  pub not_hosts_own : starts_at_host p ≡ false
  pub not_host_named : ¬ (named_by p ≡ host_id)
  pub has_id_lem : HasIdOver t (named_by p) k

-- ## What becomes of a packet by ID

-- a packet by this ID that starts at the function with the ID `own` goes up through these bridges, in this order, and then down through
-- these to function j
abbrev pub CrossesById : List ℕ → ℕ → ℕ → List ℕ → List ℕ → ℕ → Type 0
CrossesById t id own ups downs j =
    CardTrail (tally_for (Id id) t) (up_unless (buses_hold (id / 256)) (nodes_of t) (root t)) (own / 256) ups downs j

-- What becomes of a header that is read as p, which goes by this ID, from function k of a sheet t. `Has j` says that function j has the ID,
-- `above j` are the bridges above it. "Command bits do not matter": none is asked for
module _ (Has : ℕ → Type 0) (above : ℕ → List ℕ) (most host_id : ℕ) (t header : List ℕ) (p : Packet) (id k : ℕ) where
  abbrev pub Leads : Type 0
  Leads = RootLeads (root t) (id / 256) (nodes_of t)

  -- "j has the ID and is not k"
  abbrev pub GoesTo : ℕ → Type 0
  GoesTo j = promise.GoesTo Has above Leads k j

  -- "no function has the ID and no bridge on the root bus has the ID's bus among its buses"
  abbrev pub GoesToHost : Type 0
  GoesToHost = promise.GoesToHost Has above Leads

  -- "the bridges above the one and not above the other"
  abbrev pub ups : ℕ → List ℕ
  ups j = promise.crossed_up Has above Leads k j

  abbrev pub downs : ℕ → List ℕ
  downs j = promise.crossed_down Has above Leads k j

  -- the answer names function k as the sender, and then this
  abbrev pub Becomes : Fate → Type 0
  Becomes f = both_ends_of host_id header t ≡ FromFunction k f

  abbrev pub SentTo : ℕ → Type 0
  SentTo j = (d : Arrival) × Becomes (Delivered d) × (d.owner ≡ j)

  pub record RoutedFrom : Type 0 where
    -- "a packet by ID from function k, for an ID that is not the host's, is delivered to function j exactly when j has the ID and is not k"
    pub delivered_exactly : (j : ℕ) → SentTo j ↔ GoesTo j
    pub one_receiver : (i j : ℕ) → GoesTo i → GoesTo j → i ≡ j
    -- "it goes to the host exactly when ..", past the bridges above the sender, all of them crossed, and as it was
    pub host_exactly : (bridges : ℕ) (q : Packet) → Becomes (Host bridges q) ↔ (GoesToHost × (bridges ≡ length (above k)) × (q ≡ p))
    -- "else it is 40; never 41"
    pub else_no_owner : Becomes (Refused 40) ↔ (((j : ℕ) → ¬ GoesTo j) × ¬ GoesToHost)
    pub nothing_else : ((j : ℕ) × SentTo j) ⊎ (((bridges : ℕ) × Becomes (Host bridges p)) ⊎ Becomes (Refused 40))
    pub never_contested : ¬ (number_of (both_ends_of host_id header t) ≡ 41)
    -- "It crosses exactly the bridges above the one and not above the other, ..": up the nearest to the sender first, down the uppermost
    -- first
    pub crosses_exactly : (d : Arrival) → Becomes (Delivered d) → (us ds : List ℕ)
        → CrossesById t id (named_by p) us ds d.owner ↔ ((us ≡ ups d.owner) × (ds ≡ reverse (downs d.owner)))
    -- ".. both ways counted, .."
    pub both_ways_counted : (d : Arrival) → Becomes (Delivered d)
        → (d.bridges ≡ length (ups d.owner) + length (downs d.owner)) × (d.bridges ≤ most)
    -- ".. and arrives unchanged."
    pub arrives_unchanged : (d : Arrival) → Becomes (Delivered d) → d.packet ≡ p

-- ## One sender, and at most one receiver

-- the host sends it, or this function
abbrev pub Sends : ℕ → Packet → List ℕ → Sender → Type 0
Sends host_id p t HostSends = StartsAtHost host_id p t
Sends host_id p t (Function k) = StartsAt host_id p t k

-- the function with this record number, the host, or the port
pub data Receiver : Type 0 where
  function : ℕ → Receiver
  the_host : Receiver
  the_port : Receiver

-- who gets a packet that is answered so: of a broadcast every function, and nobody where it is refused
abbrev pub Gets : answered.BothEnds → Receiver → Type 0
Gets (FromHost (Routed d)) r = r ≡ function d.owner
Gets (FromHost (Broadcast n p)) r = (j : ℕ) × (r ≡ function j) × (1 ≤ j) × (j ≤ n)
Gets (FromHost (RoutedPort p)) r = r ≡ the_port
Gets (FromHost (NotRouted n)) r = ⊥
Gets (FromFunction k (Delivered d)) r = r ≡ function d.owner
Gets (FromFunction k (Host bridges p)) r = r ≡ the_host
Gets (FromFunction k (Port p)) r = r ≡ the_port
Gets (FromFunction k (Refused n)) r = ⊥
Gets (NotSent n) r = ⊥

-- "So every packet of such a box has one sender and, a broadcast apart, at most one receiver, fixed by the host's ID, the header and the
-- sheet": of a header that is read as p
pub record OneOfEach (host_id : ℕ) (t header : List ℕ) (p : Packet) : Type 0 where
  -- one sender, which both calls name
  pub sender : Sender
  pub sends : Sends host_id p t sender
  pub only_sender : (x : Sender) → Sends host_id p t x → x ≡ sender
  pub told : sent_by_of host_id header t ≡ Told sender
  pub named : named_in (both_ends_of host_id header t) ≡ Told sender
  -- "a broadcast apart, at most one receiver"
  pub one_receiver : ¬ (heading_of p ≡ Every) → (a b : Receiver)
      → Gets (both_ends_of host_id header t) a → Gets (both_ends_of host_id header t) b → a ≡ b
  -- who gets it, or a number of 1 to 99, and never both; never 41
  pub gets_or_number : ((a : Receiver) × Gets (both_ends_of host_id header t) a) ⊎ IsRefusal (number_of (both_ends_of host_id header t))
  pub never_both : (a : Receiver) → Gets (both_ends_of host_id header t) a → number_of (both_ends_of host_id header t) ≡ 0
  pub never_contested : ¬ (number_of (both_ends_of host_id header t) ≡ 41)

-- ## The request

pub record BothEnds : Type 0 where
  -- "Numbers: the reader's, then the sheet's checks, then those below.", over any sheet
  pub header_first : (host_id : ℕ) (header t : List ℕ) (n : ℕ) → read_of header ≡ NotRead n → both_ends_of host_id header t ≡ NotSent n
  pub sheet_next : (host_id : ℕ) (header t : List ℕ) (p : Packet) → read_of header ≡ Read p → ¬ (sheet_number t ≡ 0)
      → both_ends_of host_id header t ≡ NotSent (sheet_number t)
  -- "From the host the answer is the router's"
  pub from_host_lem : (host_id : ℕ) (header t : List ℕ) (p : Packet) → read_of header ≡ Read p → sheet_number t ≡ 0 → StartsAtHost host_id p t
      → both_ends_of host_id header t ≡ FromHost (route_of header t)
  -- else the function "is named in the answer" (28: there is one)
  pub from_function_lem : (host_id : ℕ) (header t : List ℕ) (p : Packet) → read_of header ≡ Read p → sheet_number t ≡ 0 → Bytes t
      → (k : ℕ) → StartsAt host_id p t k → (f : Fate) × (both_ends_of host_id header t ≡ FromFunction k f)
  -- one of the two, and one function
  pub some_sender : (host_id : ℕ) (p : Packet) (t : List ℕ) → StartsAtHost host_id p t ⊎ ((k : ℕ) × StartsAt host_id p t k)
  pub one_sender : (host_id : ℕ) (p : Packet) (t : List ℕ) → sheet_number t ≡ 0 → Bytes t
      → (j k : ℕ) → StartsAt host_id p t j → StartsAt host_id p t k → j ≡ k
  -- "A memory or I/O request goes as E11 has it, with E11's numbers": what CardToCard says of it holds
  pub request_as_E11 : (host_id : ℕ) (header t : List ℕ) (p : Packet) → read_of header ≡ Read p → sheet_number t ≡ 0 → Bytes t
      → (k : ℕ) → StartsAt host_id p t k → (sp : Space) (address : ℕ) → IsCardRequest p sp address
      → both_ends_of host_id header t ≡ FromFunction k (fate_of (sending_of k header t))
  -- "45 for a bridge's own request"
  pub bridge_45 : (host_id : ℕ) (header t : List ℕ) (p : Packet) → read_of header ≡ Read p → sheet_number t ≡ 0 → Bytes t
      → (k : ℕ) → StartsAt host_id p t k → (sp : Space) (address : ℕ) → IsCardRequest p sp address → ¬ IsType0 t k
      → both_ends_of host_id header t ≡ FromFunction k (Refused 45)
  -- "001 from a function is 45"
  pub by_address_45 : (host_id : ℕ) (header t : List ℕ) (kind : MessageKind) (h : Head) (code tail : ℕ)
      → read_of header ≡ Read (Message kind h ByAddress code tail) → sheet_number t ≡ 0 → Bytes t
      → (k : ℕ) → StartsAt host_id (Message kind h ByAddress code tail) t k
      → both_ends_of host_id header t ≡ FromFunction k (Refused 45)
  -- "100 ends at the port, a named answer"
  pub ends_at_port : (host_id : ℕ) (header t : List ℕ) (p : Packet) → read_of header ≡ Read p → sheet_number t ≡ 0 → Bytes t
      → (k : ℕ) → StartsAt host_id p t k → heading_of p ≡ ToPort
      → both_ends_of host_id header t ≡ FromFunction k (Port p)
  -- "Over a planned sheet, as planned or with command words rewritten"
  pub planned_by_id : (b room : List ℕ) (n : ℕ) → Bytes b → planning b (length room) ≡ Planned n
      → (t : List ℕ) → SameButCommands (take n (sheet_after b room)) t
      → (host_id : ℕ) (header : List ℕ) (p : Packet) → read_of header ≡ Read p
      → (k : ℕ) → StartsAt host_id p t k → (id : ℕ) → GoesById p id → ¬ (id ≡ host_id)
      → RoutedFrom (planned_ids.HasId b id) (planned.bridges_above b) 64 host_id t header p id k
  -- "and over any sheet that E6 accepts", where a way up and a way down have at most 255 bridges each
  pub accepted_by_id : (host s : List ℕ) → Bytes s → Accepted host s
      → (t : List ℕ) → SameButCommands s t
      → (host_id : ℕ) (header : List ℕ) (p : Packet) → read_of header ≡ Read p
      → (k : ℕ) → StartsAt host_id p t k → (id : ℕ) → GoesById p id → ¬ (id ≡ host_id)
      → RoutedFrom (HasIdOver s id) (audited.bridges_above host s) 510 host_id t header p id k
  -- and over any sheet with one owner for every address: the kinds of windows are asked for nowhere, as a packet by ID goes by buses alone
  pub sound_by_id : (host s : List ℕ) → Bytes s → OneOwner host s
      → (t : List ℕ) → SameButCommands s t
      → (host_id : ℕ) (header : List ℕ) (p : Packet) → read_of header ≡ Read p
      → (k : ℕ) → StartsAt host_id p t k → (id : ℕ) → GoesById p id → ¬ (id ≡ host_id)
      → RoutedFrom (HasIdOver s id) (audited.bridges_above host s) 510 host_id t header p id k
  -- "For the host's ID it goes to the host, always.", past all bridges above the sender, as it was, also where a function has that ID
  pub planned_host_id : (b room : List ℕ) (n : ℕ) → Bytes b → planning b (length room) ≡ Planned n
      → (t : List ℕ) → SameButCommands (take n (sheet_after b room)) t
      → (host_id : ℕ) (header : List ℕ) (p : Packet) → read_of header ≡ Read p
      → (k : ℕ) → StartsAt host_id p t k → GoesById p host_id
      → both_ends_of host_id header t ≡ FromFunction k (Host (length (planned.bridges_above b k)) p)
  pub accepted_host_id : (host s : List ℕ) → Bytes s → Accepted host s
      → (t : List ℕ) → SameButCommands s t
      → (host_id : ℕ) (header : List ℕ) (p : Packet) → read_of header ≡ Read p
      → (k : ℕ) → StartsAt host_id p t k → GoesById p host_id
      → both_ends_of host_id header t ≡ FromFunction k (Host (length (audited.bridges_above host s k)) p)
  pub sound_host_id : (host s : List ℕ) → Bytes s → OneOwner host s
      → (t : List ℕ) → SameButCommands s t
      → (host_id : ℕ) (header : List ℕ) (p : Packet) → read_of header ≡ Read p
      → (k : ℕ) → StartsAt host_id p t k → GoesById p host_id
      → both_ends_of host_id header t ≡ FromFunction k (Host (length (audited.bridges_above host s k)) p)
  -- "Messages 000 and 101 go up to the host, a named answer, past all bridges above the sender"
  pub planned_up : (b room : List ℕ) (n : ℕ) → Bytes b → planning b (length room) ≡ Planned n
      → (t : List ℕ) → SameButCommands (take n (sheet_after b room)) t
      → (host_id : ℕ) (header : List ℕ) (p : Packet) → read_of header ≡ Read p
      → (k : ℕ) → StartsAt host_id p t k → heading_of p ≡ Up
      → both_ends_of host_id header t ≡ FromFunction k (Host (length (planned.bridges_above b k)) p)
  pub accepted_up : (host s : List ℕ) → Bytes s → Accepted host s
      → (t : List ℕ) → SameButCommands s t
      → (host_id : ℕ) (header : List ℕ) (p : Packet) → read_of header ≡ Read p
      → (k : ℕ) → StartsAt host_id p t k → heading_of p ≡ Up
      → both_ends_of host_id header t ≡ FromFunction k (Host (length (audited.bridges_above host s k)) p)
  pub sound_up : (host s : List ℕ) → Bytes s → OneOwner host s
      → (t : List ℕ) → SameButCommands s t
      → (host_id : ℕ) (header : List ℕ) (p : Packet) → read_of header ≡ Read p
      → (k : ℕ) → StartsAt host_id p t k → heading_of p ≡ Up
      → both_ends_of host_id header t ≡ FromFunction k (Host (length (audited.bridges_above host s k)) p)
  -- "So every packet of such a box has one sender and, a broadcast apart, at most one receiver": from the host or from a function, by
  -- address, by ID or any other way
  pub planned_one_of_each : (b room : List ℕ) (n : ℕ) → Bytes b → planning b (length room) ≡ Planned n
      → (t : List ℕ) → SameButCommands (take n (sheet_after b room)) t
      → (host_id : ℕ) (header : List ℕ) (p : Packet) → read_of header ≡ Read p → OneOfEach host_id t header p
  pub accepted_one_of_each : (host s : List ℕ) → Bytes s → Accepted host s
      → (t : List ℕ) → SameButCommands s t
      → (host_id : ℕ) (header : List ℕ) (p : Packet) → read_of header ≡ Read p → OneOfEach host_id t header p
  pub sound_one_of_each : (host s : List ℕ) → Bytes s → OneOwner host s
      → (t : List ℕ) → SameButCommands s t
      → (host_id : ℕ) (header : List ℕ) (p : Packet) → read_of header ≡ Read p → OneOfEach host_id t header p
