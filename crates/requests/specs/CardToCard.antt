-- Document 02, E11, "Card to card", in the request's sentences, over what `sending_of` answers on bytes. Bytes are what a slice of u8 holds.
-- `card_to_card` of CardToCardLaws proves it. Assumes nothing.
use Rattle.std.specs.Prelude.{◌≡◌, ◌⊎◌, ◌↔◌, List, reverse, ℕ, ◌+◌, ◌≤◌, length, take}
use Rattle.endian.specs.Endian.{Bytes}
use Rattle.packet.specs.declared.Packet.{Packet}
use Rattle.packet.specs.declared.Packet.TheVariants.{Memory, Io, Config, Completion, Message}
use Rattle.tlp.specs.declared.Reading.TheVariants.{Accepted as Read, Refused as NotRead}
use Rattle.tlp.specs.Reading.{read_of}
use Rattle.pools.specs.declared.Space.{Space}
use Rattle.pools.specs.declared.Space.TheVariants.{Memory as memory_space, Io as io_space}
use Rattle.board_record.specs.Host.{host_of_part}
use Rattle.walk.specs.Climb.{up_from, CardTrail}
use Rattle.walk.specs.Cards.{Board, crossed_up, crossed_down, Sends, Leaves, Unmastered}
use Rattle.walk.proofs.CardToCard.{board_over}
use Rattle.sheet.specs.Sheet.{sheet_number}
use Rattle.sheet.specs.Spaces.{registers_of, enabled_of, master_of}
use Rattle.sheet.specs.Commands.{SameButCommands}
use Rattle.plan_good.specs.Registers.{plan_host}
use Rattle.plan_answer.specs.declared.Planning.TheVariants.{Planned}
use Rattle.plan_answer.specs.Plan.{planning, sheet_after}
use Rattle.audit_rule.specs.Host.{host_for}
use Rattle.audit_rule.specs.Accepted.{Accepted, OneOwner}
use Rattle.claims.specs.declared.Aim.TheVariants.{Address}
use Rattle.claims.specs.Claims.{tally_for}
use Rattle.route.specs.Route.{root}
use Rattle.route_cards.specs.declared.Arrival.{Arrival}
use Rattle.route_cards.specs.declared.Sending.TheVariants.{Delivered, Host, Refused}
use Rattle.route_cards.specs.Sending.{number_of as sending_number, sending_of}
use Rattle.route_cards.specs.Search.{function_at, IsType0}
use Rattle.demands.specs.Demand3 as planned
use Rattle.requests.specs.Audit as audited

-- ## What starts where

-- p is a memory or I/O request in this space, from this start address on. A message is none, by address or not
abbrev pub IsCardRequest : Packet → Space → ℕ → Type 0
IsCardRequest (Memory k h e a) sp address = (sp ≡ memory_space) × (address ≡ a)
IsCardRequest (Io k h e a) sp address = (sp ≡ io_space) × (address ≡ a)
IsCardRequest (Config k h e t) sp address = ⊥
IsCardRequest (Completion k h o) sp address = ⊥
IsCardRequest (Message k h routing code tail) sp address = ⊥

-- "memory and I/O requests that start at a type 0 function, named by record": record k of the sheet, from 1, is one
abbrev pub MayStart : List ℕ → ℕ → Packet → Type 0
MayStart t k p = IsType0 t k × ((sp : Space) × (address : ℕ) × IsCardRequest p sp address)

-- ## Who holds the address, who is enabled and bus master, and who stands above whom

-- over the sheet of a planned board, by where its BARs are placed and by parent records; windows by the sheet's registers
abbrev pub planned_board : List ℕ → List ℕ → Space → ℕ → Board
planned_board b t sp address =
    board_over (plan_host sp (planned.host b)) (registers_of sp t) (enabled_of sp t) (master_of t) address (planned.HasBarOver b sp address)
    (planned.bridges_above b)

-- over t, a sheet s that some firmware left with its command words as they were or rewritten since, by the registers and bus numbers
abbrev pub board_of_sheet : List ℕ → List ℕ → List ℕ → Space → ℕ → Board
board_of_sheet host s t sp address =
    board_over (host_for sp (host_of_part host)) (registers_of sp t) (enabled_of sp t) (master_of t) address (audited.HasBarOver s sp address)
    (audited.bridges_above host s)

-- ## What becomes of it

-- the papers' number of what is answered, 0 where it is not refused
abbrev pub send_number : ℕ → List ℕ → List ℕ → ℕ
send_number k header t = sending_number (sending_of k header t)

abbrev pub SentTo : ℕ → List ℕ → List ℕ → ℕ → Type 0
SentTo k header t j = (d : Arrival) × (sending_of k header t ≡ Delivered d) × (d.owner ≡ j)

abbrev pub SentToHost : ℕ → List ℕ → List ℕ → Type 0
SentToHost k header t = (bridges : ℕ) × (q : Packet) × (sending_of k header t ≡ Host bridges q)

-- a request for an address of a space that starts at function k goes up through these bridges, in this order, and then down through these
-- to function j
abbrev pub CardCrosses : List ℕ → Space → ℕ → ℕ → List ℕ → List ℕ → ℕ → Type 0
CardCrosses t sp address k ups downs j =
    CardTrail (tally_for (Address sp address) t) (up_from (master_of t) (registers_of sp t) address (root t)) (function_at sp t k).node.bus
    ups downs j

-- What becomes of a header that is read as p, such a request, and that starts at function k of a sheet t
pub record CardRouted (b : Board) (most : ℕ) (t header : List ℕ) (p : Packet) (sp : Space) (address k : ℕ) : Type 0 where
  -- "delivery as exactly as demand 3 does, to another function, with enables for bridges crossed down and bus master for the starting
  -- function and those up"
  pub delivered_exactly : (j : ℕ) → SentTo k header t j ↔ Sends b k j
  pub one_owner : (i j : ℕ) → Sends b k i → Sends b k j → i ≡ j
  pub arrives_unchanged : (d : Arrival) → sending_of k header t ≡ Delivered d → d.packet ≡ p
  -- it crosses exactly those bridges: up the nearest to the start first, down the uppermost first
  pub crosses_exactly : (d : Arrival) → sending_of k header t ≡ Delivered d → (ups downs : List ℕ)
      → CardCrosses t sp address k ups downs d.owner
      ↔ ((ups ≡ crossed_up b k d.owner) × (downs ≡ reverse (crossed_down b k d.owner)))
  -- "Both ways are counted, there at most 64 together."
  pub both_ways_counted : (d : Arrival) → sending_of k header t ≡ Delivered d
      → (d.bridges ≡ length (crossed_up b k d.owner) + length (crossed_down b k d.owner)) × (d.bridges ≤ most)
  -- "From the root bus it goes to the host, a named answer.", with the bridges above the start, all of them crossed, and the request as it
  -- was
  pub host_exactly : (bridges : ℕ) (q : Packet)
      → (sending_of k header t ≡ Host bridges q) ↔ (Leaves b k × (bridges ≡ length (b.above k)) × (q ≡ p))
  -- "any other request gets 44, 40 or the host by these rules, never 41"
  pub halts_exactly : (send_number k header t ≡ 44) ↔ Unmastered b k
  pub else_no_owner : (send_number k header t ≡ 40) ↔ (((j : ℕ) → ¬ Sends b k j) × ¬ Leaves b k × ¬ Unmastered b k)
  pub never_contested : ¬ (send_number k header t ≡ 41)
  pub nothing_else : ((j : ℕ) × SentTo k header t j)
      ⊎ (SentToHost k header t ⊎ ((send_number k header t ≡ 44) ⊎ (send_number k header t ≡ 40)))

-- ## The request

pub record CardToCard : Type 0 where
  -- the order of numbers, over any sheet: the header's, the sheet's, ..
  pub header_first : (k : ℕ) (header t : List ℕ) (n : ℕ) → read_of header ≡ NotRead n → sending_of k header t ≡ Refused n
  pub sheet_next : (k : ℕ) (header t : List ℕ) (p : Packet) → read_of header ≡ Read p → ¬ (sheet_number t ≡ 0)
      → sending_of k header t ≡ Refused (sheet_number t)
  -- ".. any other record or kind of header gets new number 45, right after the sheet's checks and before any 40"
  pub others_45 : (k : ℕ) (header t : List ℕ) (p : Packet) → read_of header ≡ Read p → sheet_number t ≡ 0 → ¬ MayStart t k p
      → sending_of k header t ≡ Refused 45
  -- "For planned boards state delivery ..", as planned or with command words rewritten since
  pub planned_routed : (b room : List ℕ) (n : ℕ) → Bytes b → planning b (length room) ≡ Planned n
      → (t : List ℕ) → SameButCommands (take n (sheet_after b room)) t
      → (header : List ℕ) (p : Packet) → read_of header ≡ Read p
      → (sp : Space) (address : ℕ) → IsCardRequest p sp address
      → (k : ℕ) → IsType0 t k → CardRouted (planned_board b t sp address) 64 t header p sp address k
  -- and the same of any sheet that the audit accepts, where a way up and a way down have at most 255 bridges each
  pub accepted_routed : (host s : List ℕ) → Bytes s → Accepted host s
      → (t : List ℕ) → SameButCommands s t
      → (header : List ℕ) (p : Packet) → read_of header ≡ Read p
      → (sp : Space) (address : ℕ) → IsCardRequest p sp address
      → (k : ℕ) → IsType0 t k → CardRouted (board_of_sheet host s t sp address) 510 t header p sp address k
  -- and of any sheet that has one owner for every address: no field needs the kinds
  pub sound_routed : (host s : List ℕ) → Bytes s → OneOwner host s
      → (t : List ℕ) → SameButCommands s t
      → (header : List ℕ) (p : Packet) → read_of header ≡ Read p
      → (sp : Space) (address : ℕ) → IsCardRequest p sp address
      → (k : ℕ) → IsType0 t k → CardRouted (board_of_sheet host s t sp address) 510 t header p sp address k
