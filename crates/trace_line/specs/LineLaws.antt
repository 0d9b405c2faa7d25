-- A line has at most 40 bytes, and a header is labelled by its front. Assumes nothing.
use Rattle.std.specs.Prelude.{ℕ, ◌+◌, ◌≤◌, ◌<◌, ◌≡◌, List, [], ◌∷◌, ◌++◌, length, take}
use Rattle.std.proofs.Common.{sym, ap, ◌∙◌}
use native.Mathlib.Omega.{arith}
use Rattle.std.proofs.Math.ListN.{length-append}
use borrow.Author.Tests.{eq-eqb, ne_eqb}
use Rattle.text.specs.Text.{ascii, decimal}
use Rattle.text.specs.TextLaws.{tens, digits_le}
use Rattle.pairs.specs.declared.MemoryKind.TheVariants.{MRd, MRdLk, MWr}
use Rattle.pairs.specs.declared.IoKind.TheVariants.{IORd, IOWr}
use Rattle.pairs.specs.declared.ConfigKind.TheVariants.{CfgRd0, CfgWr0, CfgRd1, CfgWr1}
use Rattle.pairs.specs.declared.CompletionKind.TheVariants.{Cpl, CplD, CplLk, CplDLk}
use Rattle.pairs.specs.declared.MessageKind.TheVariants.{Msg, MsgD}
use Rattle.packet.specs.declared.Packet.{Packet}
use Rattle.packet.specs.declared.Packet.TheVariants.{Memory, Io, Config, Completion, Message}
use Rattle.packet.specs.Fields.{kind_of}
use Rattle.packet_text.specs.Labels.{kind_text}
use Rattle.tlp.specs.declared.Reading.{Reading}
use Rattle.tlp.specs.declared.Reading.TheVariants.{Accepted, Refused as NotRead}
use Rattle.tlp.specs.Reading.{read_of}
use Rattle.tlp.specs.FrontLaws.{read_front}
use Rattle.sheet.specs.Sheet.{sheet_number}
use Rattle.route_answer.specs.declared.Routing.{Routing}
use Rattle.route_answer.specs.declared.Routing.TheVariants.{Delivered, Broadcast, Port, Refused}
use Rattle.route.specs.Route.{route_packet, from_sheet, from_reading, route_of}
use Rattle.index_search.specs.Search.{search_of}
use Rattle.trace_label.specs.Label.{kind_read, owner_text, label_with}
use Rattle.trace_line.specs.declared.Finder.{Finder}
use Rattle.trace_line.specs.declared.Finder.TheVariants.{Sheet, Index}
use Rattle.trace_line.specs.Line.{line_with, line_over}
use Rattle.trace_line.specs.Finder.{packet_by, routing_by, line_by}
use Rattle.trace_line.specs.Bounds.{Small, SmallRouting, small_routing}

-- ## Digits

pub decimal_le_20 : (n : ℕ) → n < 18446744073709551616 → length (decimal n) ≤ 20
unfolding tens
decimal_le_20 n h = digits_le 19 n (omega arith)

pub decimal_le_5 : (n : ℕ) → n < 65536 → length (decimal n) ≤ 5
unfolding tens
decimal_le_5 n h = digits_le 4 n (omega arith)

pub decimal_le_3 : (n : ℕ) → Small n → length (decimal n) ≤ 3
unfolding tens
decimal_le_3 n h = digits_le 2 n (omega arith)

-- ## The line's parts

packet_kind_le : (p : Packet) → length (kind_text (kind_of p)) ≤ 6
unfolding ascii
packet_kind_le (Memory MRd h e a) = omega arith
packet_kind_le (Memory MRdLk h e a) = omega arith
packet_kind_le (Memory MWr h e a) = omega arith
packet_kind_le (Io IORd h e a) = omega arith
packet_kind_le (Io IOWr h e a) = omega arith
packet_kind_le (Config CfgRd0 h e t) = omega arith
packet_kind_le (Config CfgWr0 h e t) = omega arith
packet_kind_le (Config CfgRd1 h e t) = omega arith
packet_kind_le (Config CfgWr1 h e t) = omega arith
packet_kind_le (Completion Cpl h o) = omega arith
packet_kind_le (Completion CplD h o) = omega arith
packet_kind_le (Completion CplLk h o) = omega arith
packet_kind_le (Completion CplDLk h o) = omega arith
packet_kind_le (Message Msg h routing code tail) = omega arith
packet_kind_le (Message MsgD h routing code tail) = omega arith

pub kind_le : (r : Reading) → length (kind_read r) ≤ 6
unfolding ascii
kind_le (Accepted p) = packet_kind_le p
kind_le (NotRead n) = omega arith

owner_le : (r : Routing) → SmallRouting r → length (owner_text r) ≤ 12
unfolding ascii
owner_le (Delivered d) s = omega (arith, decimal_le_5 d.owner s)
owner_le (Broadcast functions p) s = omega arith
owner_le (Port p) s = omega arith
owner_le (Refused n) s = omega (arith, decimal_le_3 n s)

-- by any routing
module _ (route : List ℕ → Routing) (header : List ℕ) (small : SmallRouting (route header)) where
  label_le : length (label_with route header) ≤ 19
  unfolding label_with ascii
  label_le =
      omega (
        arith,
        length-append (kind_read (read_of header)) (owner_text (route header)),
        kind_le (read_of header),
        owner_le (route header) small,
      )

  line_with_le : (n : ℕ) → n < 18446744073709551616 → length (line_with route n header) ≤ 40
  unfolding line_with ascii
  line_with_le n h =
      omega (
        arith,
        decimal_le_20 n h,
        label_le,
        length-append (decimal n) (label_with route header ++ (10 ∷ [])),
        length-append (label_with route header) (10 ∷ []),
      )

pub line_le : (finder : Finder) (bytes : List ℕ) (n : ℕ) (header : List ℕ) → n < 18446744073709551616
    → length (line_by finder bytes n header) ≤ 40
line_le finder bytes n header h = line_with_le (routing_by finder bytes) header (small_routing finder bytes header) n h

-- ## In the words of the code

module _ (p : Packet) (sheet : List ℕ) (n : ℕ) (number : n ≡ sheet_number sheet) where
  pub sheet_refused : (n ≡ 0 → ⊥) → Refused n ≡ from_sheet p sheet
  unfolding from_sheet
  sheet_refused h = rw (← number, ne_eqb n 0 h)

  pub sheet_passed : n ≡ 0 → (r : Routing) → r ≡ route_packet p sheet → r ≡ from_sheet p sheet
  unfolding from_sheet
  sheet_passed h r e = rw (← number, eq-eqb n 0 h) e

-- only a packet is looked up
by_packet : (finder : Finder) (bytes header : List ℕ) (p : Packet) → read_of header ≡ Accepted p
    → routing_by finder bytes header ≡ packet_by finder p bytes
unfolding routing_by packet_by route_of search_of
by_packet (Sheet number) bytes header p e = rw e
by_packet Index bytes header p e = rw e

by_refusal : (finder : Finder) (bytes header : List ℕ) (n : ℕ) → read_of header ≡ NotRead n → routing_by finder bytes header ≡ Refused n
unfolding routing_by route_of search_of
by_refusal (Sheet number) bytes header n e = rw e
by_refusal Index bytes header n e = rw e

module _ (finder : Finder) (bytes header : List ℕ) (reading : Reading) (is_reading : reading ≡ read_of header) where
  pub routing_accepted : (p : Packet) → reading ≡ Accepted p → (r : Routing) → r ≡ packet_by finder p bytes
      → r ≡ routing_by finder bytes header
  routing_accepted p e r routed = routed ∙ sym (by_packet finder bytes header p (sym is_reading ∙ e))

  pub routing_refused : (n : ℕ) → reading ≡ NotRead n → routing_by finder bytes header ≡ Refused n
  routing_refused n e = by_refusal finder bytes header n (sym is_reading ∙ e)

-- ## The front

pub route_front : (header sheet : List ℕ) → route_of (take 16 header) sheet ≡ route_of header sheet
unfolding route_of
route_front header sheet = ap (λ (r : Reading). from_reading r sheet) (read_front header)

-- "A header over 16 bytes is labelled by its front": which is the whole header's label
pub line_front : (sheet : List ℕ) (n : ℕ) (header : List ℕ) → line_over sheet n (take 16 header) ≡ line_over sheet n header
unfolding line_over line_with label_with
line_front sheet n header = rw (read_front header, route_front header sheet)

-- ## By an index

-- whose search answers as the router does over a sheet: the sheet's lines
pub lines_agree : (index sheet : List ℕ) → ((header : List ℕ) → search_of header index ≡ route_of header sheet)
    → line_by Index index ≡ line_over sheet
unfolding line_over routing_by
lines_agree index sheet same = ap line_with (λ z header. same header z)
