-- Document 02, E14: the script's bytes: "one length-first record a write, 12 header bytes and 4 data bytes in register order, unnamed
-- fields and bytes 0", "type 0 for the root bus and type 1 below", the first tag "a byte, one up each write, wrapping". Assumes nothing.
use Rattle.std.specs.Prelude.{ℕ, ◌+◌, ◌*◌, ◌/◌, ◌%◌, false, cond, List, [], ◌∷◌, ◌++◌, eqb, length, get_or}
use Rattle.endian.specs.Endian.{be_bytes}
use Rattle.pairs.specs.declared.ConfigKind.{ConfigKind}
use Rattle.pairs.specs.declared.ConfigKind.TheVariants.{CfgWr0, CfgWr1}
use Rattle.packet.specs.declared.Head.{Head}
use Rattle.packet.specs.declared.Packet.{Packet}
use Rattle.packet.specs.declared.Packet.TheVariants.{Config}
use Rattle.tlp_layout.specs.Layout.{layout}
use Rattle.script_writes.specs.declared.Boot.{Boot}
use Rattle.script_writes.specs.declared.Place.{Place}
use Rattle.script_writes.specs.Writes.{Write}

-- ## One write's header, with the codec's own layout

-- "unnamed fields 0"
abbrev pub head_with : ℕ → ℕ → Head
head_with requester tag =
    record { requester = requester; form = 3; attr = 0; length = 1; ep = false; tc = 0; tag = tag; td = false; at = 0 }

-- "type 0 for the root bus and type 1 below"
abbrev pub kind_for : ℕ → ℕ → ConfigKind
kind_for root id = cond (eqb (id / 256) root) CfgWr0 CfgWr1

abbrev pub packet_with : ConfigKind → ℕ → ℕ → Write → Packet
packet_with kind requester tag w =
    Config kind (head_with requester tag) (record { last = 0; first = w.enables }) (record { id = w.id; register = w.offset / 4 })

abbrev pub packet_of : Boot → ℕ → Write → Packet
packet_of boot tag w = packet_with (kind_for boot.root w.id) boot.requester tag w

-- ## The records

-- a record's length, and with the two bytes of its own length
abbrev pub write_size : ℕ
write_size = 16

abbrev pub write_stride : ℕ
write_stride = 2 + write_size

-- the four data bytes, whatever is planned
abbrev pub four_of : List ℕ → List ℕ
four_of bs = get_or bs 0 0 ∷ get_or bs 1 0 ∷ get_or bs 2 0 ∷ get_or bs 3 0 ∷ []

-- a record after its own length
abbrev pub write_part : Boot → ℕ → Write → List ℕ
write_part boot tag w = layout (packet_of boot tag w) ++ four_of w.bytes

unfoldable pub write_bytes : Boot → ℕ → Write → List ℕ
write_bytes boot tag w = be_bytes 2 write_size ++ write_part boot tag w

abbrev pub next_tag : ℕ → ℕ
next_tag tag = (tag + 1) % 256

-- the writes from a tag on
unfoldable pub script_from : Boot → ℕ → List Write → List ℕ
script_from boot tag [] = []
script_from boot tag (w ∷ ws) = write_bytes boot tag w ++ script_from boot (next_tag tag) ws

-- ## Where a writer stands: the next record's place in the room, and its tag

unfoldable pub tag_after : ℕ → List Write → ℕ
tag_after tag [] = tag
tag_after tag (w ∷ ws) = tag_after (next_tag tag) ws

abbrev pub place_after : Place → List Write → Place
place_after p ws = record { at = p.at + write_stride * length ws; tag = tag_after p.tag ws }
