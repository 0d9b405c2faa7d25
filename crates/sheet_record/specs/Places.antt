-- Document 01, "The sheet": where everything stands in a record's part: "ID (2), the 64-byte configuration header (little-endian as PCI has
-- it; BARs from 10h, buses 18h, I/O 1Ch, memory 20h, high 24h and 28h; command and header type as given, the rest 0), six read-backs".
-- Assumes nothing.
use Rattle.std.specs.Prelude.{ℕ, ◌+◌, ◌*◌}

abbrev pub id_at : ℕ
id_at = 0

-- the configuration header stands after the ID, and its registers at PCI's offsets
abbrev pub registers_at : ℕ
registers_at = 2

abbrev pub registers_size : ℕ
registers_size = 64

abbrev pub register : ℕ → ℕ
register r = registers_at + r

abbrev pub command_at : ℕ
command_at = register 0x04

abbrev pub header_type_at : ℕ
header_type_at = register 0x0e

abbrev pub values_at : ℕ
values_at = register 0x10

-- a bridge has two BARs, and in the place of the others its buses and windows
abbrev pub primary_at : ℕ
primary_at = register 0x18

abbrev pub secondary_at : ℕ
secondary_at = register 0x19

abbrev pub subordinate_at : ℕ
subordinate_at = register 0x1a

abbrev pub io_base_at : ℕ
io_base_at = register 0x1c

abbrev pub io_limit_at : ℕ
io_limit_at = register 0x1d

abbrev pub low_base_at : ℕ
low_base_at = register 0x20

abbrev pub low_limit_at : ℕ
low_limit_at = register 0x22

abbrev pub high_base_at : ℕ
high_base_at = register 0x24

abbrev pub high_limit_at : ℕ
high_limit_at = register 0x26

abbrev pub upper_base_at : ℕ
upper_base_at = register 0x28

abbrev pub upper_limit_at : ℕ
upper_limit_at = register 0x2c

abbrev pub readbacks_at : ℕ
readbacks_at = register registers_size

-- the length of a record's part: 90 bytes
abbrev pub record_size : ℕ
record_size = readbacks_at + 6 * 4

-- with its own length before it a record takes 92 bytes of the sheet
abbrev pub stride : ℕ
stride = 2 + record_size
