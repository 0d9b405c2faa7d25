-- Document 02, E8: the owners of an accepted sheet: each BAR of a function that is enabled with all bridges above it, and each function's
-- ID, with the function's number and the number of bridges above it; where each stands among the keys of an index. Assumes nothing.
use Rattle.std.specs.Prelude.{Bool, cond, ◌&&◌, ℕ, zero, suc, ◌+◌, ◌-◌, ◌*◌, ◌/◌, ◌≤◌, ◌<◌, length, leb, ltb}
use mathlib.Core.List.{List, [], ◌++◌, map, flat_map}
use Rattle.lists.specs.Lists.{keep}
use Rattle.pools.specs.declared.Space.{Space}
use Rattle.pools.specs.declared.Space.TheVariants.{Memory, Io as Ports}
use Rattle.board_record.specs.Host.{host_of_part}
use Rattle.walk.specs.Ranges.{Range}
use Rattle.walk.specs.Registers.{Node, Registers}
use Rattle.walk.specs.Above.{above}
use Rattle.sheet.specs.Spaces.{registers_of, nodes_of, enabled_of}
use Rattle.sheet_above.specs.Bridges.{all_enabled}
use Rattle.claims.specs.declared.Aim.{Aim}
use Rattle.claims.specs.declared.Aim.TheVariants.{Address, Id}
use Rattle.index_layout.specs.Keys.{low_end, memory_end, io_size, id_size, io_base, id_base}
use Rattle.index_layout.specs.Words.{word_from}

-- from `start` to before `stop`: the record with this number, behind so many bridges
pub record Owner : Type 0 where
  pub start : ℕ
  pub stop : ℕ
  pub number : ℕ
  pub bridges : ℕ

pub record Over (x : Owner) (a : ℕ) : Type 0 where
  pub from_start : x.start ≤ a
  pub before_stop : a < x.stop

-- ## By address: the BARs of a function, if it and each bridge above it are enabled. `top` is the root bus, ns are the sheet's functions.

abbrev pub is_live : ℕ → List Node → (ℕ → Bool) → Node → Bool
is_live top ns enabled n = enabled n.number && all_enabled enabled (above top ns n.bus)

abbrev pub bar_owner : ℕ → List Node → Node → Range → Owner
bar_owner top ns n r = record { start = r.start; stop = r.stop; number = n.number; bridges = length (above top ns n.bus) }

abbrev pub owners_on : ℕ → List Node → (ℕ → Bool) → Registers → List Owner
owners_on top ns enabled f = cond (is_live top ns enabled f.node) (map (bar_owner top ns f.node) f.bars) []

unfoldable pub owned : ℕ → List Node → (ℕ → Bool) → List Registers → List Owner
owned top ns enabled fs = flat_map (owners_on top ns enabled) fs

-- in record and register order
abbrev pub owned_in : Space → ℕ → List ℕ → List Owner
owned_in space top s = owned top (nodes_of s) (enabled_of space s) (registers_of space s)

-- ## By ID, whatever the command words say

abbrev pub id_of : Node → ℕ
id_of n = n.bus * 256 + n.devfn

abbrev pub id_owner : ℕ → List Node → Node → Owner
id_owner top ns n =
    record { start = id_of n; stop = suc (id_of n); number = n.number; bridges = length (above top ns n.bus) }

-- ## One line of keys: memory at its address, then I/O, then IDs

-- where the addresses that may have an owner end
abbrev pub end_of : Space → ℕ
end_of Memory = memory_end
end_of Ports = io_size

abbrev pub key_of : Aim → ℕ
key_of (Address Memory a) = a
key_of (Address Ports a) = io_base + a
key_of (Id id) = id_base + id

-- an address that may have an owner
abbrev pub in_reach : Aim → Bool
in_reach (Address space a) = ltb a (end_of space)
in_reach (Id id) = ltb id id_size

abbrev pub moved : ℕ → Owner → Owner
moved base x = record { start = base + x.start; stop = base + x.stop; number = x.number; bridges = x.bridges }

-- ## The owners of a sheet, in the order in which they are inserted

-- What one pass over the records inserts: of a space, what starts from `first` on and before `end`; its address 0 has the key `base`.
pub record Segment : Type 0 where
  pub space : Space
  pub first : ℕ
  pub end : ℕ
  pub base : ℕ

abbrev pub low_memory : Segment
low_memory = record { space = Memory; first = 0; end = low_end; base = 0 }

abbrev pub high_memory : Segment
high_memory = record { space = Memory; first = low_end; end = memory_end; base = 0 }

abbrev pub ports : Segment
ports = record { space = Ports; first = 0; end = io_size; base = io_base }

abbrev pub starts_in : Segment → Owner → Bool
starts_in g x = leb g.first x.start && ltb x.start g.end

unfoldable pub owned_of : Segment → ℕ → List ℕ → List Owner
owned_of g top s = map (moved g.base) (keep (starts_in g) (owned_in g.space top s))

unfoldable pub id_owners : ℕ → List ℕ → List Owner
id_owners top s = map (λ n. moved id_base (id_owner top (nodes_of s) n)) (nodes_of s)

-- below the root bus
unfoldable pub owners_below : ℕ → List ℕ → List Owner
owners_below top s = owned_of low_memory top s ++ (owned_of high_memory top s ++ (owned_of ports top s ++ id_owners top s))

-- the root bus is the host record's first bus
abbrev pub owners_of : List ℕ → List ℕ → List Owner
owners_of host s = owners_below (host_of_part host).first_bus s

-- ## As an index holds them: the start as the key, and a word

-- the exponent of a power of two, by halving
unfoldable pub exponent_over : ℕ → ℕ → ℕ
exponent_over zero size = 0
exponent_over (suc k) size = cond (leb size 1) 0 (suc (exponent_over k (size / 2)))

-- a size has at most 64 bits
unfoldable pub exponent_of : ℕ → ℕ
exponent_of size = exponent_over 64 size

abbrev pub word_of : Owner → ℕ
word_of x = word_from (exponent_of (x.stop - x.start)) x.bridges x.number
