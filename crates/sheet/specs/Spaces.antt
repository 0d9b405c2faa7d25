-- Document 01, "The walk": what the walk reads of a sheet in one address space: its functions, numbered from 1, and apart from these which
-- of them are enabled, and which are bus masters. Assumes nothing.
use Rattle.std.specs.Prelude.{ℕ, ◌+◌, Bool, List, [], ◌∷◌, map}
use Rattle.pools.specs.declared.Space.{Space}
use Rattle.walk.specs.Registers.{Node, Registers, enabled_in}
use Rattle.sheet_record.specs.Entry.{Entry}
use Rattle.sheet_record.specs.Spaces.{node_of, function_of, command_bit, space_bit, master_bit}
use Rattle.sheet.specs.Sheet.{entries_of, commands_of}

unfoldable pub functions_from : Space → ℕ → List Entry → List Registers
functions_from space k [] = []
functions_from space k (e ∷ es) = function_of space k e ∷ functions_from space (k + 1) es

unfoldable pub nodes_from : ℕ → List Entry → List Node
nodes_from k [] = []
nodes_from k (e ∷ es) = node_of k e ∷ nodes_from (k + 1) es

abbrev pub registers_of : Space → List ℕ → List Registers
registers_of space s = functions_from space 1 (entries_of s)

-- the same in every space
abbrev pub nodes_of : List ℕ → List Node
nodes_of s = nodes_from 1 (entries_of s)

-- a bit of the command words, by the record's number
abbrev pub bit_of : ℕ → List ℕ → ℕ → Bool
bit_of bit s = enabled_in (map (command_bit bit) (commands_of s))

abbrev pub enabled_of : Space → List ℕ → ℕ → Bool
enabled_of space s = bit_of (space_bit space) s

abbrev pub master_of : List ℕ → ℕ → Bool
master_of s = bit_of master_bit s
