-- Who stands above the functions of a bus: the host on the root bus; else the bridge whose secondary bus it is (document 02, E11's "bridge
-- above"), if there is exactly one (E6's parent). Assumes nothing.
use Rattle.std.specs.Prelude.{Bool, cond, List, [], ◌∷◌, ℕ, ◌+◌, eqb}
use Rattle.lists.specs.Lists.{keep}
use Rattle.walk.specs.Above.{is_above}
use Rattle.sheet_record.specs.Entry.{Entry}
use Rattle.sheet_record.specs.Spaces.{node_of}

-- a bridge whose secondary bus it is, whatever its number
abbrev pub leads_to : ℕ → Entry → Bool
leads_to bus e = is_above bus (node_of 0 e)

-- all of these, in record order
abbrev pub leaders_of : List Entry → ℕ → List Entry
leaders_of es bus = keep (leads_to bus) es

pub data Parent : Type 0 where
  under_host : Parent
  under_bridge : Entry → Parent
  under_none : Parent
  under_several : Parent

-- none, one or several
abbrev pub parent_among : List Entry → Parent
parent_among [] = under_none
parent_among (b ∷ []) = under_bridge b
parent_among (b ∷ c ∷ bs) = under_several

abbrev pub parent_of : ℕ → List Entry → ℕ → Parent
parent_of root es bus = cond (eqb bus root) under_host (parent_among (leaders_of es bus))

-- ## By number, as a table of buses has it: 0 where no bridge leads there, one bridge's record number, 65535 for more

abbrev pub several : ℕ
several = 65535

-- what two parts of a sheet say of one bus
abbrev pub joined : ℕ → ℕ → ℕ
joined n m = cond (eqb n 0) m (cond (eqb m 0) n several)

-- of records that are numbered from k on
unfoldable pub leader_from : ℕ → List Entry → ℕ → ℕ
leader_from k [] bus = 0
leader_from k (e ∷ es) bus = joined (cond (leads_to bus e) k 0) (leader_from (k + 1) es bus)

abbrev pub leader_of : List Entry → ℕ → ℕ
leader_of es bus = leader_from 1 es bus
