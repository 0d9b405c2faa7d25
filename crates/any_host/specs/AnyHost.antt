-- A host record for a sheet of which no host is told: its root bus, buses to FFh, and the widest pools that check 26 lets through. It does
-- not say where the pools of the sheet's own host end. Assumes nothing.
use Rattle.std.specs.Prelude.{List, [], ◌∷◌, ℕ}
use Rattle.route.specs.Route.{root}

-- the bytes behind the root bus
abbrev pub widest_bytes : List ℕ
widest_bytes =
    255
    ∷ 0 ∷ 0 ∷ 0 ∷ 0 ∷ 255 ∷ 255 ∷ 255 ∷ 255
    ∷ 0 ∷ 0 ∷ 0 ∷ 1 ∷ 0 ∷ 0 ∷ 0 ∷ 0 ∷ 0 ∷ 15 ∷ 255 ∷ 255 ∷ 255 ∷ 255 ∷ 255 ∷ 255
    ∷ 0 ∷ 0 ∷ 255 ∷ 255 ∷ []

abbrev pub any_host : ℕ → List ℕ
any_host first = first ∷ widest_bytes

-- of a sheet
abbrev pub host_alone : List ℕ → List ℕ
host_alone s = any_host (root s)
