-- The BARs that a set's slots hold, as the placing rule takes them. Assumes nothing.
use Rattle.std.specs.Prelude.{ℕ, suc, List, [], ◌∷◌}
use Rattle.plan_rule.specs.Records as placing
use Rattle.bar.specs.declared.Slot.{Slot}
use Rattle.bar.specs.declared.Slot.TheVariants.{Unused, Bar, Upper, Bad}

-- the first slot has number j
unfoldable pub bars_from : ℕ → List Slot → List placing.Bar
bars_from j [] = []
bars_from j (Unused ∷ xs) = bars_from (suc j) xs
bars_from j (Bar pool wide size ∷ xs) = record { slot = j; pool = pool; size = size } ∷ bars_from (suc j) xs
bars_from j (Upper ∷ xs) = bars_from (suc j) xs
bars_from j (Bad ∷ xs) = bars_from (suc j) xs
