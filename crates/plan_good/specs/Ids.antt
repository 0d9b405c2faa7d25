-- IDs of a planned board differ, since siblings rise in device/function and different parents have different buses (28). Assumes nothing.
use Rattle.std.specs.Prelude.{◌≡◌, List, ℕ, ◌≤◌, ◌<◌, length}
use Rattle.plan_rule.specs.Records.{Function}
use Rattle.plan_rule.specs.Preorder.{parent_of}

-- "siblings in rising device/function order": of two records with one parent the later has the greater device/function
abbrev pub SiblingsRise : List Function → (ℕ → ℕ) → Type 0
SiblingsRise fs devfn = (j k : ℕ) → 0 < j → j < k → k ≤ length fs → parent_of fs j ≡ parent_of fs k → devfn j < devfn k
