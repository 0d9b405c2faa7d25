-- Document 01, "Bridges above a function: its parent record, that one's parent and so on, stopping short of the host". Assumes nothing.
use Rattle.std.specs.Prelude.{List, [], ◌∷◌, ℕ, zero, suc}
use Rattle.plan_rule.specs.Records.{Function}
use Rattle.plan_rule.specs.Preorder.{parent_of}

-- One step up, with the way on from there handed in: at the host, record 0, it ends
abbrev pub step_up : ℕ → (ℕ → List ℕ) → List ℕ
step_up zero on = []
step_up (suc p) on = suc p ∷ on (suc p)

unfoldable pub above_within : ℕ → List Function → ℕ → List ℕ
above_within zero fs k = []
above_within (suc n) fs k = step_up (parent_of fs k) (above_within n fs)

-- A parent is an earlier record, so the record's own number bounds the way up (`Above-parent`)
unfoldable pub above_by_parents : List Function → ℕ → List ℕ
above_by_parents fs k = above_within k fs k

-- Those above whatever stands on bus b, the bus of the host or of bridge b: the bridge itself, and those above it (`above_on_bus`)
abbrev pub above_bus : List Function → ℕ → List ℕ
above_bus fs b = step_up b (above_by_parents fs)
