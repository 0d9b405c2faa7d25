-- The bus ranges of a lawful board's bridges, secondary to subordinate: within the parent's or the host's, and siblings' apart.
-- Assumes nothing.
use Rattle.std.specs.Prelude.{ℕ, ◌≤◌, ◌<◌}
use Rattle.plan_rule.specs.Numbering.{Numbered}

-- The buses below bridge x have numbers from `first` to `last`
pub record BusesWithin (first last : ℕ) (x : Numbered) : Type 0 where
  pub from_first : first ≤ x.secondary
  pub to_last : x.subordinate ≤ last

-- x's numbers all come before y's
abbrev pub BusesBefore : Numbered → Numbered → Type 0
BusesBefore x y = x.subordinate < y.secondary
