-- A board's functions as numbering and placing see them, and what a lawful board's list of them keeps. Records are numbered from 1 in
-- list order; record 0 is the host. Assumes nothing.
use Rattle.std.specs.Prelude.{◌≡◌, Bool, true, ◌&&◌, ◌||◌, List, [], ◌∷◌, ℕ, suc, eqb, leb}
use Rattle.arith.specs.Powers.{PowerOfTwo}
use Rattle.lists.specs.Lists.{All, front}
use Rattle.plan_rule.specs.Pools.{Pool}

pub record Bar : Type 0 where
  pub slot : ℕ
  pub pool : Pool
  pub size : ℕ

-- Record 0. A pool with its base above its last is closed
pub record Host : Type 0 where
  pub first_bus : ℕ
  pub last_bus : ℕ
  pub base : Pool → ℕ
  pub last : Pool → ℕ

pub record Function : Type 0 where
  pub parent : ℕ
  pub bridge : Bool
  pub bars : List Bar
  pub spare_low : ℕ
  pub spare_buses : ℕ

-- The records that may be the parent of the next one: the host, the record before if it is a bridge, and the bridges above that one.
-- After record k with parent p they are k itself, if it is a bridge, and those up to p that were so before
abbrev pub parents_after : (ℕ → Bool) → ℕ → Function → ℕ → Bool
parents_after ok k f j = (eqb j k && f.bridge) || (ok j && leb j f.parent)

abbrev pub only_host : ℕ → Bool
only_host j = eqb j 0

-- Depth-first: each parent is one of those that may be, and so the host or an earlier bridge
abbrev pub DepthFirst : (ℕ → Bool) → ℕ → List Function → Type 0
DepthFirst ok k [] = Unit {0}
DepthFirst ok k (f ∷ fs) = (ok f.parent ≡ true) × DepthFirst (parents_after ok k f) (suc k) fs

-- The records that follow bridge b and are below it: those up to the first with a parent before b
abbrev pub run : ℕ → List Function → List Function
run b = front (λ f. leb b f.parent)

abbrev pub Sized : List Function → Type 0
Sized = All (λ f. All (λ b. PowerOfTwo b.size) f.bars)

pub record Lawful (fs : List Function) : Type 0 where
  pub ordered : DepthFirst only_host 1 fs
  pub sized : Sized fs
