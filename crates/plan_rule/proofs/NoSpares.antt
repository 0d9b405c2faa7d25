-- A board without spares, as every board of version 1 is: its bridges take a number each, subordinates end with what is below, and a low
-- window is sized by what lies in it. Assumes nothing.
use Rattle.std.specs.Prelude.{◌≡◌, Bool, true, false, cond, List, [], ◌∷◌, ◌++◌, get_or, take}
use Rattle.std.proofs.Math.Path.{refl}
use Rattle.std.proofs.Common.{append-nil, arith}
use Prim.Native.Nat.{ℕ, zero, suc, ◌+◌}
use Rattle.lists.specs.Lists.{All}
use Rattle.plan_rule.specs.Pools.{Pool, low, high, io}
use Rattle.plan_rule.specs.Records.{Function}
use Rattle.plan_rule.specs.Preorder.{parent_of}
use Rattle.plan_rule.specs.Layout.{Piece, select}
use Rattle.plan_rule.specs.Pieces.{content_of}
use Rattle.plan_rule.specs.Numbering.{own_spare, bridges, bridge_count, spare_count, overs_from, over, bus_number, last_below}
use Rattle.plan_rule.specs.Numbering.{subordinate_of}
use Rattle.plan_rule.proofs.NumberingLaws.{bridges_and_spares}

pub record NoSpare (f : Function) : Type 0 where
  pub no_buses : f.spare_buses ≡ 0
  pub no_room : f.spare_low ≡ 0

abbrev pub NoSpares : List Function → Type 0
NoSpares = All NoSpare

own_none : (f : Function) → NoSpare f → own_spare f ≡ 0
own_none f n = go f.bridge
  where
    go : (t : Bool) → cond t f.spare_buses 0 ≡ 0
    go true = n.no_buses
    go false = refl

spare_count_none : (fs : List Function) → NoSpares fs → spare_count fs ≡ 0
unfolding spare_count
spare_count_none [] n = refl
spare_count_none (f ∷ fs) n = omega (arith, own_none f n.0, spare_count_none fs n.1)

abbrev Zeros : List ℕ → Type 0
Zeros acc = (i : ℕ) → get_or acc i 0 ≡ 0

zeros_snoc : (acc : List ℕ) (v : ℕ) → v ≡ 0 → Zeros acc → Zeros (acc ++ (v ∷ []))
zeros_snoc [] v e h zero = e
zeros_snoc [] v e h (suc i) = refl
zeros_snoc (x ∷ acc) v e h zero = h 0
zeros_snoc (x ∷ acc) v e h (suc i) = zeros_snoc acc v e (λ j. h (suc j)) i

overs_none : (acc : List ℕ) (fs : List Function) → NoSpares fs → Zeros acc → Zeros (overs_from acc fs)
unfolding overs_from
overs_none acc [] n h = h
overs_none acc (f ∷ fs) n h =
    let v = get_or acc f.parent 0 + own_spare f in
    overs_none (acc ++ (v ∷ [])) fs n.1 (zeros_snoc acc v (omega (arith, h f.parent, own_none f n.0)) h)

module _ (fs : List Function) (none : NoSpares fs) where
  over_none : (k : ℕ) → over fs k ≡ 0
  unfolding over
  over_none = overs_none (0 ∷ []) fs none zeros
    where
      zeros : Zeros (0 ∷ [])
      zeros zero = refl
      zeros (suc i) = refl

  -- "first bus + bridges"
  pub bridges_counted : bridges fs ≡ bridge_count fs
  bridges_counted = omega (arith, bridges_and_spares fs, spare_count_none fs none)

  -- "Bridges take the next numbers in record order as secondary"
  pub bus_number_counted : (first k : ℕ) → bus_number first fs k ≡ first + bridges (take k fs)
  unfolding bus_number
  bus_number_counted first k = omega (arith, over_none k)

  -- a subordinate is the number of the last record below
  pub subordinate_counted : (first k : ℕ) → subordinate_of first fs k ≡ first + bridges (take (last_below fs k) fs)
  unfolding subordinate_of
  subordinate_counted first k = omega (arith, over_none (parent_of fs k))

-- a window's content is what lies on its bus
pub content_alone : (k : ℕ) (q : Pool) (rest : List Piece) → content_of k 0 q rest ≡ select k q rest
content_alone k low rest = append-nil (select k low rest)
content_alone k high rest = append-nil (select k high rest)
content_alone k io rest = append-nil (select k io rest)
