-- Document 01, The walk: the claims to an address on a bus, and their tally: none, one or several. Assumes nothing.
use Rattle.std.specs.Prelude.{Bool, ◌&&◌, List, [], ◌∷◌, map, ℕ, eqb}
use Rattle.lists.specs.Lists.{keep}
use Rattle.walk.specs.Ranges.{Range, holds}
use Rattle.walk.specs.Registers.{Registers, Item, items_of, items, Claim}

pub data Tally : Type 0 where
  none : Tally
  one : Claim → Tally
  several : Tally

-- Joined with the claims that are left, a tally is the answer: `several` takes no more, so a search may stop at the second claim.
unfoldable pub join : Tally → List Claim → Tally
join t [] = t
join none (c ∷ cs) = join (one c) cs
join (one d) (c ∷ cs) = several
join several (c ∷ cs) = several

-- A BAR or window claims an address on its own bus, where its function is enabled and where it holds the address.
abbrev pub claims : (ℕ → Bool) → ℕ → ℕ → Item → Bool
claims enabled address bus i = eqb i.owner.node.bus bus && enabled i.owner.node.number && holds i.range address

abbrev pub claims_in : List Item → List Claim
claims_in is = map (λ (i : Item). i.claim) is

abbrev pub claims_of : (ℕ → Bool) → ℕ → ℕ → Registers → List Claim
claims_of enabled address bus f = claims_in (keep (claims enabled address bus) (items_of f))

abbrev pub claims_on : (ℕ → Bool) → List Registers → ℕ → ℕ → List Claim
claims_on enabled fs address bus = claims_in (keep (claims enabled address bus) (items fs))

unfoldable pub tally_on : (ℕ → Bool) → List Registers → ℕ → ℕ → Tally
tally_on enabled fs address bus = join none (claims_on enabled fs address bus)

-- One claim for each of these ranges that holds the address.
unfoldable pub hits_of : ℕ → Claim → List Range → List Claim
hits_of address c rs = map (λ (r : Range). c) (keep (λ r. holds r address) rs)
