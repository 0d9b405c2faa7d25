-- A BAR's claim, by address or by ID, is that of a record of the sheet. Assumes nothing.
use Rattle.std.specs.Prelude.{◌≡◌, refl, Bool, true, false, cond, ◌⊎◌, ℕ, suc, ◌+◌, ◌/◌, ◌%◌, ◌≤◌, ◌<◌, length, eqb}
use Rattle.std.proofs.Common.{ap, subst, inl, inr, suc-ne-zero, arith}
use mathlib.Core.List.Memᴰ
use mathlib.Core.List.{List, [], ◌∷◌, map}
use Rattle.lists.specs.Lists.{◌∈◌, keep}
use Rattle.lists.specs.KeepLaws.{keep_elim}
use Rattle.pools.specs.declared.Space.{Space}
use Rattle.walk.specs.Registers.{Node, bar}
use Rattle.walk.proofs.RegistersLaws.{node_mem}
use Rattle.walk.specs.Tally.{none, one, join, tally_on}
use Rattle.walk.proofs.TallyLaws.{claims_of_one, bar_of_tally}
use Rattle.walk.specs.Ids.{has_id, leads_toward, bridge_claim, first_of, tally_by_id}
use Rattle.sheet_record.specs.Entry.{Entry}
use Rattle.sheet_record.specs.Spaces.{node_of}
use Rattle.sheet.specs.Sheet.{entries_of}
use Rattle.sheet.proofs.SheetLaws.{nodes_functions}
use Rattle.sheet.specs.Spaces.{nodes_from, nodes_of, registers_of, enabled_of}
use Rattle.claims.specs.declared.Aim.{Aim}
use Rattle.claims.specs.declared.Aim.TheVariants.{Address, Id}
use Rattle.claims.specs.Claims.{tally_for}

-- records k and on
number_lt : (k : ℕ) (es : List Entry) (n : Node) → n ∈ nodes_from k es → n.number < k + length es
unfolding nodes_from
number_lt k [] n m = absurd (Memᴰ.not-nil m)
number_lt k (e ∷ es) n m = go (Memᴰ.cases_cons m) (number_lt (k + 1) es n)
  where
    go : (n ≡ node_of k e) ⊎ (n ∈ nodes_from (k + 1) es) → (n ∈ nodes_from (k + 1) es → n.number < k + 1 + length es)
        → n.number < k + suc (length es)
    go (inl same) later = omega (arith, ap (λ (x : Node). x.number) same)
    go (inr m) later = omega (arith, later m)

module _ (s : List ℕ) where
  abbrev InSheet : ℕ → Type 0
  InSheet number = number ≤ length (entries_of s)

  node_in : (n : Node) → n ∈ nodes_of s → InSheet n.number
  node_in n m = omega (arith, number_lt 1 (entries_of s) n m)

  bar_in_lem : (space : Space) (address bus number : ℕ) → tally_on (enabled_of space s) (registers_of space s) address bus ≡ one (bar number)
      → InSheet number
  bar_in_lem space address bus number e =
      let claim = bar_of_tally (enabled_of space s) (registers_of space s) address bus number e in
      let node = claim.owner.node in
      let here : node ∈ nodes_of s = subst (node ∈◌) (nodes_functions space 1 (entries_of s)) (node_mem claim.in_sheet) in
      omega (arith, node_in node here, claim.number_is)

  first_in : (ns : List Node) (number : ℕ) → ((n : Node) → n ∈ ns → n ∈ nodes_of s) → first_of ns ≡ one (bar number) → InSheet number
  first_in [] number inside e = absurd (suc-ne-zero 0 (cc))
  first_in (n ∷ ns) number inside e =
      let same : n.number ≡ number = cc in
      omega (arith, node_in n (inside n (Memᴰ.head refl)))

  -- a bridge's claim is no BAR's
  no_bar : (ns : List Node) (number : ℕ) → map bridge_claim ns ≡ bar number ∷ [] → ⊥
  no_bar [] number e = suc-ne-zero 0 (cc)
  no_bar (n ∷ ns) number e = suc-ne-zero 0 (cc)

  id_in_lem : (target devfn bus number : ℕ) → tally_by_id (nodes_of s) target devfn bus ≡ one (bar number) → InSheet number
  unfolding tally_by_id
  id_in_lem target devfn bus number e = go (eqb bus target) e
    where
      here : List Node
      here = keep (has_id target devfn) (nodes_of s)

      toward : List Node
      toward = keep (leads_toward target bus) (nodes_of s)

      go : (b : Bool) → cond b (first_of here) (join none (map bridge_claim toward)) ≡ one (bar number) → InSheet number
      go true e = first_in here number (λ n m. (keep_elim (has_id target devfn) (nodes_of s) m).0) e
      go false e = absurd (no_bar toward number (claims_of_one (map bridge_claim toward) (bar number) e))

  pub claim_in_sheet : (aim : Aim) (bus number : ℕ) → tally_for aim s bus ≡ one (bar number) → number ≤ length (entries_of s)
  claim_in_sheet (Address space address) bus number e = bar_in_lem space address bus number e
  claim_in_sheet (Id id) bus number e = id_in_lem (id / 256) (id % 256) bus number e
