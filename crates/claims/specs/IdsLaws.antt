-- One turn of a search by ID over a checked sheet, in the words of the code: for the function with an ID, and for the bridges toward a bus.
-- Assumes nothing.
use Rattle.std.specs.Prelude.{◌≡◌, Bool, ◌&&◌, ℕ, ◌+◌, ◌/◌, ◌%◌, ◌≤◌, ◌<◌, length, eqb, leb}
use Rattle.std.proofs.Math.Path.{refl, sym, ap}
use Rattle.std.proofs.Common.{◌∙◌, arith}
use Rattle.std.proofs.Math.Bool.{true, false, and-eq-true_iff}
use mathlib.Core.List.{List, [], ◌∷◌, map}
use borrow.Author.Tests.{eq-eqb, ne_eqb, eqb-true}
use Rattle.lists.specs.Lists.{keep}
use Rattle.lists.specs.KeepLaws.{keep_nil, keep_yes, keep_no}
use Rattle.walk.specs.Ranges.{buses, holds}
use Rattle.walk.proofs.Ranges.{holds_last}
use Rattle.walk.specs.Registers.{window, Node, Claim, bar}
use Rattle.walk.specs.Tally.{none, Tally, one, join}
use Rattle.walk.proofs.TallyLaws.{join_append}
use Rattle.walk.specs.Good.{bus_range}
use Rattle.walk.specs.Ids.{has_id, leads_toward, bridge_claim, first_of, tally_by_id}
use Rattle.sheet_record.specs.Spaces.{node_of}
use Rattle.sheet_record.specs.Entry.{id_of, bus_of, header_of, is_bridge, secondary_of, subordinate_of, entry_of}
use Rattle.sheet.specs.Sheet.{entries_from, entries_of, part_at, record_at}
use Rattle.sheet.proofs.CheckLaws.{entries_past, count_entries}
use Rattle.sheet.proofs.IndexLaws.{entries_index}
use Rattle.sheet.proofs.SheetLaws.{Checked}
use Rattle.sheet.specs.Spaces.{nodes_from, nodes_of}
use Rattle.claims.specs.HitsLaws.{join_nil}

-- ## The tests of one record

module _ (target b : ℕ) (p : List ℕ) where
  pub leads_off : (bus_of p ≡ b → ⊥) → false ≡ leads_toward target b (node_of 0 (entry_of p))
  unfolding entry_of
  leads_off h = rw (ne_eqb (bus_of p) b h)

  pub leads_end : bus_of p ≡ b → is_bridge (header_of p) ≡ false → false ≡ leads_toward target b (node_of 0 (entry_of p))
  unfolding entry_of
  leads_end h e = rw (eq-eqb (bus_of p) b h, e)

  pub leads_bridge : bus_of p ≡ b → is_bridge (header_of p) ≡ true
      → (leb (secondary_of p) target && leb target (subordinate_of p)) ≡ leads_toward target b (node_of 0 (entry_of p))
  unfolding entry_of
  leads_bridge h e = rw (eq-eqb (bus_of p) b h, e) (sym (holds_last buses (secondary_of p) (subordinate_of p) target))

-- ## What is left

abbrev nodes_left : List ℕ → ℕ → List Node
nodes_left s k = nodes_from (k + 1) (entries_from s (record_at k))

-- the function with the ID from record k on, and the claims of the bridges toward the target from there on
unfoldable pub owner_from : ℕ → List ℕ → ℕ → Tally
owner_from id s k = first_of (keep (has_id (id / 256) (id % 256)) (nodes_from (k + 1) (entries_from s (record_at k))))

unfoldable pub toward_from : ℕ → ℕ → List ℕ → ℕ → List Claim
toward_from target b s k = map bridge_claim (keep (leads_toward target b) (nodes_from (k + 1) (entries_from s (record_at k))))

pub owner_start : (id : ℕ) (s : List ℕ) → owner_from id s 0 ≡ first_of (keep (has_id (id / 256) (id % 256)) (nodes_of s))
unfolding owner_from
owner_start id s = refl

pub toward_start : (target b : ℕ) (s : List ℕ)
    → join none (toward_from target b s 0) ≡ join none (map bridge_claim (keep (leads_toward target b) (nodes_of s)))
unfolding toward_from
toward_start target b s = refl

-- n records in all
module _ (s : List ℕ) (c : Checked s) (n k : ℕ) (count : n ≡ length (entries_of s)) where
  module _ (h : n ≤ k) where
    nodes_end : nodes_left s k ≡ []
    unfolding nodes_from
    nodes_end = ap (nodes_from (k + 1)) (entries_past s (record_at k) (omega (arith, count_entries s c.framed)))

    pub owner_end : (id : ℕ) → none ≡ owner_from id s k
    unfolding owner_from
    owner_end id = let has = has_id (id / 256) (id % 256) in sym (ap first_of (ap (keep has) nodes_end ∙ keep_nil has))

    pub toward_end : (target b : ℕ) (t : Tally) → t ≡ join t (toward_from target b s k)
    unfolding toward_from
    toward_end target b t =
        let leads = leads_toward target b in
        sym (ap (λ (ns : List Node). join t (map bridge_claim ns)) (ap (keep leads) nodes_end ∙ keep_nil leads) ∙ join_nil t)

  -- p is the part of record k
  module _ (h : k < n) (p : List ℕ) (e : p ≡ part_at s k) where
    node : Node
    node = node_of (k + 1) (entry_of p)

    nodes_step : nodes_left s k ≡ node ∷ nodes_left s (k + 1)
    unfolding node nodes_from
    nodes_step = rw e (ap (nodes_from (k + 1)) (entries_index s c.framed k (omega arith)))

    module _ (id : ℕ) where
      pub owner_hit : id_of p ≡ id → one (bar (k + 1)) ≡ owner_from id s k
      unfolding owner_from node entry_of
      owner_hit q =
          let has = has_id (id / 256) (id % 256) in
          let high = eq-eqb (id_of p / 256) (id / 256) (ap (λ (i : ℕ). i / 256) q) in
          let low = eq-eqb (id_of p % 256) (id % 256) (ap (λ (i : ℕ). i % 256) q) in
          sym (ap first_of (ap (keep has) nodes_step ∙ keep_yes has node (nodes_left s (k + 1)) ((and-eq-true_iff _ _).1 (high, low))))

      differs : (id_of p ≡ id → ⊥) → has_id (id / 256) (id % 256) node ≡ false
      unfolding node entry_of
      differs q = go (has_id (id / 256) (id % 256) node) refl
        where
          go : (b : Bool) → has_id (id / 256) (id % 256) node ≡ b → b ≡ false
          go true y =
              let both = (and-eq-true_iff (eqb (id_of p / 256) (id / 256)) (eqb (id_of p % 256) (id % 256))).0 y in
              absurd (q (omega (arith, eqb-true (id_of p / 256) (id / 256) both.0, eqb-true (id_of p % 256) (id % 256) both.1)))
          go false y = refl

      pub owner_miss : (id_of p ≡ id → ⊥) → owner_from id s (k + 1) ≡ owner_from id s k
      unfolding owner_from
      owner_miss q =
          let has = has_id (id / 256) (id % 256) in
          sym (ap first_of (ap (keep has) nodes_step ∙ keep_no has node (nodes_left s (k + 1)) (differs q)))

    -- y is the test of the record
    module _ (target b : ℕ) (y : Bool) (test : y ≡ leads_toward target b (node_of 0 (entry_of p))) (t : Tally) where
      leads_is : leads_toward target b node ≡ y
      unfolding node
      leads_is = sym test

      pub toward_miss : y ≡ false → join t (toward_from target b s (k + 1)) ≡ join t (toward_from target b s k)
      unfolding toward_from
      toward_miss q =
          let leads = leads_toward target b in
          let passed = ap (keep leads) nodes_step ∙ keep_no leads node (nodes_left s (k + 1)) (leads_is ∙ q) in
          sym (ap (λ (ns : List Node). join t (map bridge_claim ns)) passed)

      secondary_is : y ≡ true → node.secondary ≡ secondary_of p
      unfolding node entry_of
      secondary_is q =
          let range = holds (bus_range node) target in
          let rest = ((and-eq-true_iff (eqb (bus_of p) b) (is_bridge (header_of p) && range)).0 (sym test ∙ q)).1 in
          rw ((and-eq-true_iff (is_bridge (header_of p)) range).0 rest).0

      -- u is the tally with its claim
      pub toward_hit : (u : Tally) (secondary : ℕ) → u ≡ join t (window (k + 1) secondary ∷ []) → secondary ≡ secondary_of p → y ≡ true
          → join u (toward_from target b s (k + 1)) ≡ join t (toward_from target b s k)
      unfolding toward_from node
      toward_hit u secondary w m q =
          let leads = leads_toward target b in
          let cs = map bridge_claim (keep leads (nodes_left s (k + 1))) in
          let kept = ap (keep leads) nodes_step ∙ keep_yes leads node (nodes_left s (k + 1)) (leads_is ∙ q) in
          ap (λ (z : Tally). join z cs) w
          ∙ sym (join_append t (window (k + 1) secondary ∷ []) cs)
          ∙ ap (λ (x : ℕ). join t (window (k + 1) x ∷ cs)) (m ∙ sym (secondary_is q))
          ∙ sym (ap (λ (ns : List Node). join t (map bridge_claim ns)) kept)

-- ## The two searches

module _ (s : List ℕ) (id b : ℕ) (t : Tally) where
  pub tally_on_target : b ≡ id / 256 → t ≡ first_of (keep (has_id (id / 256) (id % 256)) (nodes_of s))
      → t ≡ tally_by_id (nodes_of s) (id / 256) (id % 256) b
  unfolding tally_by_id
  tally_on_target h e = rw (eq-eqb b (id / 256) h) e

  pub tally_off_target : (b ≡ id / 256 → ⊥) → t ≡ join none (map bridge_claim (keep (leads_toward (id / 256) b) (nodes_of s)))
      → t ≡ tally_by_id (nodes_of s) (id / 256) (id % 256) b
  unfolding tally_by_id
  tally_off_target h e = rw (ne_eqb b (id / 256) h) e
