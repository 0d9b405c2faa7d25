-- Document 02, E8, over every sheet that has one owner for every address, as an accepted one has: a search among the sorted owners, by the
-- key of what the packet is looked for by, comes to what the router's walk comes to. Assumes nothing.
use Rattle.std.specs.Prelude.{◌≡◌, refl, Bool, true, false, cond, ℕ, ◌+◌, ◌-◌, ◌/◌, ◌%◌, ◌<◌, length, eqb, ltb}
use Rattle.std.proofs.Common.{sym, ap, ◌∙◌, arith, ltb-true, ltb-false, lt-ltb, le-ltb}
use mathlib.Core.List.{List, [], ◌∷◌}
use Rattle.endian.specs.Endian.{Bytes}
use Rattle.lists.specs.Lists.{keep}
use Rattle.pools.specs.declared.Space.{Space}
use Rattle.pools.specs.declared.Space.TheVariants.{Memory, Io as Ports}
use Rattle.board_record.specs.Host.{host_of_part}
use Rattle.walk.specs.Registers.{Node, root_of}
use Rattle.walk.specs.Tally.{none, join, tally_on}
use Rattle.walk.specs.Walk.{Outcome, refused, no_owner, walk_from}
use Rattle.walk.proofs.WalkLaws.{walk_none}
use Rattle.walk.specs.Ids.{tally_by_id}
use Rattle.walk.specs.Good.{FirstOn}
use Rattle.walk.proofs.Delivery.{outcome_of, outcome_from_first, root_is_first}
use Rattle.sheet.specs.Spaces.{registers_of, nodes_of, enabled_of}
use Rattle.sheet.proofs.SheetLaws.{passes_of_zero}
use Rattle.claims.specs.declared.Aim.{Aim}
use Rattle.claims.specs.declared.Aim.TheVariants.{Address, Id}
use Rattle.route.specs.Route.{walked, root}
use Rattle.audit_rule.specs.Host.{host_for}
use Rattle.audit_rule.specs.Accepted.{OneOwner}
use Rattle.audit_rule.proofs.AcceptedLaws.{sound_of_one_owner}
use Rattle.index_layout.specs.Keys.{memory_end, io_size, id_size, io_base, id_base, no_key}
use Rattle.index_rule.specs.Owners.{Owner, end_of, key_of, in_reach, owners_of}
use Rattle.index_rule.specs.Search.{sorted_owners, key_at, word_at, Last, answer_at}
use Rattle.index_rule.proofs.InsertLaws.{length_inserted}
use Rattle.index_rule.proofs.Answered.{on_line}
use Rattle.index_rule.proofs.IdsLaws.{outcome_by_id}
use Rattle.index_rule.proofs.SearchLaws.{outcome_of_last}
use Rattle.index_rule.proofs.LineLaws.{owners_fit, owners_answered, past_space, past_ids}

-- a sheet with no functions has no claims by ID
tally_of_none : (target devfn bus : ℕ) → tally_by_id [] target devfn bus ≡ none
unfolding tally_by_id keep join
tally_of_none target devfn bus = go (eqb bus target)
  where
    go : (t : Bool) → cond t none none ≡ none
    go true = refl
    go false = refl

by_id_from_first : (first : ℕ) (ns : List Node) → FirstOn first ns → (id : ℕ)
    → walk_from (tally_by_id ns (id / 256) (id % 256)) (root_of ns) 0 ≡ outcome_by_id first ns id
by_id_from_first first [] on id =
    walk_none _ _ 0 (tally_of_none (id / 256) (id % 256) 0) ∙ sym (walk_none _ _ 0 (tally_of_none (id / 256) (id % 256) first))
by_id_from_first first (n ∷ ns) on id = ap (λ (b : ℕ). walk_from (tally_by_id (n ∷ ns) (id / 256) (id % 256)) b 0) on

module _ (host s : List ℕ) (host_bytes_lem : Bytes host) (bytes : Bytes s) (a : OneOwner host s) where
  abbrev top : ℕ
  top = (host_of_part host).first_bus

  -- the root bus is the host's first, if there is a function
  pub root_of_sound : 0 < length (nodes_of s) → root s ≡ top
  root_of_sound some = root_is_first top (nodes_of s) (a.tree Memory).first_on_root some

  -- ## The router's walk, by space and by ID

  walk_of_address : (sp : Space) (address : ℕ)
      → walked (Address sp address) s (root s) 0 ≡ outcome_of (host_for sp (host_of_part host)) (enabled_of sp s) (registers_of sp s) address
  walk_of_address sp address =
      ap (λ (ns : List Node). walk_from (tally_on (enabled_of sp s) (registers_of sp s) address) (root_of ns) 0)
      (sym ((passes_of_zero s bytes a.passes).nodes_are sp))
      ∙ outcome_from_first (registers_of sp s) (sound_of_one_owner host s bytes a sp).tree (enabled_of sp s) address

  walk_of_id : (id : ℕ) → walked (Id id) s (root s) 0 ≡ outcome_by_id top (nodes_of s) id
  walk_of_id id = by_id_from_first top (nodes_of s) (a.tree Memory).first_on_root id

  -- ## Out of reach

  pub walked_out_of_reach : (aim : Aim) → in_reach aim ≡ false → walked aim s (root s) 0 ≡ refused no_owner
  walked_out_of_reach (Address sp address) e =
      walk_of_address sp address ∙ past_space host s host_bytes_lem bytes a sp address (ltb-false address (end_of sp) e)
  walked_out_of_reach (Id id) e = walk_of_id id ∙ past_ids host s host_bytes_lem bytes a id (ltb-false id id_size e)

  -- ## In reach

  abbrev by_key : ℕ → Outcome
  by_key key =
      on_line id_base
      (on_line io_base (outcome_of (host_for Memory (host_of_part host)) (enabled_of Memory s) (registers_of Memory s))
      (outcome_of (host_for Ports (host_of_part host)) (enabled_of Ports s) (registers_of Ports s)))
      (outcome_by_id top (nodes_of s)) key

  walked_by_key : (aim : Aim) → in_reach aim ≡ true → walked aim s (root s) 0 ≡ by_key (key_of aim)
  walked_by_key (Address Memory address) e =
      let near = ltb-true address memory_end e in
      let first : ltb address id_base ≡ true = lt-ltb address id_base (omega (arith, near)) in
      walk_of_address Memory address ∙ rw (first, e) refl
  walked_by_key (Address Ports address) e =
      let near = ltb-true address io_size e in
      let first : ltb (io_base + address) id_base ≡ true = lt-ltb (io_base + address) id_base (omega (arith, near)) in
      let second : ltb (io_base + address) io_base ≡ false = le-ltb (io_base + address) io_base (omega arith) in
      let same : io_base + address - io_base ≡ address = omega arith in
      walk_of_address Ports address ∙ rw (first, second, same) refl
  walked_by_key (Id id) e =
      let past : ltb (id_base + id) id_base ≡ false = le-ltb (id_base + id) id_base (omega arith) in
      let same : id_base + id - id_base ≡ id = omega arith in
      walk_of_id id ∙ rw (past, same) refl

  pub key_near : (aim : Aim) → in_reach aim ≡ true → key_of aim < no_key
  key_near (Address Memory address) e = omega (arith, ltb-true address memory_end e)
  key_near (Address Ports address) e = omega (arith, ltb-true address io_size e)
  key_near (Id id) e = omega (arith, ltb-true id id_size e)

  -- the last of m positions whose key is not above decides
  pub walked_at_last : (aim : Aim) → in_reach aim ≡ true → (m p : ℕ) → length (sorted_owners host s) < m
      → Last (key_at (sorted_owners host s)) m (key_of aim) p
      → walked aim s (root s) 0 ≡ answer_at (key_at (sorted_owners host s) p) (word_at (sorted_owners host s) p) (key_of aim)
  unfolding sorted_owners
  walked_at_last aim e m p room last =
      let few = length_inserted (λ (x : Owner). x.start) [] (owners_of host s) in
      walked_by_key aim e
      ∙ outcome_of_last (owners_of host s) (owners_answered host s host_bytes_lem bytes a) (owners_fit host s host_bytes_lem bytes a) m (key_of aim)
      (omega (arith, room, few)) (key_near aim e) p last
