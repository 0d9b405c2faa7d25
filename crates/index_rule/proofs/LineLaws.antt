-- The owners of a sound sheet: in whatever order, they are those of memory, of I/O and the IDs on one line of keys, and answer as the
-- walk does. Assumes nothing.
use Rattle.std.specs.Prelude.{◌≡◌, refl, ◌⊎◌, Bool, true, false, ℕ, ◌≤◌, ◌<◌, ltb}
use Rattle.std.proofs.Common.{sym, ap, ◌∙◌, inl, inr, arith}
use Rattle.std.proofs.Math.Path.{subst}
use Rattle.std.proofs.Math.Bool.{and-eq-true_iff}
use mathlib.Core.List.Memᴰ
use mathlib.Core.List.{List, ◌++◌, map}
use borrow.Author.Tests.{le-leb, lt-ltb, ltb-true, ltb-false}
use Rattle.endian.specs.Endian.{Bytes}
use Rattle.lists.specs.Lists.{◌∈◌, keep}
use Rattle.lists.specs.ListLaws.{all_intro}
use Rattle.lists.specs.KeepLaws.{keep_intro, keep_elim}
use Rattle.pools.specs.declared.Space.{Space}
use Rattle.pools.specs.declared.Space.TheVariants.{Memory, Io as Ports}
use Rattle.board_record.specs.Host.{host_of_part}
use Rattle.walk.specs.Registers.{Node}
use Rattle.walk.specs.Walk.{Outcome, refused, no_owner}
use Rattle.walk.proofs.Delivery.{outcome_of}
use Rattle.sheet.specs.Spaces.{registers_of, nodes_of, enabled_of}
use Rattle.sheet.proofs.SheetLaws.{Passes, passes_of_zero}
use Rattle.audit_rule.specs.Host.{host_for}
use Rattle.audit_rule.specs.Accepted.{OneOwner}
use Rattle.audit_rule.proofs.AcceptedLaws.{sound_of_one_owner}
use Rattle.index_layout.specs.Keys.{low_end, memory_end, io_size, id_size, io_base, id_base}
use Rattle.index_rule.specs.Owners.{Owner, owned, owned_in, id_owner, end_of}
use Rattle.index_rule.specs.Owners.{moved, Segment, low_memory, high_memory, ports, starts_in}
use Rattle.index_rule.specs.Owners.{owned_of, id_owners, owners_below, owners_of}
use Rattle.index_rule.proofs.Answered.{Answered, answered_same, on_line, answered_line}
use Rattle.index_rule.proofs.OwnedLaws.{owned_answered}
use Rattle.index_rule.proofs.IdsLaws.{outcome_by_id, ids_answered}
use Rattle.index_rule.proofs.WordLaws.{Fits}
use Rattle.index_rule.proofs.FitsLaws.{InSpace, starts_before, moved_zero, fits_moved, listed_node, in_space_lem, id_in_space}

module _ (host s : List ℕ) (host_bytes_lem : Bytes host) (bytes : Bytes s) (a : OneOwner host s) where
  abbrev top : ℕ
  top = (host_of_part host).first_bus

  passed : Passes s
  passed = passes_of_zero s bytes a.passes

  abbrev owners : Space → List Owner
  owners sp = owned_in sp top s

  fits_in : (sp : Space) (x : Owner) → x ∈ owners sp → InSpace (end_of sp) x
  fits_in sp x m = in_space_lem host s host_bytes_lem bytes a sp x m

  id_fits : (n : Node) → n ∈ nodes_of s → InSpace id_size (id_owner top (nodes_of s) n)
  id_fits n m = id_in_space host s host_bytes_lem bytes a n m

  -- ## The segments hold what their spaces hold

  segment_elim : (g : Segment) (x : Owner) → x ∈ owned_of g top s → (y : Owner) × (y ∈ owners g.space) × (moved g.base y ≡ x)
  unfolding owned_of
  segment_elim g x m =
      let (y, kept, is_x) = Memᴰ.of_map (moved g.base) (keep (starts_in g) (owners g.space)) m in
      (y, (keep_elim (starts_in g) (owners g.space) kept).0, is_x)

  segment_intro : (g : Segment) (y : Owner) → y ∈ owners g.space → g.first ≤ y.start → y.start < g.end
      → moved g.base y ∈ owned_of g top s
  unfolding owned_of
  segment_intro g y m from before =
      Memᴰ.map (moved g.base)
      (keep_intro (starts_in g) (owners g.space) m
      ((and-eq-true_iff _ _).1 (le-leb g.first y.start from, lt-ltb y.start g.end before)))

  memory_elim : (x : Owner) → (x ∈ owned_of low_memory top s) ⊎ (x ∈ owned_of high_memory top s) → x ∈ owners Memory
  memory_elim x (inl m) = let (y, n, e) = segment_elim low_memory x m in rw (sym e ∙ moved_zero y) n
  memory_elim x (inr m) = let (y, n, e) = segment_elim high_memory x m in rw (sym e ∙ moved_zero y) n

  memory_intro : (x : Owner) → x ∈ owners Memory → (x ∈ owned_of low_memory top s) ⊎ (x ∈ owned_of high_memory top s)
  memory_intro x m = go (ltb x.start low_end) refl
    where
      go : (t : Bool) → ltb x.start low_end ≡ t → (x ∈ owned_of low_memory top s) ⊎ (x ∈ owned_of high_memory top s)
      go true e = inl (rw (← moved_zero x) (segment_intro low_memory x m (omega arith) (ltb-true x.start low_end e)))
      go false e =
          inr
          (rw (← moved_zero x)
          (segment_intro high_memory x m (ltb-false x.start low_end e) (starts_before memory_end x (fits_in Memory x m))))

  ports_elim : (x : Owner) → x ∈ owned_of ports top s → x ∈ map (moved io_base) (owners Ports)
  ports_elim x m =
      let (y, n, e) = segment_elim ports x m in
      subst (λ (z : Owner). z ∈ map (moved io_base) (owners Ports)) e (Memᴰ.map (moved io_base) n)

  ports_intro : (x : Owner) → x ∈ map (moved io_base) (owners Ports) → x ∈ owned_of ports top s
  ports_intro x m =
      let (y, n, e) = Memᴰ.of_map (moved io_base) (owners Ports) m in
      subst (λ (z : Owner). z ∈ owned_of ports top s) e
      (segment_intro ports y n (omega arith) (starts_before io_size y (fits_in Ports y n)))

  abbrev ids : List Owner
  ids = map (id_owner top (nodes_of s)) (nodes_of s)

  ids_elim : (x : Owner) → x ∈ id_owners top s → x ∈ map (moved id_base) ids
  unfolding id_owners
  ids_elim x m =
      let (n, in_nodes, e) = Memᴰ.of_map (λ (n : Node). moved id_base (id_owner top (nodes_of s) n)) (nodes_of s) m in
      subst (λ (z : Owner). z ∈ map (moved id_base) ids) e (Memᴰ.map (moved id_base) (Memᴰ.map (id_owner top (nodes_of s)) in_nodes))

  ids_intro : (x : Owner) → x ∈ map (moved id_base) ids → x ∈ id_owners top s
  unfolding id_owners
  ids_intro x m =
      let (y, among, e) = Memᴰ.of_map (moved id_base) ids m in
      let (n, in_nodes, d) = Memᴰ.of_map (id_owner top (nodes_of s)) (nodes_of s) among in
      subst (λ (z : Owner). z ∈ map (λ (n : Node). moved id_base (id_owner top (nodes_of s) n)) (nodes_of s)) (ap (moved id_base) d ∙ e)
      (Memᴰ.map (λ (n : Node). moved id_base (id_owner top (nodes_of s) n)) in_nodes)

  -- ## One line

  abbrev line : List Owner
  line = (owners Memory ++ map (moved io_base) (owners Ports)) ++ map (moved id_base) ids

  pub data Among (x : Owner) : Type 0 where
    in_memory : x ∈ owners Memory → Among x
    in_ports : x ∈ map (moved io_base) (owners Ports) → Among x
    in_ids : x ∈ map (moved id_base) ids → Among x

  line_elim : (x : Owner) → x ∈ line → Among x
  line_elim x m = go (Memᴰ.append_cases (owners Memory ++ map (moved io_base) (owners Ports)) m)
    where
      first : (x ∈ owners Memory) ⊎ (x ∈ map (moved io_base) (owners Ports)) → Among x
      first (inl n) = in_memory n
      first (inr n) = in_ports n

      go : (x ∈ owners Memory ++ map (moved io_base) (owners Ports)) ⊎ (x ∈ map (moved id_base) ids) → Among x
      go (inl n) = first (Memᴰ.append_cases (owners Memory) n)
      go (inr n) = in_ids n

  line_intro : (x : Owner) → Among x → x ∈ line
  line_intro x (in_memory m) =
      Memᴰ.append_left (map (moved id_base) ids) (Memᴰ.append_left (map (moved io_base) (owners Ports)) m)
  line_intro x (in_ports m) = Memᴰ.append_left (map (moved id_base) ids) (Memᴰ.append_right (owners Memory) m)
  line_intro x (in_ids m) = Memᴰ.append_right (owners Memory ++ map (moved io_base) (owners Ports)) m

  owners_elim : (x : Owner) → x ∈ owners_of host s → Among x
  unfolding owners_below
  owners_elim x m = low (Memᴰ.append_cases (owned_of low_memory top s) m)
    where
      io : (x ∈ owned_of ports top s) ⊎ (x ∈ id_owners top s) → Among x
      io (inl n) = in_ports (ports_elim x n)
      io (inr n) = in_ids (ids_elim x n)

      high : (x ∈ owned_of high_memory top s) ⊎ (x ∈ owned_of ports top s ++ id_owners top s) → Among x
      high (inl n) = in_memory (memory_elim x (inr n))
      high (inr n) = io (Memᴰ.append_cases (owned_of ports top s) n)

      low : (x ∈ owned_of low_memory top s) ⊎ (x ∈ owned_of high_memory top s ++ (owned_of ports top s ++ id_owners top s)) → Among x
      low (inl n) = in_memory (memory_elim x (inl n))
      low (inr n) = high (Memᴰ.append_cases (owned_of high_memory top s) n)

  owners_intro : (x : Owner) → Among x → x ∈ owners_of host s
  unfolding owners_below
  owners_intro x (in_memory m) = go (memory_intro x m)
    where
      go : (x ∈ owned_of low_memory top s) ⊎ (x ∈ owned_of high_memory top s)
          → x ∈ owned_of low_memory top s ++ (owned_of high_memory top s ++ (owned_of ports top s ++ id_owners top s))
      go (inl n) = Memᴰ.append_left (owned_of high_memory top s ++ (owned_of ports top s ++ id_owners top s)) n
      go (inr n) = Memᴰ.append_right (owned_of low_memory top s) (Memᴰ.append_left (owned_of ports top s ++ id_owners top s) n)
  owners_intro x (in_ports m) =
      Memᴰ.append_right (owned_of low_memory top s)
      (Memᴰ.append_right (owned_of high_memory top s) (Memᴰ.append_left (id_owners top s) (ports_intro x m)))
  owners_intro x (in_ids m) =
      Memᴰ.append_right (owned_of low_memory top s)
      (Memᴰ.append_right (owned_of high_memory top s) (Memᴰ.append_right (owned_of ports top s) (ids_intro x m)))

  pub owners_fit : (x : Owner) → x ∈ owners_of host s → Fits x
  owners_fit x m = go (owners_elim x m)
    where
      go : Among x → Fits x
      go (in_memory n) = rw (← moved_zero x) (fits_moved 0 memory_end x (fits_in Memory x n) (omega arith))
      go (in_ports n) =
          let (y, in_io, e) = Memᴰ.of_map (moved io_base) (owners Ports) n in
          subst Fits e (fits_moved io_base io_size y (fits_in Ports y in_io) (omega arith))
      go (in_ids n) =
          let (y, among, e) = Memᴰ.of_map (moved id_base) ids n in
          let (f, in_nodes, d) = Memᴰ.of_map (id_owner top (nodes_of s)) (nodes_of s) among in
          subst Fits (ap (moved id_base) d ∙ e) (fits_moved id_base id_size _ (id_fits f in_nodes) (omega arith))

  -- ## They answer as the walk does

  abbrev by_space : Space → ℕ → Outcome
  by_space sp address = outcome_of (host_for sp (host_of_part host)) (enabled_of sp s) (registers_of sp s) address

  abbrev by_key : ℕ → Outcome
  by_key key = on_line id_base (on_line io_base (by_space Memory) (by_space Ports)) (outcome_by_id top (nodes_of s)) key

  pub space_answered : (sp : Space) → Answered (owners sp) (by_space sp)
  space_answered sp =
      subst (λ (ns : List Node). Answered (owned top ns (enabled_of sp s) (registers_of sp s)) (by_space sp)) (passed.nodes_are sp)
      (owned_answered (sound_of_one_owner host s bytes a sp) (passed.numbered sp) (enabled_of sp s))

  pub id_answered : Answered ids (outcome_by_id top (nodes_of s))
  id_answered =
      ids_answered passed.bridges_rise (a.tree Memory) passed.distinct_ids
      (all_intro (λ n. n.devfn < 256) (nodes_of s) (λ n m. (listed_node host s host_bytes_lem bytes a n m).devfn_is_byte))

  before_ids : (x : Owner) → x ∈ owners Memory ++ map (moved io_base) (owners Ports) → x.stop ≤ id_base
  before_ids x m = go (Memᴰ.append_cases (owners Memory) m)
    where
      go : (x ∈ owners Memory) ⊎ (x ∈ map (moved io_base) (owners Ports)) → x.stop ≤ id_base
      go (inl n) = omega (arith, (fits_in Memory x n).ends)
      go (inr n) =
          let (y, in_io, e) = Memᴰ.of_map (moved io_base) (owners Ports) n in
          omega (arith, ap (λ (z : Owner). z.stop) e, (fits_in Ports y in_io).ends)

  pub owners_answered : Answered (owners_of host s) by_key
  owners_answered =
      answered_same line (owners_of host s)
      (answered_line id_base (owners Memory ++ map (moved io_base) (owners Ports)) ids
      (answered_line io_base (owners Memory) (owners Ports) (space_answered Memory) (space_answered Ports)
      (λ x m. (fits_in Memory x m).ends))
      id_answered before_ids)
      (λ x m. line_intro x (owners_elim x m)) (λ x m. owners_intro x (line_elim x m))

  -- past the end of a space there is nobody
  pub past_space : (sp : Space) (address : ℕ) → end_of sp ≤ address → by_space sp address ≡ refused no_owner
  past_space sp address past =
      (space_answered sp).of_none address (λ x m o. omega (arith, past, (fits_in sp x m).ends, o.before_stop))

  pub past_ids : (id : ℕ) → id_size ≤ id → outcome_by_id top (nodes_of s) id ≡ refused no_owner
  past_ids id past =
      id_answered.of_none id
      (λ x m o.
      let (n, in_nodes, e) = Memᴰ.of_map (id_owner top (nodes_of s)) (nodes_of s) m in
      omega (arith, past, (id_fits n in_nodes).ends, ap (λ (z : Owner). z.stop) e, o.before_stop))
