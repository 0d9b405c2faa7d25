-- Every sheet that has one owner for every address under some host has it under the host that is made for the sheet alone. Assumes nothing.
use Rattle.std.specs.Prelude.{◌≡◌, refl, ◌⊎◌, Bool, true, ◌||◌, ℕ, suc, ◌≤◌, ◌<◌, length, get_or, leb}
use Rattle.std.proofs.Common.{sym, subst, ◌∙◌, inl, inr, arith}
use Rattle.std.proofs.Math.Path.{ap}
use Rattle.std.proofs.Math.Bool.{false}
use mathlib.Core.List.Memᴰ
use mathlib.Core.List.{List, [], ◌∷◌, flat_map}
use Rattle.std.proofs.Math.Dec.{ltb}
use borrow.Author.Tests.{leb-false, ltb-false, le-ltb}
use Rattle.arith.specs.BoolLaws.{false_of_or}
use Rattle.endian.specs.Endian.{Bytes, be}
use Rattle.endian.specs.EndianLaws.{be_lt}
use Rattle.endian.specs.BytesLaws.{bytes_nil, bytes_cons}
use Rattle.lists.specs.Lists.{◌∈◌, Some, any}
use Rattle.lists.specs.ListLaws.{all_intro, all_elim, all_imp, member_of_some, some_imp, mem_cond_elim}
use Rattle.pools.specs.declared.Pool.{Pool}
use Rattle.pools.specs.declared.Pool.TheVariants.{Low, High, Io}
use Rattle.pools.specs.declared.Space.{Space}
use Rattle.pools.specs.declared.Space.TheVariants.{Memory, Io as Ports}
use Rattle.pools.specs.Pools.{granule}
use Rattle.board_record.specs.declared.Host.{Host}
use Rattle.board_record.specs.declared.Span.{Span}
use Rattle.board_record.specs.Host.{host_of_part, is_open, outside, off_edges, pool_wrong, host_wrong}
use Rattle.walk.specs.Ranges.{Range, Within}
use Rattle.walk.specs.Registers.{Node, Registers, items, root_of}
use Rattle.walk.specs.Good.{Tree, NestedBy, Disjoint}
use Rattle.walk.proofs.Delivery.{root_is_first}
use Rattle.sheet_record.specs.Entry.{Entry}
use Rattle.sheet.specs.Sheet.{entries_of, sheet_number}
use Rattle.sheet.specs.Spaces.{registers_of, nodes_of, functions_from, nodes_from}
use Rattle.sheet.proofs.SheetLaws.{passes_of_zero}
use Rattle.sheet_ranges.specs.Ranges.{open_pool, pools_of}
use Rattle.route.specs.Route.{root}
use Rattle.route.proofs.RouteLaws.{length_nodes}
use Rattle.audit_rule.specs.Host.{host_for}
use Rattle.audit_rule.specs.Accepted.{OneOwner}
use Rattle.any_host.specs.AnyHost.{widest_bytes, any_host, host_alone}

-- what its bytes say
abbrev widest : ℕ → Host
widest first =
    record {
      first_bus = first;
      last_bus = 255;
      low = record { base = 0; last = 4294967295 };
      high = record { base = 4294967296; last = 4503599627370495 };
      io = record { base = 0; last = 65535 };
    }

any_host_is : (first : ℕ) → host_of_part (any_host first) ≡ widest first
unfolding host_of_part be
any_host_is first = refl

widest_right : (first : ℕ) → first ≤ 255 → host_wrong (widest first) ≡ false
unfolding host_wrong pool_wrong
widest_right first h = rw (le-ltb 255 first h)

-- ## Its pools hold every host's

span_range : (q : Pool) (x : Span) (r : Range) → r ∈ open_pool q x → (is_open x ≡ true) × (r.start ≡ x.base) × (r.stop ≡ suc x.last)
span_range q x r m =
    let (opened, only) = mem_cond_elim (is_open x) (_ ∷ []) m in
    let e = Memᴰ.eq_of_singleton only in
    (opened, ap (λ (y : Range). y.start) e, ap (λ (y : Range). y.stop) e)

module _ (host : List ℕ) (bytes : Bytes host) (right : host_wrong (host_of_part host) ≡ false) (first : ℕ) where
  low_last : (host_of_part host).low.last < 4294967296
  unfolding host_of_part
  low_last = be_lt 4 host 6 bytes

  io_last : (host_of_part host).io.last < 65536
  unfolding host_of_part
  io_last = be_lt 2 host 28 bytes

  high_right : pool_wrong High (host_of_part host).high ≡ false
  unfolding host_wrong
  high_right =
      let h = host_of_part host in
      let earlier = ltb h.last_bus h.first_bus || pool_wrong Low h.low in
      let io = false_of_or (earlier || pool_wrong High h.high) (pool_wrong Io h.io) right in
      (false_of_or earlier (pool_wrong High h.high) io.0).1

  high_reach : is_open (host_of_part host).high ≡ true
      → (4294967296 ≤ (host_of_part host).high.base) × ((host_of_part host).high.last < 4503599627370496)
  unfolding pool_wrong
  high_reach opened =
      let x = (host_of_part host).high in
      let edges : (outside High x || off_edges (granule High) x) ≡ false = rw opened at high_right in
      let in_reach = false_of_or (outside High x) (off_edges (granule High) x) edges in
      let both = false_of_or (ltb x.base 4294967296) (leb 4503599627370496 x.last) in_reach.0 in
      (ltb-false x.base 4294967296 both.0, leb-false 4503599627370496 x.last both.1)

  wider : (sp : Space) (r : Range) → r ∈ pools_of sp (host_of_part host) → Some (Within r) (pools_of sp (widest first))
  wider Memory r m = go (Memᴰ.append_cases (open_pool Low (host_of_part host).low) m)
    where
      go : (r ∈ open_pool Low (host_of_part host).low) ⊎ (r ∈ open_pool High (host_of_part host).high)
          → Some (Within r) (pools_of Memory (widest first))
      go (inl n) =
          let (opened, start_is, stop_is) = span_range Low (host_of_part host).low r n in
          inl (record { start_inside = omega arith; stop_inside = omega (arith, stop_is, low_last) })
      go (inr n) =
          let (opened, start_is, stop_is) = span_range High (host_of_part host).high r n in
          let (from, to) = high_reach opened in
          inr (inl (record { start_inside = omega (arith, start_is, from); stop_inside = omega (arith, stop_is, to) }))
  wider Ports r m =
      let (opened, start_is, stop_is) = span_range Io (host_of_part host).io r m in
      inl (record { start_inside = omega arith; stop_inside = omega (arith, stop_is, io_last) })

-- ## One owner for every address

module _ (host s : List ℕ) (host_bytes_lem : Bytes host) (bytes : Bytes s) (a : OneOwner host s) where
  abbrev top : ℕ
  top = (host_of_part host).first_bus

  top_is_byte : top ≤ 255
  unfolding host_of_part
  top_is_byte = omega (arith, host_bytes_lem 0)

  tree_any : (sp : Space) → Tree (host_for sp (widest top)) (nodes_of s)
  tree_any sp =
      let t = a.tree sp in
      record {
        first_on_root = t.first_on_root;
        one_way_up = t.one_way_up;
        in_host = all_intro _ (nodes_of s) (λ n m is.
            let i = all_elim _ (nodes_of s) t.in_host m is in
            let r = all_elim _ (nodes_of s) (passes_of_zero s bytes a.passes).bridges_rise m is in
            record { same_pool_lem = refl; start_inside = i.start_inside; stop_inside = omega (arith, r.last_is_byte) });
        in_parent = t.in_parent;
        siblings_apart = t.siblings_apart;
      }

  nested_any : (sp : Space) → NestedBy Within (host_for sp (widest top)) (registers_of sp s)
  nested_any sp =
      record {
        in_pool_lem = all_imp _ _ (items (registers_of sp s)) (a.nested sp).in_pool_lem (λ i lies at.
            let (pool, in_pools, inside) = member_of_some _ (pools_of sp (host_of_part host)) (lies at) in
            some_imp _ _
            (λ w outer. record { start_inside = omega (arith, inside.start_inside, outer.start_inside); stop_inside = omega (arith, inside.stop_inside, outer.stop_inside) })
            (pools_of sp (widest top)) (wider host host_bytes_lem a.host_edges top sp pool in_pools));
        in_window_above = (a.nested sp).in_window_above;
      }

  -- with the same root bus
  pub owned_under_any : OneOwner (any_host (host_of_part host).first_bus) s
  owned_under_any =
      let is = sym (any_host_is top) in
      record {
        host_size = refl;
        host_edges = ap host_wrong (any_host_is top) ∙ widest_right top top_is_byte;
        passes = a.passes;
        tree = λ sp. subst (λ (h : Host). Tree (host_for sp h) (nodes_of s)) is (tree_any sp);
        nested = λ sp. subst (λ (h : Host). NestedBy Within (host_for sp h) (registers_of sp s)) is (nested_any sp);
        disjoint = a.disjoint;
      }

-- ## Of a sheet alone

module _ (s : List ℕ) (nobody : entries_of s ≡ []) where
  nodes_none : nodes_of s ≡ []
  unfolding nodes_from
  nodes_none = ap (nodes_from 1) nobody

  registers_none : (sp : Space) → registers_of sp s ≡ []
  unfolding functions_from
  registers_none sp = ap (functions_from sp 1) nobody

  root_none : root s ≡ 0
  root_none = ap root_of nodes_none

  -- no function: nothing is asked of the host but that it is right
  owned_of_none : sheet_number s ≡ 0 → OneOwner (any_host 0) s
  unfolding items flat_map
  owned_of_none passes =
      record {
        host_size = refl;
        host_edges = ap host_wrong (any_host_is 0) ∙ widest_right 0 (omega arith);
        passes = passes;
        tree = λ sp. rw nodes_none (record { first_on_root = tt; one_way_up = tt; in_host = tt; in_parent = tt; siblings_apart = tt });
        nested = λ sp. rw (registers_none sp) (record { in_pool_lem = tt; in_window_above = tt });
        disjoint = λ sp. rw (registers_none sp) (record { apart_on_bus = tt });
      }

pub owned_alone : (host s : List ℕ) → Bytes host → Bytes s → OneOwner host s → OneOwner (host_alone s) s
owned_alone host s host_bytes_lem bytes a = go (entries_of s) refl
  where
    go : (es : List Entry) → entries_of s ≡ es → OneOwner (host_alone s) s
    go [] e = subst (λ (f : ℕ). OneOwner (any_host f) s) (sym (root_none s e)) (owned_of_none s e a.passes)
    go (x ∷ es) e =
        let some : 0 < length (nodes_of s) = omega (arith, length_nodes 1 (entries_of s), ap (λ (l : List Entry). length l) e) in
        subst (λ (f : ℕ). OneOwner (any_host f) s)
        (sym (root_is_first (host_of_part host).first_bus (nodes_of s) (a.tree Memory).first_on_root some))
        (owned_under_any host s host_bytes_lem bytes a)

-- ## Its bytes

bytes_of_test : (s : List ℕ) → any (λ x. leb 256 x) s ≡ false → Bytes s
unfolding any
bytes_of_test [] e = bytes_nil
bytes_of_test (x ∷ s) e =
    let both = false_of_or (leb 256 x) (any (λ y. leb 256 y) s) e in
    bytes_cons x s (leb-false 256 x both.0) (bytes_of_test s both.1)

pub bytes_any : (first : ℕ) → first < 256 → Bytes (any_host first)
unfolding any
bytes_any first h = bytes_cons first widest_bytes h (bytes_of_test widest_bytes refl)

-- a root bus of which the host record is right
pub root_is_byte : (s : List ℕ) → OneOwner (host_alone s) s → root s < 256
unfolding host_wrong
root_is_byte s a =
    let h = widest (root s) in
    let right : host_wrong (widest (root s)) ≡ false = ap host_wrong (sym (any_host_is (root s))) ∙ a.host_edges in
    let buses = ltb 255 (root s) in
    let io = false_of_or (buses || pool_wrong Low h.low || pool_wrong High h.high) (pool_wrong Io h.io) right in
    let high = false_of_or (buses || pool_wrong Low h.low) (pool_wrong High h.high) io.0 in
    let low = false_of_or buses (pool_wrong Low h.low) high.0 in
    omega (arith, ltb-false 255 (root s) low.0)
