-- On a sheet whose ranges are nested, by kind or by space alone, every BAR and open window lies in a pool of the host, and check 26 bounds
-- those pools. Assumes nothing.
use Rattle.std.specs.Prelude.{◌≡◌, ◌⊎◌, true, ◌||◌, List, [], ◌∷◌, ℕ, zero, suc, ◌≤◌, ◌<◌, leb}
use Rattle.std.proofs.Common.{ap, inl, inr, arith}
use Rattle.std.proofs.Math.Bool.{false}
use mathlib.Core.List.Memᴰ
use Rattle.std.proofs.Math.Dec.{ltb}
use borrow.Author.Tests.{leb-false}
use Rattle.arith.specs.BoolLaws.{false_of_or}
use Rattle.endian.specs.Endian.{Bytes}
use Rattle.endian.specs.EndianLaws.{be_lt}
use Rattle.lists.specs.Lists.{◌∈◌, Some}
use Rattle.lists.specs.ListLaws.{all_elim, member_of_some, some_of_member, mem_cond_elim}
use Rattle.pools.specs.declared.Pool.{Pool}
use Rattle.pools.specs.declared.Pool.TheVariants.{Low, High, Io}
use Rattle.pools.specs.declared.Space.{Space}
use Rattle.pools.specs.declared.Space.TheVariants.{Memory, Io as Ports}
use Rattle.pools.specs.Pools.{granule}
use Rattle.board_record.specs.declared.Span.{Span}
use Rattle.board_record.specs.Host.{host_of_part, is_open, outside, off_edges, pool_wrong, host_wrong}
use Rattle.walk.specs.Ranges.{Range, Inside, Within}
use Rattle.walk.proofs.Ranges.{inside_trans}
use Rattle.walk.specs.Registers.{Node, Registers, nodes, Item, items}
use Rattle.walk.proofs.RegistersLaws.{BarOf, WindowOf, item_elim, node_mem}
use Rattle.walk.proofs.AboveLaws.{only_bridge_elim, window_above}
use Rattle.walk.specs.Good.{Host, BridgesRise, OneWayUp, Tree, NestedBy, Good}
use Rattle.sheet_record.specs.Spaces.{pool_of}
use Rattle.index_layout.specs.Keys.{low_end, memory_end, io_size}
use Rattle.index_rule.specs.Owners.{end_of}
use Rattle.sheet_ranges.specs.Ranges.{open_pool, pools_of}

-- ## In a pool

module _ (Lies : Range → Range → Type 0) (trans : (r s t : Range) → Lies r s → Lies s t → Lies r t) {host : Host} {fs : List Registers}
    (rise : BridgesRise (nodes fs)) (tree : Tree host (nodes fs)) (nested : NestedBy Lies host fs) where
  owner_in : (i : Item) → BarOf fs i ⊎ WindowOf fs i → i.owner ∈ fs
  owner_in i (inl b) = b.in_sheet
  owner_in i (inr w) = w.in_sheet

  widen : (i : Item) (w : Range) → Lies i.range w → Some (Lies w) host.pools → Some (Lies i.range) host.pools
  widen i w inside some =
      let (pool, in_pools, k) = member_of_some _ host.pools some in
      some_of_member _ host.pools in_pools (trans i.range w pool inside k)

  in_pool_over : (n : ℕ) (i : Item) → i ∈ items fs → i.owner.node.bus < n → Some (Lies i.range) host.pools
  in_pool_over zero i m h = absurd (omega arith)
  in_pool_over (suc n) i m h =
      step (all_elim _ (nodes fs) tree.one_way_up (node_mem (owner_in i (item_elim fs m)))) (λ j. in_pool_over n j)
    where
      step : OneWayUp host.first (nodes fs) i.owner.node
          → ((j : Item) → j ∈ items fs → j.owner.node.bus < n → Some (Lies j.range) host.pools)
          → Some (Lies i.range) host.pools
      step (inl e) up = all_elim _ (items fs) nested.in_pool_lem m e
      step (inr (b, only)) up =
          let l = only_bridge_elim i.owner.node.bus (nodes fs) only in
          let r = all_elim _ (nodes fs) (rise) l.in_sheet l.is_bridge_lem in
          let (w, in_items, inside, is_b, claim_is) = window_above Lies fs nested.in_window_above i m b l in
          widen i w.range inside (up w in_items (omega (arith, h, r.own_below, l.leads, ap (λ (x : Node). x.bus) is_b)))

  pub in_pool_of : (i : Item) → i ∈ items fs → Some (Lies i.range) host.pools
  in_pool_of i m = in_pool_over (suc i.owner.node.bus) i m (omega arith)

within_trans : (r s t : Range) → Within r s → Within s t → Within r t
within_trans r s t i j = record { start_inside = omega arith; stop_inside = omega arith }

-- of its kind on a good sheet, and of its space wherever ranges are nested by space
pub in_host_pool : {host : Host} {fs : List Registers} → Good host fs → (i : Item) → i ∈ items fs → Some (Inside i.range) host.pools
in_host_pool good = in_pool_of Inside (λ r s t i j. inside_trans i j) good.bridges_rise good.tree good.nested

pub within_host_pool : {host : Host} {fs : List Registers} → BridgesRise (nodes fs) → Tree host (nodes fs) → NestedBy Within host fs
    → (i : Item) → i ∈ items fs → Some (Within i.range) host.pools
within_host_pool rise tree nested = in_pool_of Within within_trans rise tree nested

-- ## Where the pools end

-- by the pool's last address
open_pool_end : (q : Pool) (x : Span) (end : ℕ) (r : Range) → (is_open x ≡ true → x.last < end) → r ∈ open_pool q x → r.stop ≤ end
open_pool_end q x end r below m =
    let (opened, only) = mem_cond_elim (is_open x) (record { pool = pool_of q; start = x.base; stop = suc x.last } ∷ []) m in
    let e = Memᴰ.eq_of_singleton only in
    omega (arith, below opened, ap (λ (y : Range). y.stop) e)

module _ (host : List ℕ) (bytes : Bytes host) (right : host_wrong (host_of_part host) ≡ false) where
  low_last : (host_of_part host).low.last < low_end
  unfolding host_of_part
  low_last = be_lt 4 host 6 bytes

  io_last : (host_of_part host).io.last < io_size
  unfolding host_of_part
  io_last = be_lt 2 host 28 bytes

  high_right : pool_wrong High (host_of_part host).high ≡ false
  unfolding host_wrong
  high_right =
      let h = host_of_part host in
      let earlier = ltb h.last_bus h.first_bus || pool_wrong Low h.low in
      let io = false_of_or (earlier || pool_wrong High h.high) (pool_wrong Io h.io) right in
      (false_of_or earlier (pool_wrong High h.high) io.0).1

  high_last : is_open (host_of_part host).high ≡ true → (host_of_part host).high.last < memory_end
  unfolding pool_wrong
  high_last opened =
      let x = (host_of_part host).high in
      let edges : (outside High x || off_edges (granule High) x) ≡ false = rw opened at high_right in
      let in_reach = false_of_or (outside High x) (off_edges (granule High) x) edges in
      leb-false memory_end x.last (false_of_or (ltb x.base low_end) (leb memory_end x.last) in_reach.0).1

  pools_end : (sp : Space) (r : Range) → r ∈ pools_of sp (host_of_part host) → r.stop ≤ end_of sp
  pools_end Memory r m = go (Memᴰ.append_cases (open_pool Low (host_of_part host).low) m)
    where
      go : (r ∈ open_pool Low (host_of_part host).low) ⊎ (r ∈ open_pool High (host_of_part host).high) → r.stop ≤ memory_end
      go (inl n) = open_pool_end Low (host_of_part host).low memory_end r (λ o. omega (arith, low_last)) n
      go (inr n) = open_pool_end High (host_of_part host).high memory_end r high_last n
  pools_end Ports r m = open_pool_end Io (host_of_part host).io io_size r (λ o. io_last) m

  -- what lies in a pool ends where the keys of its space do
  pub ends_in_space : (sp : Space) (r : Range) → Some (Within r) (pools_of sp (host_of_part host)) → r.stop ≤ end_of sp
  ends_in_space sp r some =
      let (pool, in_pools, inside) = member_of_some _ (pools_of sp (host_of_part host)) some in
      omega (arith, pools_end sp pool in_pools, inside.stop_inside)
