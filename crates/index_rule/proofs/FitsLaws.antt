-- The owners of a sound sheet fit an index, wherever they stand among its keys: each ends with its space, and its word can hold it.
-- Assumes nothing.
use Rattle.std.specs.Prelude.{◌≡◌, ◌⊎◌, List, [], ◌∷◌, ℕ, ◌+◌, ◌≤◌, ◌<◌, length}
use Rattle.std.proofs.Common.{ap, ap₂, subst, inl, inr, arith}
use mathlib.Core.List.Memᴰ
use Rattle.endian.specs.Endian.{Bytes}
use Rattle.lists.specs.Lists.{◌∈◌}
use Rattle.pools.specs.declared.Space.{Space}
use Rattle.pools.specs.declared.Space.TheVariants.{Memory}
use Rattle.records.specs.Limits.{most_functions}
use Rattle.board_record.specs.Host.{host_of_part}
use Rattle.walk.specs.Ranges.{Range}
use Rattle.walk.specs.Registers.{Node, Registers, bar_item}
use Rattle.walk.proofs.RegistersLaws.{item_of_bar, node_mem}
use Rattle.walk.specs.Above.{above}
use Rattle.walk.proofs.AboveLaws.{above_is, above_at_most_255}
use Rattle.walk.specs.Good.{Host, Sound}
use Rattle.sheet_record.specs.Entry.{Entry}
use Rattle.sheet_record.specs.Spaces.{function_of}
use Rattle.sheet.specs.Sheet.{entries_of}
use Rattle.sheet.specs.Spaces.{functions_from, registers_of, nodes_of, enabled_of}
use Rattle.sheet.proofs.SheetLaws.{checked_of_zero, Passes, passes_of_zero}
use Rattle.audit_rule.specs.Host.{host_for}
use Rattle.audit_rule.specs.Accepted.{OneOwner}
use Rattle.audit_rule.proofs.AcceptedLaws.{sound_of_one_owner}
use Rattle.index_layout.specs.Keys.{id_size, no_key}
use Rattle.index_rule.specs.Owners.{Owner, owned_in, id_owner, end_of}
use Rattle.index_rule.specs.Owners.{moved}
use Rattle.index_rule.proofs.OwnedLaws.{Comes, owned_elim}
use Rattle.index_rule.proofs.PoolsLaws.{within_host_pool, ends_in_space}
use Rattle.index_rule.proofs.BarsLaws.{Powered, powered_bars, filled}
use Rattle.index_rule.proofs.CountLaws.{Listed, listed}
use Rattle.index_rule.proofs.WordLaws.{Fits}

functions_elim : (space : Space) (k : ℕ) (es : List Entry) (f : Registers) → f ∈ functions_from space k es
    → (j : ℕ) × ((e : Entry) × (f ≡ function_of space j e))
unfolding functions_from
functions_elim space k [] f m = absurd (Memᴰ.not-nil m)
functions_elim space k (e ∷ es) f m = go (Memᴰ.cases_cons m) (functions_elim space (k + 1) es f)
  where
    go : (f ≡ function_of space k e) ⊎ (f ∈ functions_from space (k + 1) es)
        → (f ∈ functions_from space (k + 1) es → (j : ℕ) × ((e : Entry) × (f ≡ function_of space j e)))
        → (j : ℕ) × ((e : Entry) × (f ≡ function_of space j e))
    go (inl is) later = (k, (e, is))
    go (inr n) later = later n

powered_function : (space : Space) (k : ℕ) (es : List Entry) (f : Registers) → f ∈ functions_from space k es
    → (r : Range) → r ∈ f.bars → Powered r.start r.stop
powered_function space k es f m r n =
    let (j, (e, is)) = functions_elim space k es f m in
    powered_bars space e r (subst (λ (g : Registers). r ∈ g.bars) is n)

-- an owner of a space, before it is moved to its place among the keys
pub record InSpace (end : ℕ) (x : Owner) : Type 0 where
  pub powered : Powered x.start x.stop
  pub ends : x.stop ≤ end
  pub number_from_1 : 1 ≤ x.number
  pub number_small : x.number < 65536
  pub bridges_small : x.bridges < 256

pub starts_before : (end : ℕ) (x : Owner) → InSpace end x → x.start < end
starts_before end x i = omega (arith, filled x.start x.stop i.powered, i.ends)

pub moved_zero : (x : Owner) → moved 0 x ≡ x
moved_zero x = ap₂ at (omega arith) (omega arith)
  where
    at : ℕ → ℕ → Owner
    at b e = record { start = b; stop = e; number = x.number; bridges = x.bridges }

pub fits_moved : (base end : ℕ) (x : Owner) → InSpace end x → base + end ≤ no_key → Fits (moved base x)
fits_moved base end x i room =
    let p = i.powered in
    record {
      powered = record { bit = p.bit; below_64 = p.below_64; stop_is = omega (arith, p.stop_is) };
      start_small = omega (arith, starts_before end x i, room);
      number_from_1 = i.number_from_1;
      number_small = i.number_small;
      bridges_small = i.bridges_small;
    }

module _ (host s : List ℕ) (host_bytes_lem : Bytes host) (bytes : Bytes s) (a : OneOwner host s) where
  abbrev top : ℕ
  top = (host_of_part host).first_bus

  abbrev walk_host : Space → Host
  walk_host sp = host_for sp (host_of_part host)

  passed : Passes s
  passed = passes_of_zero s bytes a.passes

  sound : (sp : Space) → Sound (walk_host sp) (registers_of sp s)
  sound sp = sound_of_one_owner host s bytes a sp

  -- ## Every owner fits

  pub listed_node : (n : Node) → n ∈ nodes_of s → Listed 1 (length (entries_of s)) n
  listed_node n m = listed s bytes (checked_of_zero s a.passes).framed n m

  few : length (entries_of s) ≤ most_functions
  few = (checked_of_zero s a.passes).count

  few_bridges : (n : Node) → n ∈ nodes_of s → length (above top (nodes_of s) n.bus) ≤ 255
  few_bridges n m =
      above_at_most_255 (nodes_of s) passed.bridges_rise top n.bus _ (above_is passed.bridges_rise (a.tree Memory) n m)

  bar_in_space : (sp : Space) (x : Owner) → Comes top (nodes_of s) (enabled_of sp s) (registers_of sp s) x → InSpace (end_of sp) x
  bar_in_space sp x c =
      let f = c.function in
      let in_nodes : f.node ∈ nodes_of s = subst (λ (ns : List Node). f.node ∈ ns) (passed.nodes_are sp) (node_mem c.in_sheet) in
      let l = listed_node f.node in_nodes in
      let p = powered_function sp 1 (entries_of s) f c.in_sheet c.range c.in_bars in
      let start_is = ap (λ (y : Owner). y.start) c.owner_is in
      let stop_is = ap (λ (y : Owner). y.stop) c.owner_is in
      let number_is = ap (λ (y : Owner). y.number) c.owner_is in
      let bridges_is = ap (λ (y : Owner). y.bridges) c.owner_is in
      record {
        powered = record { bit = p.bit; below_64 = p.below_64; stop_is = omega (arith, p.stop_is, start_is, stop_is) };
        ends = omega (
          arith,
          stop_is,
          ends_in_space host host_bytes_lem a.host_edges sp c.range
              (within_host_pool (sound sp).bridges_rise (sound sp).tree (a.nested sp) (bar_item f c.range)
              (item_of_bar (registers_of sp s) c.in_sheet c.in_bars)),
        );
        number_from_1 = omega (arith, number_is, l.from_first);
        number_small = omega (arith, number_is, l.to_last, few);
        bridges_small = omega (arith, bridges_is, few_bridges f.node in_nodes);
      }

  pub in_space_lem : (sp : Space) (x : Owner) → x ∈ owned_in sp top s → InSpace (end_of sp) x
  in_space_lem sp x m = bar_in_space sp x (owned_elim top (nodes_of s) (enabled_of sp s) (registers_of sp s) x m)

  pub id_in_space : (n : Node) → n ∈ nodes_of s → InSpace id_size (id_owner top (nodes_of s) n)
  id_in_space n m =
      let l = listed_node n m in
      record {
        powered = record { bit = 0; below_64 = omega arith; stop_is = omega arith };
        ends = omega (arith, l.id_is_small);
        number_from_1 = l.from_first;
        number_small = omega (arith, l.to_last, few);
        bridges_small = omega (arith, few_bridges n m);
      }
