-- An accepted sheet is good in both spaces, one with an owner for every address is sound in both, and so the walk over either delivers.
-- Assumes nothing.
use Rattle.std.specs.Prelude.{List, ℕ}
use Rattle.endian.specs.Endian.{Bytes}
use Rattle.pools.specs.declared.Space.{Space}
use Rattle.board_record.specs.Host.{host_of_part}
use Rattle.lists.specs.ListLaws.{all_imp, some_imp}
use Rattle.walk.proofs.Ranges.{within_of_inside}
use Rattle.walk.specs.Registers.{items}
use Rattle.walk.specs.Good.{Good, Sound}
use Rattle.walk.proofs.Good.{window_above_within}
use Rattle.walk.proofs.Delivery.{Delivers, sound_delivers}
use Rattle.sheet.specs.Spaces.{registers_of, enabled_of}
use Rattle.sheet.proofs.SheetLaws.{passes_of_zero}
use Rattle.sheet_ranges.specs.Ranges.{pools_of}
use Rattle.audit_rule.specs.Host.{host_for}
use Rattle.audit_rule.specs.Accepted.{Accepted, OneOwner}

module _ (host s : List ℕ) (bytes : Bytes s) (a : Accepted host s) where
  pub good_of_accepted : (sp : Space) → Good (host_for sp (host_of_part host)) (registers_of sp s)
  good_of_accepted sp =
      let p = passes_of_zero s bytes a.passes in
      record {
        bridges_rise = rw (p.nodes_are sp) p.bridges_rise;
        tree = rw (p.nodes_are sp) (a.tree sp);
        nested = a.nested sp;
        disjoint = a.disjoint sp;
      }

-- Every accepted sheet has one owner for every address.
pub one_owner_of_accepted : (host s : List ℕ) → Accepted host s → OneOwner host s
one_owner_of_accepted host s a =
    record {
      host_size = a.host_size;
      host_edges = a.host_edges;
      passes = a.passes;
      tree = a.tree;
      nested = λ sp. record {
        in_pool_lem =
            all_imp _ _ (items (registers_of sp s)) (a.nested sp).in_pool_lem (λ i lies at.
            some_imp _ _ (λ w inside. within_of_inside inside) (pools_of sp (host_of_part host)) (lies at));
        in_window_above = window_above_within (registers_of sp s) (a.nested sp).in_window_above;
      };
      disjoint = a.disjoint;
    }

module _ (host s : List ℕ) (bytes : Bytes s) (a : OneOwner host s) where
  pub sound_of_one_owner : (sp : Space) → Sound (host_for sp (host_of_part host)) (registers_of sp s)
  sound_of_one_owner sp =
      let p = passes_of_zero s bytes a.passes in
      record {
        bridges_rise = rw (p.nodes_are sp) p.bridges_rise;
        tree = rw (p.nodes_are sp) (a.tree sp);
        in_window_above = (a.nested sp).in_window_above;
        disjoint = a.disjoint sp;
      }

  pub one_owner_delivers : (sp : Space) (address : ℕ)
      → Delivers (host_for sp (host_of_part host)) (enabled_of sp s) (registers_of sp s) address
  one_owner_delivers sp address =
      sound_delivers (sound_of_one_owner sp) ((passes_of_zero s bytes a.passes).numbered sp) (enabled_of sp s) address

pub accepted_delivers : (host s : List ℕ) → Bytes s → Accepted host s → (sp : Space) (address : ℕ)
    → Delivers (host_for sp (host_of_part host)) (enabled_of sp s) (registers_of sp s) address
accepted_delivers host s bytes a = one_owner_delivers host s bytes (one_owner_of_accepted host s a)
