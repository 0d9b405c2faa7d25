-- Demand 3, "bus ranges, BARs and open windows lie within their parent's, and siblings never overlap", in document 01's words: the parent
-- is the bridge just above, or the host; siblings share a bus. Assumes nothing.
use Rattle.std.specs.Prelude.{◌≡◌, ◌⊎◌, true, List}
use Rattle.std.proofs.Common.{sym, inl, inr, ⊎_elim}
use Rattle.lists.specs.Lists.{◌∈◌, Some}
use Rattle.lists.specs.ListLaws.{pairwise_imp, all_elim, all_intro, some_of_member}
use Rattle.plan_rule.specs.Pools.{low, high}
use Rattle.plan_rule.specs.Records.{Host, Function}
use Rattle.plan_rule.specs.Layout.{Placed}
use Rattle.plan_rule.specs.Placing.{placed}
use Rattle.plan_rule.proofs.Placed.{Holds, well_placed}
use Rattle.plan_rule.specs.Numbering.{Numbered}
use Rattle.plan_rule.proofs.Siblings.{disjoint_by_number}
use Rattle.plan_rule.specs.Refusals.{refusal_of}
use Rattle.plan_good.proofs.Spaces.{same_space}
use Rattle.plan_good.specs.Boards.{Board}
use Rattle.plan_good.proofs.Boards.{memory_apart}
use Rattle.plan_good.specs.Registers.{plan_rows}
use Rattle.plan_good.proofs.BusRanges.{parent_row, buses_in_host, buses_in_parent, siblings_before}
use Rattle.plan_good.proofs.Kept.{AllKept, kept_of_planned, placed_in_pool}
use Rattle.plan_good.specs.NestedAndApart.{InBridge, InHost, InPool, NestedAndApart}

pub planned_nested_and_apart : {h : Host} {fs : List Function} → Board h fs → refusal_of h fs ≡ 0 → NestedAndApart h fs
planned_nested_and_apart {h} {fs} board planned =
    record {
      bus_ranges_in_parent = all_intro _ (plan_rows h fs) buses_in_lem;
      bars_and_windows_in_parent = all_intro _ (placed h fs) pieces_in;
      bus_ranges_apart = pairwise_imp _ _ (λ x y before a b e. inl (before a b e)) (plan_rows h fs)
          (siblings_before h.first_bus fs board.lawful);
      bars_and_windows_apart =
          λ sp.
          pairwise_imp _ _
          (λ x y apart s. apart s.one_bus (same_space sp x.piece.pool y.piece.pool s.in_space_lem s.also_in_space))
          (placed h fs)
          (disjoint_by_number h.first_bus h fs board.lawful (kept.pools low) (kept.pools high) (memory_apart h board.edges));
    }
  where
    kept : AllKept h fs
    kept = kept_of_planned h fs planned

    buses_in_lem : (x : Numbered) → x ∈ plan_rows h fs → x.bridge ≡ true → InHost h x ⊎ Some (InBridge x) (plan_rows h fs)
    buses_in_lem x m is =
        ⊎_elim
        (λ root. inl (record {
          parent_is = root.0;
          on_first_bus = root.1;
          within = buses_in_host h fs board.lawful
              kept.buses m is;
        }))
        (λ p.
        inr (some_of_member _ (plan_rows h fs) p.in_rows
        (record {
          parent_is = p.under.above;
          is_bridge_lem = p.under.bridge;
          on_its_bus = p.under.bus_is;
          within = buses_in_parent h.first_bus fs board.lawful m p.in_rows is (sym p.under.above);
        })))
        (parent_row h.first_bus fs board.lawful m)

    pieces_in : (x : Placed) → x ∈ placed h fs → InPool h x ⊎ Some (Holds x) (placed h fs)
    pieces_in x m =
        ⊎_elim
        (λ root. inl (record { parent_is = root; within = placed_in_pool h fs board.lawful kept m }))
        (λ held. inr held)
        (all_elim _ (placed h fs) (well_placed h fs board.lawful).contained m)
