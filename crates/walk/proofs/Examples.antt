-- Worked examples of the walk, as one table under one claim: document 01's P10, command bits, foreign sheets, ends at 2^64 and 255 bridges
-- in a row; and source document 001's tree by ID. Then P10's sheet is good. Assumes nothing.
use Rattle.std.specs.Prelude.{◌≡◌, refl, false, ℕ, ◌≤◌, length}
use Rattle.std.proofs.Common.{inl, inr, arith}
use Rattle.std.proofs.lemmas.Bool.{false≢true}
use mathlib.Core.List.{[], flat_map}
use Rattle.lists.specs.Lists.{All, keep}
use Rattle.walk.specs.Ranges.{Pool, Inside}
use Rattle.walk.specs.Registers.{nodes, items_of, items}
use Rattle.walk.specs.Tally.{join, tally_on}
use Rattle.walk.specs.Walk.{walk_over, walk_from}
use Rattle.walk.specs.Above.{above_over, above}
use Rattle.walk.specs.Good.{Tree, InWindowOf, Nested, Disjoint, Good}
use Rattle.walk.specs.Ids.{tally_by_id}
use Rattle.walk.specs.Examples.{AsShown, IdAsShown, bridge_at, examples, id_examples, p10_host, p10_memory, p10_windows, row}

pub as_shown : All AsShown examples
unfolding tally_on join items items_of flat_map keep walk_from walk_over row
as_shown = (refl, (refl, (refl, (refl, (refl, (refl, (refl, (refl, (refl, (refl, (refl, (refl, (refl, (refl, tt))))))))))))))

pub id_as_shown : All IdAsShown id_examples
unfolding tally_by_id join keep walk_from walk_over
id_as_shown = (refl, (refl, (refl, (refl, (refl, (refl, (refl, (refl, (refl, tt)))))))))

-- the bridges above the function at the end of 255
pub row_above : length (above 0 (nodes (row 255 0)) 255) ≡ 255
unfolding above above_over keep row
row_above = refl

-- P10's sheet in memory is good: the predicate is met by a planned sheet.
inside : (p : Pool) (a b c d : ℕ) → c ≤ a → b ≤ d
    → Inside (record { pool = p; start = a; stop = b }) (record { pool = p; start = c; stop = d })
inside p a b c d h k = record { same_pool_lem = refl; start_inside = h; stop_inside = k }

p10_tree : Tree p10_host (nodes p10_memory)
unfolding keep
p10_tree =
    record {
      first_on_root = refl;
      one_way_up = (inl refl, (inr (bridge_at 1 0 0 1 1, refl), tt));
      in_host = (λ _. inside _ _ _ _ _ (omega arith) (omega arith), (λ e. absurd (false≢true e), tt));
      in_parent = (λ _. (λ _ other. absurd (omega arith), (λ e. absurd (false≢true e), tt)), (λ e. absurd (false≢true e), tt));
      siblings_apart = ((λ _ e. absurd (false≢true e), tt), (tt, tt));
    }

-- the bridge's two windows on the root bus, then the function's two BARs on bus 1
p10_nested : Nested p10_host p10_memory
unfolding items items_of flat_map
p10_nested =
    record {
      in_pool_lem = (
        λ _. inl (inside _ _ _ _ _ (omega arith) (omega arith)),
        (
          λ _. inr (inl (inside _ _ _ _ _ (omega arith) (omega arith))),
          (λ other. absurd (omega arith), (λ other. absurd (omega arith), tt)),
        ),
      );
      in_window_above = (λ _. below, (λ e. absurd (false≢true e), tt));
    }
  where
    below : All (InWindowOf Inside (record { node = bridge_at 1 0 0 1 1; bars = []; windows = p10_windows })) (items p10_memory)
    below = (
      λ other. absurd (omega arith),
      (
        λ other. absurd (omega arith),
        (λ _. inl (inside _ _ _ _ _ (omega arith) (omega arith)), (λ _. inr (inl (inside _ _ _ _ _ (omega arith) (omega arith))), tt)),
      ),
    )

p10_disjoint : Disjoint p10_memory
unfolding items items_of flat_map
p10_disjoint =
    record {
      apart_on_bus = (
        (λ _. inl (omega arith), (λ other. absurd (omega arith), (λ other. absurd (omega arith), tt))),
        ((λ other. absurd (omega arith), (λ other. absurd (omega arith), tt)), ((λ _. inl (omega arith), tt), (tt, tt))),
      );
    }

pub p10_good : Good p10_host p10_memory
p10_good =
    record {
      bridges_rise = (λ _. omega arith, (λ e. absurd (false≢true e), tt));
      tree = p10_tree;
      nested = p10_nested;
      disjoint
          = p10_disjoint;
    }
