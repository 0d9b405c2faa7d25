-- `plan_items::walk_items` meets its contract. Assumes nothing.
use Rattle.plan_items.specs.LoopLaws.{walking_of_walkable, walked_all}
use Rattle.plan_items.proofs.walk_items.Goals as goal

pub walk_records-requires : goal.walk_records-requires
walk_records-requires c = walking_of_walkable _ _ c.requires c.laid_host.ensures c.bases_of.ensures c.fill_cursors.ensures c.fill_cursors.auto.cursors

pub returns : goal.returns
returns c = walked_all _ (λ i. (c.type_inv.board i).fits) c.requires c.watched_pool.ensures c.walk_records.ensures
