-- `board_record::pool_wrong` meets its contract: a closed pool has no edges. Assumes nothing.
use native.Mathlib.Omega.{arith}
use mathlib.Core.Bool.{◌||◌}
use Prim.Native.Nat.{ℕ}
use mathlib.Core.Path.{sym, ap, ap₂, ◌∙◌}
use borrow.Author.Tests.{lt-leb, le-leb}
use Rattle.board_record.specs.Host.{pool_wrong, off_edges}
use Rattle.pools.specs.PoolsLaws.{granule_pos}
use Rattle.board_record.proofs.pool_wrong.Goals as goal

pub returns-then-x : goal.returns-then-x
unfolding pool_wrong
returns-then-x c = sym (rw (lt-leb c.args.x.base c.args.x.last c.if-x.true))

pub off_edges-requires : goal.off_edges-requires
off_edges-requires c = omega (arith, c.granule.ensures, granule_pos c.args.q)

pub returns : goal.returns
unfolding pool_wrong
returns c = ap₂ ◌||◌ c.outside.ensures
    (c.off_edges.ensures ∙ ap (λ (g : ℕ). off_edges g c.args.x) c.granule.ensures)
    ∙ sym (rw (le-leb c.args.x.base c.args.x.last c.if-x.false))
