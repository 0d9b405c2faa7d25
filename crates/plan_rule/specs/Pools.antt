-- The pools under the short names that the placing rule uses. Assumes nothing.
pub use Rattle.pools.specs.declared.Pool.{Pool}
pub use Rattle.pools.specs.declared.Pool.TheVariants.{Low as low, High as high, Io as io}
pub use Rattle.pools.specs.Pools.{granule, refusal, same_pool, is_memory}
