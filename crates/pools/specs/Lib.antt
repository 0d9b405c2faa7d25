pub mod Pools
pub mod PoolsLaws
