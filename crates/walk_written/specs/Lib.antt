-- The walk over registers that are written one after another: delivery and safety while some registers are still zero; and stores that copy
-- a list's own elements to their own places.
pub mod Partly
pub mod Copied
