-- Document 01: the register sheet, in its order: the checks, the lookup, the registers that the walk reads; then their laws.
pub mod Sheet
pub mod Lookup
pub mod Spaces
pub mod Commands
pub mod ReadSoFar
pub mod Examples
