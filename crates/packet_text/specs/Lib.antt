-- A packet as text.
pub mod Labels
pub mod Examples
