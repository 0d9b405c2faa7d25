-- The call for a request from a card: what it answers, for a record number of any size, and that no refusal has the number 0.
pub mod Calls
pub mod Wide
pub mod Numbered
