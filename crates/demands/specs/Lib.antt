-- Document 01's examples, the user's demands, and what becomes of a packet that goes by ID. Document 02's requests stand in requests.
pub mod Examples
pub mod Demand2
pub mod Demand3
pub mod ById
