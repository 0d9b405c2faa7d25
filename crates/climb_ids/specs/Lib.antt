-- The way of a packet from a function, by ID or only up: definitions, then their laws, up to the promise of document 03.
pub mod ById
pub mod Promise
pub mod Examples
