-- Document 01: a plan printed whole.
pub mod Listing
pub mod BoardText
pub mod Examples
