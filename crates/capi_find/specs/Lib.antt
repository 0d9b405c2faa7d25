-- The search by an index at the C boundary: what it answers, and a packet's numbers.
pub mod Calls
pub mod FoundLaws
pub mod NumbersLaws
