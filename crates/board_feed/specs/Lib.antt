-- A board of any length, fed in pieces: what is kept of it, what its frame tells, and that it comes to document 01's plan.
pub mod Tally
pub mod Shown
pub mod ShownLaws
pub mod Feed
pub mod LongBoards
pub mod FeedLaws
