-- The audit's program: what it prints for any input, and an input of any length fed in pieces, which comes to that.
pub mod Program
pub mod ProgramLaws
pub mod Feed
pub mod LongSheets
pub mod FeedLaws
