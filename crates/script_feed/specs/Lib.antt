-- The script's program: what it writes for any input, and an input of any length fed in pieces, which comes to that.
pub mod Program
pub mod Feed
pub mod FeedLaws
