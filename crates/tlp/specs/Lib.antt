-- The header codec: document 01's reading and writing.
pub mod Reading
pub mod Writing
pub mod WritingLaws
pub mod ReadingLaws
pub mod RoundTrip
pub mod FrontLaws
pub mod NumberLaws
