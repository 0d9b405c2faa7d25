-- The table of an index, and the search by it on any bytes; their laws; and what the search finds in an index that was built.
pub mod Table
pub mod Search
pub mod SegmentLaws
pub mod TableLaws
pub mod SearchLaws
pub mod BuiltLaws
