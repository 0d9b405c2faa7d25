-- Document 03, E15: a record's line with both ends, and that it has at most 51 bytes.
pub mod Ends
pub mod RecordLaws
pub mod Bounds
pub mod EndsLaws
