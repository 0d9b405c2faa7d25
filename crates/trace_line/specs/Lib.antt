-- Document 02, E4: a record's line, and that it has at most 40 bytes.
pub mod Line
pub mod Finder
pub mod Bounds
pub mod LineLaws
