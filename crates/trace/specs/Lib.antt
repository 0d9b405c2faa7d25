-- Document 02, E4: the lines of a trace, whole and in pieces, over any line of a record.
pub mod Annotated
pub mod Trace
pub mod Feed
