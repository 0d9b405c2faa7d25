-- Document 02, E1: the record numbers of a sheet, as a broadcast's list has them.
pub mod Counted
pub mod CountedLaws
