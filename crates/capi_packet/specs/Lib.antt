-- The calls on a header: read as twenty numbers and written from them.
pub mod Calls
pub mod CallsLaws
