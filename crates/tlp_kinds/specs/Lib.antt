-- The kinds that byte 0 tells by comparison, and what a header of each is read as.
pub mod Kinds
pub mod KindsLaws
