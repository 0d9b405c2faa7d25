-- The IDs that were met so far, as bits.
pub mod Marks
pub mod MarksLaws
