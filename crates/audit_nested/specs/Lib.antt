-- The laws of 51 in the words of the code.
pub mod NestedLaws
