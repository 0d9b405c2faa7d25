-- A header's label by an index.
pub mod Found
pub mod FoundLaws
