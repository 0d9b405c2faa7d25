-- Theorems on the definitions of specs/, and lemmas.
pub mod BoardText
pub mod Examples
pub mod LengthLaws
pub mod ListingLaws
